-- `arranged::put_quarters` meets its contract. Assumes nothing.
use Rattle.arranged.specs.inner.Order.{QuartersPut}
use Rattle.arranged.proofs.put_quarters.Given as goal

abbrev pub invariant-loop-k : goal.invariant-loop-k
invariant-loop-k l = QuartersPut l.k l.c l.kept l.rows l.initial.table l.table
