-- `arranged::keep_quarters` meets its contract. Assumes nothing.
use Rattle.arranged.specs.inner.Order.{QuartersKept}
use Rattle.arranged.proofs.keep_quarters.Given as goal

abbrev pub invariant-loop-k : goal.invariant-loop-k
invariant-loop-k l = QuartersKept l.k l.c l.table l.initial.kept l.kept
