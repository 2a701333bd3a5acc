-- `linking::settle_all` meets its contract. The loop's invariant: the rows passed have their bytes with levels up to k. Assumes nothing.
use Rattle.linking.proofs.ByteLaws.{Sweeping}
use Rattle.linking.proofs.settle_all.Given as goal

abbrev pub invariant-loop-r : goal.invariant-loop-r
invariant-loop-r l =
    Sweeping l.table l.rows l.n l.r l.k l.initial.links l.links l.grew
