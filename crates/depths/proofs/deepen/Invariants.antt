-- `depths::deepen` meets its contract. The loop's invariant: the sweep is done for the rows passed, and settled where
-- it is not to be done again. Assumes nothing.
use Rattle.depths.proofs.SweepLaws.{Sweeping}
use Rattle.depths.proofs.deepen.Given as goal

abbrev pub invariant-loop-k : goal.invariant-loop-k
invariant-loop-k l =
    Sweeping l.table l.rows l.n l.up l.places l.k l.above l.initial.depths l.depths l.again
