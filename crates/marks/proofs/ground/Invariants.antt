-- `marks::ground` meets its contract. The loop's invariant: what is marked so far stays grounded. Assumes nothing.
use mathlib.Core.Path.{◌≡◌}
use lib.ListN.{length}
use Rattle.marks.specs.inner.Grounds.{Ground}
use Rattle.marks.proofs.ground.Given as goal

abbrev pub invariant-loop-k : goal.invariant-loop-k
invariant-loop-k l =
    (length l.marks ≡ length l.initial.marks) × Ground l.table l.rows l.initial.marks l.marks l.grew
