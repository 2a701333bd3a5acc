-- `depths::fed_by` meets its contract. The loop's invariant: `depth` is 1 plus the largest depth of the inputs passed,
-- and their places lie below `above`. Assumes nothing.
use Prim.Native.Nat.{◌+◌}
use mathlib.Core.Path.{◌≡◌}
use lib.ListN.{get_or}
use Rattle.depths.specs.inner.Rounds.{at, deepest}
use Rattle.depths.proofs.SweepLaws.{Before}
use Rattle.depths.proofs.fed_by.Given as goal

abbrev pub invariant-loop-j : goal.invariant-loop-j
invariant-loop-j l =
    (l.depth ≡ deepest (at l.depths) (λ i. get_or l.rows (l.first + i) 0) l.j) ×
    Before l.n l.up l.places (λ i. get_or l.rows (l.first + i) 0) l.j l.above
