-- `arranged::rows_by_place` meets its contract. Assumes nothing.
use Prim.Native.Nat.{◌≤◌}
use mathlib.Core.Path.{◌≡◌}
use lib.ListN.{length, get_or}
use Rattle.arranged.specs.inner.Order.{PlacesApart, ByPlace}
use Rattle.arranged.proofs.rows_by_place.Given as goal

abbrev pub invariant-loop-k : goal.invariant-loop-k
invariant-loop-k l =
    (l.n ≡ get_or l.table 0 0) × (l.n ≤ 256) × (length l.rows ≡ 256) × (PlacesApart l.n l.table → ByPlace l.k l.table l.rows)
