-- `joining::all_filed` meets its contract. The loop's invariant: the extents passed lie in the head. Assumes nothing.
use Prim.Native.Nat.{ℕ, ◌+◌, ◌≤◌, ◌<◌}
use mathlib.Core.Path.{◌≡◌}
use mathlib.Core.Bool.{true}
use lib.Dec.{leb}
use Rattle.linking.specs.inner.Links.{offset_at, size_at}
use Rattle.joining.proofs.all_filed.Given as goal

abbrev pub invariant-loop-e : goal.invariant-loop-e
invariant-loop-e l =
    (i : ℕ) → l.first ≤ i → i < l.e → leb (offset_at l.table i + size_at l.table i) l.end ≡ true
