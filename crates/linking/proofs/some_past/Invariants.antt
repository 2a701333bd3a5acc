-- `linking::some_past` meets its contract. The loop's invariant: the extents passed name no row with a mark. Assumes nothing.
use Prim.Native.Nat.{ℕ, ◌≤◌, ◌<◌}
use mathlib.Core.Path.{◌≡◌}
use mathlib.Core.Bool.{false}
use Rattle.linking.specs.inner.Bytes.{names_marked}
use Rattle.linking.proofs.some_past.Given as goal

abbrev pub invariant-loop-e : goal.invariant-loop-e
invariant-loop-e l =
    (i : ℕ) → l.first ≤ i → i < l.e → names_marked l.rows l.links i ≡ false
