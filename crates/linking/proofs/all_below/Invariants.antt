-- `linking::all_below` meets its contract. The loop's invariant: the extents passed name rows of a level below k. Assumes nothing.
use Prim.Native.Nat.{ℕ, ◌≤◌, ◌<◌}
use mathlib.Core.Path.{◌≡◌}
use mathlib.Core.Bool.{true}
use Rattle.linking.specs.inner.Bytes.{names_below}
use Rattle.linking.proofs.all_below.Given as goal

abbrev pub invariant-loop-e : goal.invariant-loop-e
invariant-loop-e l =
    (i : ℕ) → l.first ≤ i → i < l.e → names_below l.rows l.links l.k i ≡ true
