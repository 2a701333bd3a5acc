-- `marks::all_marked` meets its contract. The loop's invariant: the rows passed are marked. Assumes nothing.
use Prim.Native.Nat.{ℕ, ◌<◌}
use Rattle.marks.specs.inner.Marks.{Marked}
use Rattle.marks.proofs.all_marked.Given as goal

abbrev pub invariant-loop-r : goal.invariant-loop-r
invariant-loop-r l = (j : ℕ) → j < l.r → Marked l.marks j
