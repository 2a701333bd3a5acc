-- `marks::rests_on_marked` meets its contract. The loop's invariant: the inputs passed are marked. Assumes nothing.
use Prim.Native.Nat.{ℕ, ◌+◌}
use lib.ListN.{get_or}
use Rattle.marks.specs.inner.Marks.{Marked, Among}
use Rattle.marks.proofs.rests_on_marked.Given as goal

abbrev pub invariant-loop-j : goal.invariant-loop-j
invariant-loop-j l =
    (x : ℕ) → Among (λ i. get_or l.rows (l.first + i) 0) l.j x → Marked l.marks x
