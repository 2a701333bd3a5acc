-- `marks::reach` meets its contract. The loop's invariant: the inputs passed are marked and listed. Assumes nothing.
use Prim.Native.Nat.{◌+◌}
use mathlib.Core.Path.{◌≡◌}
use lib.ListN.{length, get_or}
use Rattle.marks.specs.inner.Marks.{Among, Reached}
use Rattle.marks.proofs.reach.Given as goal

abbrev pub invariant-loop-j : goal.invariant-loop-j
invariant-loop-j l =
    (length l.marks ≡ length l.initial.marks) × (length l.list ≡ length l.initial.list) ×
    Reached (Among (λ i. get_or l.rows (l.first + i) 0) l.j) l.initial.marks l.marks l.initial.list l.list l.start l.end
