-- `marks::reach_all` meets its contract. The loop's invariant: the inputs of the listed rows passed are marked and
-- listed. The measure is what is left of the list's room. Assumes nothing.
use Prim.Native.Nat.{◌-◌}
use mathlib.Core.Path.{◌≡◌}
use lib.ListN.{length}
use Rattle.marks.proofs.MarkLaws.{Reaching}
use Rattle.marks.proofs.reach_all.Given as goal

abbrev pub invariant-loop-k : goal.invariant-loop-k
invariant-loop-k l =
    (length l.marks ≡ length l.initial.marks) × (length l.list ≡ length l.initial.list) ×
    Reaching l.table l.rows l.n l.initial.marks l.initial.list l.start l.marks l.list l.end l.k

abbrev pub decreases-loop-k : goal.decreases-loop-k
decreases-loop-k l = length l.initial.list - l.k
