-- `boxes::walk_children` meets its contract. Assumes nothing.
use Rattle.boxes.proofs.FamilyLaws.{So}
use lib.ListN.{length}
use Prim.Native.Nat.{◌-◌}
use Rattle.boxes.proofs.walk_children.Given as goal

abbrev pub invariant-loop-kind : goal.invariant-loop-kind
invariant-loop-kind l = So l.s l.place l.base l.spots l.at

abbrev pub decreases-loop-kind : goal.decreases-loop-kind
decreases-loop-kind l = length l.s - l.at
