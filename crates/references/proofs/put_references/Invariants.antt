-- `references::put_references` meets its contract. Assumes nothing.
use Prim.Native.Nat.{◌-◌}
use lib.ListN.{length}
use Rattle.references.proofs.ChildrenLaws.{So}
use Rattle.references.proofs.RowedLaws.{Rowing}
use Rattle.references.proofs.put_references.Given as goal

abbrev pub invariant-loop-kind : goal.invariant-loop-kind
invariant-loop-kind l =
    So l.s l.w l.place l.base l.n l.initial.table l.initial.rows l.table l.rows l.at l.used × Rowing l.n l.used l.initial.rows l.table l.rows

abbrev pub decreases-loop-kind : goal.decreases-loop-kind
decreases-loop-kind l = length l.s - l.at
