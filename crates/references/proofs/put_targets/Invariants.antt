-- `references::put_targets` meets its contract. Assumes nothing.
use Rattle.references.proofs.TargetLaws.{So}
use Rattle.references.proofs.RowedLaws.{Beside}
use Rattle.references.proofs.put_targets.Given as goal

abbrev pub invariant-loop-j : goal.invariant-loop-j
invariant-loop-j l =
    So l.s l.from l.w l.k l.place l.n l.keep l.used l.initial.table l.table l.at l.j ×
    Beside l.n l.used l.keep l.initial.table l.initial.rows l.j l.table l.rows
