-- `associations::put_associations` meets its contract. Assumes nothing.
use Rattle.associations.proofs.AssociationLaws.{ListSo}
use Rattle.associations.proofs.put_associations.Given as goal

abbrev pub invariant-loop-j : goal.invariant-loop-j
invariant-loop-j l = ListSo l.s l.from l.w l.k l.place l.most l.used l.initial.table l.table l.at l.j
