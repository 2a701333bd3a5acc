-- `associations::put_names` meets its contract. Assumes nothing.
use Rattle.associations.proofs.NameLaws.{NamesSo}
use Rattle.associations.proofs.put_names.Given as goal

abbrev pub invariant-loop-i : goal.invariant-loop-i
invariant-loop-i l =
    NamesSo l.s l.from l.count l.f.most l.f.version l.f.word l.place l.n l.initial.table l.table l.at l.used l.above l.i
