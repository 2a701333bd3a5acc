-- `locations::put_entries` meets its contract. The loop's invariant is `So`: the entries so far are read and in the
-- table, and their marks among the rows. Assumes nothing.
use Rattle.locations.proofs.LoopLaws.{So}
use Rattle.locations.proofs.put_entries.Given as goal

abbrev pub invariant-loop-i : goal.invariant-loop-i
invariant-loop-i l =
    So l.s l.from l.count l.w l.place l.n l.idat l.initial.table l.initial.rows l.table l.rows l.at l.used l._i
