-- `items::fill_items` meets its contract: the rows before i hold the items of the boxes before `at`, the keys those of their IDs. Assumes nothing.
use Rattle.items.proofs.FillLaws.{So}
use Rattle.items.proofs.fill_items.Given as goal

abbrev pub invariant-loop-i : goal.invariant-loop-i
invariant-loop-i l = So l.s l.from l.n l.place l.base l.initial.table l.table l.at l.filled l.keys l.i
