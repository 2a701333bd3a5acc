-- `marks::ground_row` meets its contract. Assumes nothing.
use mathlib.Core.Path.{sym, ◌∙◌}
use Rattle.marks.proofs.GroundLaws.{ground_same, ground_marked}
use Rattle.marks.proofs.ground_row.Goals as goal

pub returns-then-rests_on_marked : goal.returns-then-rests_on_marked
returns-then-rests_on_marked c =
    let a = c.args in
    ground_marked a.table.now a.rows.now a.row.0 a.marks.now c.mark.new.marks c.mark.result
    (sym c.word.ensures ∙ c.if-word-eq0.true) (c.rests_on_marked.ensures c.if-rests_on_marked.true) c.mark.ensures

pub returns : goal.returns
returns c = ground_same _ _ _ c.requires.1
