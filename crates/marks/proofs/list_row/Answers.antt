-- `marks::list_row` meets its contract. Assumes nothing.
use native.Mathlib.Omega.{arith}
use Rattle.marks.proofs.MarkLaws.{reached_idle, reached_set}
use Rattle.marks.proofs.list_row.Goals as goal

pub returns-then-mark : goal.returns-then-mark
returns-then-mark c =
    let a = c.args in
    reached_set a.x a.marks.now c.mark.new.marks a.list.now a.end c.mark.result c.mark.ensures c.if-mark.true
    (omega (arith, c.mark.ensures.grown.more c.if-mark.true, c.requires.1))

pub returns : goal.returns
returns c =
    let a = c.args in
    reached_idle a.x a.marks.now c.mark.new.marks a.list.now a.end c.mark.result c.mark.ensures c.if-mark.false
