-- `marks::reach_listed` meets its contract. Assumes nothing.
use lib.ListN.{get_or}
use Rattle.marks.proofs.MarkLaws.{reached_of, reached_off}
use Rattle.marks.proofs.reach_listed.Goals as goal

pub returns-then-r-n : goal.returns-then-r-n
returns-then-r-n c =
    let a = c.args in
    reached_of a.table.now a.rows.now a.n c.word-r.result (get_or a.list.now a.k 0) a.marks.now
    c.reach.new.marks a.list.now c.reach.new.list a.end c.reach.result c.word-r.ensures c.if-r-n.true
    c.reach.ensures

pub returns : goal.returns
returns c =
    let a = c.args in
    reached_off a.table.now a.rows.now a.n c.word-r.result (get_or a.list.now a.k 0) a.marks.now
    a.marks.now a.list.now a.list.now a.end a.end c.word-r.ensures c.if-r-n.false c.requires.1
