-- `references::put_names` meets its contract. Assumes nothing.
use Rattle.references.proofs.NameLaws.{names-other, names-over, names-put}
use Rattle.references.proofs.put_names.Goals as goal

pub returns-then-table-a-ne2 : goal.returns-then-table-a-ne2
returns-then-table-a-ne2 c =
    let a = c.args in
    names-other a.table.now a.n a.k _ a.row.0 _ _ c.item-a.ensures c.if-table-a-ne2.true

pub returns-then-first-count-gt512 : goal.returns-then-first-count-gt512
returns-then-first-count-gt512 c =
    let a = c.args in
    names-over a.table.now a.n a.k _ a.row.0 _ _ c.item-a.ensures c.if-first-count-gt512.true

pub returns : goal.returns
returns c =
    let a = c.args in
    names-put a.table.now a.n a.k _ a.row.0 _ _ c.item-a.ensures c.if-table-a-ne2.false _
    c.put_named.ensures
