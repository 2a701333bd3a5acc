-- `sizing::put_sizes` meets its contract: five stores side by side. Assumes nothing.
use lib.ListN.{length-set}
use Rattle.sizing.proofs.FillLaws.{sizes-stored}
use native.Mathlib.Omega.{arith}
use Rattle.sizing.proofs.put_sizes.Goals as goal

pub bounds-table-at-2 : goal.bounds-table-at-2
bounds-table-at-2 c = simp length-set (omega arith)

pub bounds-table-at-3 : goal.bounds-table-at-3
bounds-table-at-3 c = simp length-set (omega arith)

pub bounds-table-at-4 : goal.bounds-table-at-4
bounds-table-at-4 c = simp length-set (omega arith)

pub bounds-table-at-5 : goal.bounds-table-at-5
bounds-table-at-5 c = simp length-set (omega arith)

pub returns : goal.returns
returns c =
    let a = c.args in
    sizes-stored a.table.now _ a.row.0 a.s a.o a.depth c.item-at.ensures
