-- `marks::derives_itself` meets its contract. Assumes nothing.
use native.Mathlib.Omega.{arith}
use lib.ListN.{replicate}
use Rattle.marks.specs.inner.Marks.{IsInput}
use Rattle.marks.proofs.MarkLaws.{zeros_bits, zeros_room, listing_first, found_all, itself_found}
use Rattle.marks.proofs.derives_itself.Goals as goal

pub reach-end-requires : goal.reach-end-requires
reach-end-requires c =
    (omega (arith, c.requires, c.if-n-r.false), zeros_bits, zeros_room)

pub reach_all-requires : goal.reach_all-requires
reach_all-requires c =
    let a = c.args in (
      c.requires,
      listing_first a.table.now a.rows.now a.n (IsInput a.table.now a.rows.now a.row.0)
          c.reach-end.new.marks (replicate 256 0) c.reach-end.new.list c.reach-end.result c.reach-end.ensures c.reach-end.auto.list,
    )

pub returns : goal.returns
returns c =
    let a = c.args in
    itself_found a.table.now a.rows.now a.n a.row.0 c.reach_all.new.marks c.word.result
    (found_all a.table.now a.rows.now a.n (IsInput a.table.now a.rows.now a.row.0)
    c.reach-end.new.marks (replicate 256 0) c.reach-end.new.list c.reach-end.result c.reach-end.ensures c.reach_all.new.marks
    c.reach-end.auto.marks c.reach_all.ensures) c.word.ensures
