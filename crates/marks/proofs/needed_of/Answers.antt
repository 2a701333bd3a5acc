-- `marks::needed_of` meets its contract. Assumes nothing.
use Prim.Native.Nat.{ℕ}
use mathlib.Core.Path.{◌≡◌}
use lib.ListN.{replicate}
use Rattle.marks.proofs.MarkLaws.{zeros_bits, zeros_room, listing_first, found_all, needed_found}
use Rattle.marks.proofs.needed_of.Goals as goal

pub list_row-end-requires : goal.list_row-end-requires
list_row-end-requires c = (zeros_bits, zeros_room)

pub reach_all-requires : goal.reach_all-requires
reach_all-requires c =
    let a = c.args in (
      c.requires,
      listing_first a.table.now a.rows.now a.n (λ (y : ℕ). a.row.0 ≡ y) c.list_row-end.new.marks
          (replicate 256 0) c.list_row-end.new.list c.list_row-end.result c.list_row-end.ensures c.list_row-end.auto.list,
    )

pub returns : goal.returns
returns c =
    let a = c.args in
    needed_found a.table.now a.rows.now a.n a.row.0 c.reach_all.new.marks
    (found_all a.table.now a.rows.now a.n (λ (y : ℕ). a.row.0 ≡ y) c.list_row-end.new.marks (replicate 256 0)
    c.list_row-end.new.list c.list_row-end.result c.list_row-end.ensures c.reach_all.new.marks c.list_row-end.auto.marks c.reach_all.ensures)
