-- `still::part_read` meets its contract. Assumes nothing.
use Rattle.std.proofs.Common.{sym, ◌∙◌}
use Rattle.opening.proofs.FileLaws.{file-view, table_is}
use Rattle.still.proofs.PropertyLaws.{property_off, property-found, property-on, property-placed, property-nowhere, index-there}
use Rattle.still.proofs.part_read.Goals as goal

pub returns-in-Err : goal.returns-in-Err
returns-in-Err c =
    let a = c.args in
    let r = c.index_read-a.ensures in
    let e = sym r.asked_read.0 ∙ c.in-Err.is in
    let o = property_off a.total a.head.now a.table.now a.id.0 a.k _ e in record {
      property_read = (o.0, (o.1, r.asked_read.1));
      part_placed = property-nowhere a.total a.head.now a.table.now a.id.0 a.k _ e _ _;
      order_given = r.order_given;
    }

pub returns-in-Ok : goal.returns-in-Ok
returns-in-Ok c =
    let a = c.args in
    let r = c.index_read-a.ensures in
    let few = c.ranges.total.fits in
    let k = property-found a.total a.head.now a.table.now a.id.0 a.k _ (sym r.asked_read.0 ∙ c.in-Ok.is) in
    let v = file-view a.total a.head.now a.table.now few k.0 k.1 _ r.asked_read.1 in
    let w = table_is a.total a.head.now a.table.now few k.0 k.1 _ r.asked_read.1 in
    let there = index-there _ _ _ k.0 _ _ _ v k.2 in
    let z = property-on a.total a.head.now a.table.now a.id.0 a.k k.0 _ k.1 k.2 in record {
      property_read = (c.property_box.ensures.result_value _ k.0 v there ∙ z.0, (z.1, r.asked_read.1));
      part_placed = property-placed a.total a.head.now a.table.now a.id.0 a.k k.0 _ k.1 k.2 _ _
          (c.property_box.ensures.by_index a.total _ k.0 w v there);
      order_given = r.order_given;
    }
