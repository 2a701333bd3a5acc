-- `still::property` meets its contract. Assumes nothing.
use Rattle.still.proofs.property.Goals as goal

pub returns : goal.returns
returns c =
    let a = c.args in
    let r = c.part_read-part.ensures in record {
      property_given = (
        r.property_read.0,
        (
          r.property_read.1.0,
          c.arrange.ensures a.total a.head.now a.table.now r.property_read.1.1 r.order_given,
        ),
      );
      part_placed = r.part_placed;
    }
