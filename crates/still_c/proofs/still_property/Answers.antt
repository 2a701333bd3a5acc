-- `still_c::still_property` meets its contract. Assumes nothing.
use native.Mathlib.Omega.{arith}
use Rattle.still_c.proofs.still_property.Goals as goal

pub returns : goal.returns
returns c =
    let a = c.args in (
      c.property_numbers.ensures a.total a.head.now a.table.now a.item a.k
          (omega (arith, c.ranges.total)) c.property_asked-a.ensures.0 c.property_asked-a.ensures.1,
      c.property_asked-a.ensures.1,
    )
