-- `properties::put_property` meets its contract. Assumes nothing.
use Rattle.properties.proofs.PropertyLaws.{four_stores}
use Rattle.properties.proofs.put_property.Goals as goal

pub returns : goal.returns
returns c =
    let a = c.args in
    four_stores a.table.now _ _ a.kind a.offset a.size 0 c.property-a.ensures
