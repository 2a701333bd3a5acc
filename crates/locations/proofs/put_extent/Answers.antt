-- `locations::put_extent` meets its contract: four stores side by side. Assumes nothing.
use Prim.Native.Nat.{◌/◌, ◌%◌}
use Rattle.locations.proofs.PutLaws.{four_stored}
use Rattle.locations.proofs.put_extent.Goals as goal

pub returns : goal.returns
returns c =
    let a = c.args in
    four_stored a.table.now _ _ (a.offset / 4294967296) (a.offset % 4294967296) (a.size / 4294967296)
    (a.size % 4294967296) c.extent-a.ensures
