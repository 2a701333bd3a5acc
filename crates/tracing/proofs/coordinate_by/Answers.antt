-- `tracing::coordinate_by` meets its contract. Assumes nothing.
use Rattle.std.proofs.Common.{arith}
use Rattle.tracing.proofs.OriginLaws.{coordinate-moved}
use Rattle.tracing.proofs.coordinate_by.Goals as goal

pub returns : goal.returns
returns c =
    let a = c.args in
    coordinate-moved a.c a.other (omega arith) (omega arith) _ c.moved.ensures
