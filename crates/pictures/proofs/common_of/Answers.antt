-- `pictures::common_of` meets its contract. Assumes nothing.
use Rattle.pictures.specs.inner.Steps.{common}
use Rattle.pictures.proofs.EdgeLaws.{room_fits}
use Rattle.std.proofs.Common.{refl, arith}
use Rattle.pictures.proofs.common_of.Goals as goal

pub overflow_mul-result : goal.overflow_mul-result
unfolding common
overflow_mul-result c = omega (arith, room_fits c.args.left c.args.od (omega arith) (omega arith))

pub returns : goal.returns
unfolding common
returns c = (refl, room_fits c.args.left c.args.od (omega arith) (omega arith))
