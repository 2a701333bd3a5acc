-- `corners::product` meets its contract: a product of two words fits in 64 bits. Assumes nothing.
use native.Mathlib.Nat.{mul-le-mul_right}
use native.Mathlib.Omega.{arith}
use mathlib.Core.Path.{refl}
use Rattle.corners.proofs.product.Goals as goal

pub overflow_mul-result : goal.overflow_mul-result
overflow_mul-result c = omega (arith, mul-le-mul_right {m = c.args.a} {n = 4294967295} c.args.b (omega arith))

pub returns : goal.returns
returns c = (omega (arith, mul-le-mul_right {m = c.args.a} {n = 4294967295} c.args.b (omega arith)), refl)
