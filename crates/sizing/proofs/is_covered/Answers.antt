-- `sizing::is_covered` meets its contract: a product of two words fits in 64 bits. Assumes nothing.
use native.Mathlib.Nat.{mul-le-mul_right}
use native.Mathlib.Omega.{arith}
use Rattle.sizing.proofs.is_covered.Goals as goal

pub overflow_mul-result : goal.overflow_mul-result
overflow_mul-result c = omega (arith, mul-le-mul_right {m = c.args.tile} {n = 4294967295} c.args.count (omega arith))
