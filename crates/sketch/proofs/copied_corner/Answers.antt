-- `sketch::copied_corner` is safe. Assumes nothing.
use Rattle.std.proofs.Common.{ℕ, ◌*◌, ◌<◌, ◌≤◌, mul-le-mul_right, arith}
use Rattle.sketch.proofs.copied_corner.Goals as goal

offsets-short : (bytes k : ℕ) → bytes ≤ 4 → k < 4294967296 → 2 * bytes * k ≤ 34359738368
offsets-short bytes k h l = let a = mul-le-mul_right {m = 2 * bytes} {n = 8} k (omega arith) in omega arith

pub overflow_mul-from-2 : goal.overflow_mul-from-2
overflow_mul-from-2 c =
    omega (arith, offsets-short c.args.bytes c.args.k c.requires (omega (arith, c.ranges.k)))

pub copy_bytes-requires : goal.copy_bytes-requires
copy_bytes-requires c =
    omega (arith, c.requires, offsets-short c.args.bytes c.args.k c.requires (omega (arith, c.ranges.k)))
