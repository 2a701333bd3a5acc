-- `corners::offset_in` meets its contract. Assumes nothing.
use native.Mathlib.Omega.{arith}
use Rattle.corners.proofs.offset_in.Goals as goal

pub returns-then-bytes-eq2 : goal.returns-then-bytes-eq2
returns-then-bytes-eq2 c = record {
  x_value =
      λ e h. (c.short_at.ensures (omega arith), c.short_at-then-bytes-eq2.ensures (omega arith));
  x_value_2 =
      λ e h. absurd (omega (arith, e, c.if-bytes-eq2.true));
}

pub returns : goal.returns
returns c = record { x_value = λ e h. absurd (c.if-bytes-eq2.false e); x_value_2 = λ e h. (c.long_at.ensures (omega arith), c.long_at-2.ensures (omega arith)) }
