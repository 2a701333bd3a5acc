-- `arguments::number_of` answers `number_of`. Assumes nothing.
use Prim.Native.Nat.{ℕ, ◌<◌}
use native.Mathlib.Omega.{arith}
use mathlib.Core.Path.{sym, subst}
use Rattle.arguments.proofs.NumberLaws.{digits-none, value_none, digits_more, value-more, empty_none, other-none, large_none, spelled}
use Rattle.arguments.proofs.number_of.Goals as goal

pub returns-then-s-eq0 : goal.returns-then-s-eq0
returns-then-s-eq0 c = sym (empty_none _ c.if-s-eq0.true)

pub loop-i-init : goal.loop-i-init
loop-i-init c = (omega arith, sym (value_none _), digits-none _, omega arith)

pub returns-then-digit-gt9 : goal.returns-then-digit-gt9
returns-then-digit-gt9 c =
    sym (other-none _ _ c.loop-i-test.true
    (subst (λ (d : ℕ). 9 < d) c.digit_of-digit.ensures c.if-digit-gt9.true))

pub returns-then-value-gt4294967295 : goal.returns-then-value-gt4294967295
returns-then-value-gt4294967295 c =
    let e = value-more _ _ _ _ c.loop-i.invariant.1 c.digit_of-digit.ensures in
    sym (large_none _ _ c.loop-i-test.true (omega (arith, e, c.if-value-gt4294967295.true)))

pub loop-i-preserved : goal.loop-i-preserved
loop-i-preserved c =
    let l = c.loop-i in (
      l.invariant.0,
      value-more _ _ _ _ l.invariant.1 c.digit_of-digit.ensures,
      digits_more _ _ l.invariant.2 (subst (λ (d : ℕ). d < 10) c.digit_of-digit.ensures (omega arith)),
      omega arith,
    )

pub returns : goal.returns
returns c = let i = c.loop-i.invariant in sym (spelled _ _ _ (omega arith) i.0 i.1 i.2 i.3)
