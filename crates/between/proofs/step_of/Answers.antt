-- `between::step_of` meets its contract: a point lies no further than the end. Assumes nothing.
use native.Mathlib.Omega.{arith}
use Rattle.between.proofs.SeamLaws.{step_none, step_some, step_end}
use Rattle.between.proofs.step_of.Goals as goal

pub returns-then-n-lt2 : goal.returns-then-n-lt2
returns-then-n-lt2 c = (omega arith, λ q. step_none _ _ _ c.if-n-lt2.true)

pub returns-then-far-step : goal.returns-then-far-step
returns-then-far-step c =
    (omega arith, λ q. step_end _ _ _ _ c.product.ensures.1 c.if-n-lt2.false q c.if-far-step.true)

pub returns : goal.returns
returns c =
    (omega arith, λ q. step_some _ _ _ _ c.product.ensures.1 c.if-n-lt2.false)
