-- `between::on_the_way` answers `on_the_way`. Assumes nothing.
use Prim.Native.Nat.{ℕ}
use native.Mathlib.Omega.{arith}
use mathlib.Core.Path.{ap, ◌∙◌}
use Rattle.between.specs.inner.Seam.{step_of}
use Rattle.between.proofs.SeamLaws.{apart_up, apart-down, way_up, way_down}
use Rattle.between.proofs.on_the_way.Goals as goal

pub overflow_add-result : goal.overflow_add-result
overflow_add-result c =
    let u = apart_up _ _ c.if-a-b.true in
    omega (arith, c.step_of-step.ensures.0, c.apart_of.ensures, u)

pub returns-then-a-b : goal.returns-then-a-b
returns-then-a-b c q =
    let e = c.apart_of.ensures in
    way_up _ _ _ _ _ (c.step_of-step.ensures.1 q ∙ ap (λ (m : ℕ). step_of m c.args.k c.args.n) e) c.if-a-b.true

pub overflow_sub-result : goal.overflow_sub-result
overflow_sub-result c =
    let u = apart-down _ _ c.if-a-b.false in
    omega (arith, c.step_of-step.ensures.0, c.apart_of.ensures, u)

pub returns : goal.returns
returns c q =
    let e = c.apart_of.ensures in
    way_down _ _ _ _ _ (c.step_of-step.ensures.1 q ∙ ap (λ (m : ℕ). step_of m c.args.k c.args.n) e) c.if-a-b.false
