-- `properties::level_with` meets its contract. Assumes nothing.
use native.Mathlib.Omega.{arith}
use Rattle.properties.proofs.LevelLaws.{level-first, level-second, level_another}
use Rattle.properties.proofs.level_with.Goals as goal

pub returns-in-0 : goal.returns-in-0
returns-in-0 c =
    let a = c.args in
    λ bs b is k h z. level-first a.l a.kind a.body a.end bs b is k h z c.in-0.is

pub returns-in-1 : goal.returns-in-1
returns-in-1 c =
    let a = c.args in
    λ bs b is k h z. level-second a.l a.kind a.body a.end bs b is k h z c.in-1.is

pub returns-in_default : goal.returns-in_default
returns-in_default c =
    let a = c.args in
    λ bs b is k h z. level_another a.l a.kind a.body a.end bs b is k h z (λ e. omega arith) (λ e. omega arith)
