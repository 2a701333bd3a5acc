-- `properties::check_property` meets its contract. Assumes nothing.
use mathlib.Core.Path.{◌≡◌, sym, ap, ◌∙◌}
use native.Mathlib.Omega.{arith}
use Rattle.boxes.specs.Told.{told}
use Rattle.properties.proofs.CheckLaws.{held-ispe, held-clap, held-turned, held-other}
use Rattle.properties.proofs.check_property.Goals as goal

pub returns-in-1769173093 : goal.returns-in-1769173093
returns-in-1769173093 c =
    let a = c.args in
    c.check_ispe.ensures ∙ sym (ap (told (λ u. u)) (held-ispe a.kind a.place a.s.now c.in-1769173093.is))

pub returns-in-1668047216 : goal.returns-in-1668047216
returns-in-1668047216 c =
    let a = c.args in
    c.has_length.ensures ∙ sym (ap (told (λ u. u)) (held-clap a.kind a.place a.s.now c.in-1668047216.is))

pub returns-in-1769107316 : goal.returns-in-1769107316
returns-in-1769107316 c =
    let a = c.args in
    c.has_length-in-1769107316.ensures ∙ sym (ap (told (λ u. u)) (held-turned a.kind a.place a.s.now c.in-1769107316.is))

pub returns-in_default : goal.returns-in_default
unfolding told
returns-in_default c =
    let a = c.args in
    let i : a.kind ≡ 1769107316 → ⊥ = grind arith in
    let m : a.kind ≡ 1768778098 → ⊥ = grind arith in
    sym (ap (told (λ u. u)) (held-other a.kind a.place a.s.now (omega arith) (omega arith) i m))
