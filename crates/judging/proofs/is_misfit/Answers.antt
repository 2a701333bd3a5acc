-- `judging::is_misfit` meets its contract. Assumes nothing.
use native.Mathlib.Omega.{arith}
use mathlib.Core.Path.{sym, ap, ◌∙◌}
use Rattle.boxes.specs.Types.{image}
use Rattle.rules.specs.Derivations.{scene_of}
use Rattle.judging.proofs.MisfitLaws.{misfit_opaque, misfit_sized}
use Rattle.judging.proofs.is_misfit.Goals as goal

pub returns-else-is_image : goal.returns-else-is_image
returns-else-is_image c =
    let a = c.args in
    λ total f d h. c.if-is_image.false ∙ misfit_opaque (scene_of total a.head.now f) f a.row.0
    (sym (c.if-is_image.false) ∙ c.is_image.ensures ∙
    ap image (c.type_of.ensures (omega (arith, d.followed.view.bounded.few-items)) ∙ d.followed.view.type a.row.0 h))

pub returns-then-is_image : goal.returns-then-is_image
returns-then-is_image c =
    let a = c.args in
    λ total f d h.
    let drawn = sym (c.if-is_image.true) ∙ c.is_image.ensures ∙
    ap image (c.type_of.ensures (omega (arith, d.followed.view.bounded.few-items)) ∙ d.followed.view.type a.row.0 h) in
    misfit_sized (scene_of total a.head.now f) f a.row.0 drawn c.good_sizes.result
    (c.good_sizes.ensures total f d h (sym drawn))
