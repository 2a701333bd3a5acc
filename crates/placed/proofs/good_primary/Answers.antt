-- `placed::good_primary` meets its contract. Assumes nothing.
use mathlib.Core.Path.{sym, ◌∙◌}
use Rattle.placed.proofs.PrimaryLaws.{primary-unlisted, primary-opaque, primary-shown}
use Rattle.placed.proofs.good_primary.Goals as goal

pub returns-in-None : goal.returns-in-None
returns-in-None c = λ head pl f v. primary-unlisted v _ c.word.ensures (c.in-None.ensures head pl f v)

pub returns-then-is_image : goal.returns-then-is_image
returns-then-is_image c =
    λ head pl f v. primary-shown v _ c.word.ensures _ (c.in-Some.ensures head pl f v) _ c.type_of.ensures
    (sym c.is_image.ensures ∙ c.if-is_image.true) _ c.record_word.ensures

pub returns-else-is_image : goal.returns-else-is_image
returns-else-is_image c =
    λ head pl f v. c.if-is_image.false ∙ primary-opaque v _ c.word.ensures _ (c.in-Some.ensures head pl f v) _ c.type_of.ensures
    (sym c.is_image.ensures ∙ c.if-is_image.false)
