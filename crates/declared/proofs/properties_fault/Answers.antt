-- `declared::properties_fault` meets its contract: one law a way out. Assumes nothing.
use mathlib.Core.Path.{sym, ◌∙◌}
use Rattle.fields.proofs.FieldLaws.{pick_yes, pick_no}
use Rattle.declared.proofs.properties_fault.Goals as goal

pub returns-then-not-essentials_known : goal.returns-then-not-essentials_known
returns-then-not-essentials_known c = λ head pl f v h. sym (pick_no _ _ (sym (c.essentials_known.ensures head pl f v h) ∙ c.if-not-essentials_known.true))

pub returns-then-is_configured : goal.returns-then-is_configured
returns-then-is_configured c =
    λ head pl f v h. sym (pick_yes _ _ (sym (c.essentials_known.ensures head pl f v h) ∙ c.if-not-essentials_known.false)
    ∙ pick_yes 16 29 (sym (c.is_configured.ensures head pl f v h) ∙ c.if-is_configured.true))

pub returns-else-is_configured : goal.returns-else-is_configured
returns-else-is_configured c =
    λ head pl f v h. sym (pick_yes _ _ (sym (c.essentials_known.ensures head pl f v h) ∙ c.if-not-essentials_known.false)
    ∙ pick_no 16 29 (sym (c.is_configured.ensures head pl f v h) ∙ c.if-is_configured.false))
