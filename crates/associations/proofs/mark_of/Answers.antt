-- `associations::mark_of` meets its contract. Assumes nothing.
use borrow.Author.Tests.{eq-eqb, ne_eqb}
use Rattle.fields.proofs.FieldLaws.{pick_yes, pick_no}
use mathlib.Core.Path.{sym}
use Rattle.associations.proofs.mark_of.Goals as goal

pub returns-then-w-eq2 : goal.returns-then-w-eq2
returns-then-w-eq2 c = sym (pick_yes _ _ (eq-eqb _ _ c.if-w-eq2.true))

pub returns-else-w-eq2 : goal.returns-else-w-eq2
returns-else-w-eq2 c = sym (pick_no _ _ (ne_eqb _ _ c.if-w-eq2.false))
