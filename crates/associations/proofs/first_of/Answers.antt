-- `associations::first_of` meets its contract. Assumes nothing.
use borrow.Author.Tests.{eq-eqb, ne_eqb}
use Rattle.fields.proofs.FieldLaws.{pick_yes, pick_no}
use mathlib.Core.Path.{sym}
use Rattle.associations.proofs.first_of.Goals as goal

pub returns-then-k-eq0 : goal.returns-then-k-eq0
returns-then-k-eq0 c = sym (pick_yes _ _ (eq-eqb _ _ c.if-k-eq0.true))

pub returns-else-k-eq0 : goal.returns-else-k-eq0
returns-else-k-eq0 c = sym (pick_no _ _ (ne_eqb _ _ c.if-k-eq0.false))
