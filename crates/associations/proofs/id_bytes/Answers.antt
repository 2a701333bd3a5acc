-- `associations::id_bytes` meets its contract. Assumes nothing.
use borrow.Author.Tests.{eq-eqb, ne_eqb}
use Rattle.fields.proofs.FieldLaws.{pick_yes, pick_no}
use mathlib.Core.Path.{sym}
use Rattle.associations.proofs.id_bytes.Goals as goal

pub returns-then-version-eq0 : goal.returns-then-version-eq0
returns-then-version-eq0 c = sym (pick_yes _ _ (eq-eqb _ _ c.if-version-eq0.true))

pub returns-else-version-eq0 : goal.returns-else-version-eq0
returns-else-version-eq0 c = sym (pick_no _ _ (ne_eqb _ _ c.if-version-eq0.false))
