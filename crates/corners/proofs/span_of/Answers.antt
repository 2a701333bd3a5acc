-- `corners::span_of` meets its contract. Assumes nothing.
use mathlib.Core.Path.{sym, ◌∙◌}
use borrow.Author.Tests.{eq-eqb, ne_eqb, lt-ltb, le-ltb, le-leb, lt-leb}
use Rattle.fields.proofs.FieldLaws.{pick_yes, pick_no}
use Rattle.corners.specs.inner.Place.{span_of}
use Rattle.corners.proofs.span_of.Goals as goal

pub returns-then-side-eq0 : goal.returns-then-side-eq0
unfolding span_of
returns-then-side-eq0 c = sym (pick_yes _ _ (eq-eqb _ _ c.if-side-eq0.true))

pub returns-then-z-corner : goal.returns-then-z-corner
unfolding span_of
returns-then-z-corner c = sym (pick_no _ _ (ne_eqb _ _ c.if-side-eq0.false) ∙ pick_yes _ _ (lt-ltb _ _ c.if-z-corner.true))

pub returns-then-end-a : goal.returns-then-end-a
unfolding span_of
returns-then-end-a c =
    sym (pick_no _ _ (ne_eqb _ _ c.if-side-eq0.false) ∙ pick_no _ _ (le-ltb _ _ c.if-z-corner.false) ∙
    pick_yes _ _ (le-leb _ _ c.if-end-a.true))

pub returns : goal.returns
unfolding span_of
returns c =
    rw (c.saturating_sub.ensures, c.min.ensures) (sym (pick_no _ _ (ne_eqb _ _ c.if-side-eq0.false) ∙
    pick_no _ _ (le-ltb _ _ c.if-z-corner.false) ∙ pick_no _ _ (lt-leb _ _ c.if-end-a.false)))
