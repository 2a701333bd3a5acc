-- `words::place_kind` answers `kind_of`, list by list. Assumes nothing.
use mathlib.Core.Path.{sym, ◌∙◌}
use Rattle.fields.proofs.FieldLaws.{pick_yes, pick_no}
use Rattle.words.specs.inner.Subject.{kind_of}
use Rattle.words.proofs.place_kind.Goals as goal

pub returns-then-is_among : goal.returns-then-is_among
unfolding kind_of
returns-then-is_among c = sym (pick_yes _ _ (sym c.is_among.ensures ∙ c.if-is_among.true))

pub returns-then-is_among-2 : goal.returns-then-is_among-2
unfolding kind_of
returns-then-is_among-2 c =
    sym (pick_no _ _ (sym c.is_among.ensures ∙ c.if-is_among.false) ∙
    pick_yes _ _ (sym c.is_among-2.ensures ∙ c.if-is_among-2.true))

pub returns-then-is_among-3 : goal.returns-then-is_among-3
unfolding kind_of
returns-then-is_among-3 c =
    sym (pick_no _ _ (sym c.is_among.ensures ∙ c.if-is_among.false) ∙
    pick_no _ _ (sym c.is_among-2.ensures ∙ c.if-is_among-2.false) ∙
    pick_yes _ _ (sym c.is_among-3.ensures ∙ c.if-is_among-3.true))

pub returns : goal.returns
unfolding kind_of
returns c =
    sym (pick_no _ _ (sym c.is_among.ensures ∙ c.if-is_among.false) ∙
    pick_no _ _ (sym c.is_among-2.ensures ∙ c.if-is_among-2.false) ∙
    pick_no _ _ (sym c.is_among-3.ensures ∙ c.if-is_among-3.false))
