-- `layout::down_of` meets its contract. Assumes nothing.
use Rattle.std.proofs.Common.{sym, ◌∙◌, arith}
use Rattle.fields.proofs.FieldLaws.{pick_yes, pick_no}
use Rattle.layout.specs.inner.Part.{down_of}
use Rattle.layout.proofs.part.down_of.Goals as goal

pub returns-then-is_sideways : goal.returns-then-is_sideways
unfolding down_of
returns-then-is_sideways c = (
  omega (arith, c.count.ensures),
  c.count.ensures ∙
      sym (pick_yes _ _ (sym c.is_sideways.ensures ∙ c.if-is_sideways.true)),
)

pub returns : goal.returns
unfolding down_of
returns c = (
  omega (arith, c.count-2.ensures),
  c.count-2.ensures ∙
      sym (pick_no _ _ (sym c.is_sideways.ensures ∙ c.if-is_sideways.false)),
)
