-- `corners::seen_of` meets its contract. Assumes nothing.
use mathlib.Core.Path.{sym, ◌∙◌}
use Rattle.fields.proofs.FieldLaws.{pick_yes, pick_no}
use Rattle.corners.proofs.seen_of.Goals as goal

pub returns-in-None : goal.returns-in-None
returns-in-None c =
    c.seen_in-in-None.ensures ∙ rw (c.whole.ensures, sym c.in-None.ensures)
    (sym (pick_yes _ _ c.if-around.true))

pub returns-in-None-2 : goal.returns-in-None-2
returns-in-None-2 c =
    rw (sym c.in-None.ensures)
    (sym (pick_no _ _ c.if-around.false))
