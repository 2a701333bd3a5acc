-- `joining::joined_run` meets its contract. Assumes nothing.
use mathlib.Core.Path.{sym, ◌∙◌}
use borrow.Author.Tests.{lt-ltb, le-ltb}
use Rattle.fields.proofs.FieldLaws.{pick_yes, pick_no}
use Rattle.joining.proofs.joined_run.Goals as goal

pub returns-then-here-left : goal.returns-then-here-left
returns-then-here-left c =
    let a = c.args in
    sym (pick_yes _ _ (lt-ltb a.here a.left c.if-here-left.true))

pub returns : goal.returns
returns c =
    let a = c.args in
    c.min.ensures ∙ sym (pick_no _ _ (le-ltb a.here a.left c.if-here-left.false))
