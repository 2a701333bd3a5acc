-- `derived::has_body` meets its contract. Assumes nothing.
use mathlib.Core.Path.{sym, ◌∙◌}
use Rattle.fields.proofs.TestLaws.{untrue}
use Rattle.derived.proofs.JoinedLaws.{size-told, held-over, held-told}
use Rattle.derived.proofs.has_body.Goals as goal

pub returns-then-not-is_joined : goal.returns-then-not-is_joined
returns-then-not-is_joined c =
    λ total f w h runs joined. untrue
    (sym (c.if-not-is_joined.true) ∙ c.is_joined.ensures _ _ f w.view h ∙ joined)

pub returns-then-size-gt-LONGEST : goal.returns-then-size-gt-LONGEST
returns-then-size-gt-LONGEST c =
    let r = c.args.row.0 in
    λ total f w h runs. held-over w r h _ (size-told w r h _ c.length_of-size.ensures) c.if-size-gt-LONGEST.true

pub returns : goal.returns
returns c =
    let r = c.args.row.0 in
    λ total f w h runs. held-told w r h _ (size-told w r h _ c.length_of-size.ensures) c.if-size-gt-LONGEST.false c.args.runs.now runs _
    c.is_held.ensures
