-- `turned::turn_at` meets its contract. Assumes nothing.
use mathlib.Core.Path.{sym, ◌∙◌}
use Rattle.turned.proofs.TurnsLaws.{done_turn, done-other}
use Rattle.turned.proofs.turn_at.Goals as goal

pub returns-then-is_transform : goal.returns-then-is_transform
returns-then-is_transform c =
    let a = c.args in
    λ pl f v h l. done_turn v _ a.j l c.kind_of-kind.result (c.kind_of-kind.ensures a.head.now pl f v h l) a.s _ _
    (c.box_of.ensures pl f v h l) c.content_of-b.ensures _
    (sym c.is_transform.ensures ∙ c.if-is_transform.true) c.turn_of.ensures

pub returns : goal.returns
returns c =
    let a = c.args in
    λ pl f v h l. done-other v _ a.j l c.kind_of-kind.result (c.kind_of-kind.ensures a.head.now pl f v h l) a.s
    (sym c.is_transform.ensures ∙ c.if-is_transform.false)
