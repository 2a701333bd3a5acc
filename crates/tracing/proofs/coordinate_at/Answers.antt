-- `tracing::coordinate_at` meets its contract. Assumes nothing.
use Rattle.std.proofs.Common.{◌∙◌}
use Rattle.tracing.proofs.OriginLaws.{coordinate_tall, coordinate-wide}
use Rattle.tracing.proofs.coordinate_at.Goals as goal

pub returns-then-c : goal.returns-then-c
returns-then-c c =
    let a = c.args in c.moved.ensures ∙ coordinate_tall a.c a.p c.if-c.true

pub returns : goal.returns
returns c =
    let a = c.args in c.moved-2.ensures ∙ coordinate-wide a.c a.p c.if-c.false
