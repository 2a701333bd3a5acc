-- `tracing::coordinate_through` meets its contract. Assumes nothing.
use Rattle.std.proofs.Common.{◌∙◌}
use Rattle.tracing.specs.inner.Origins.{origin_at}
use Rattle.tracing.proofs.OriginLaws.{coordinate_tall, coordinate-wide}
use Rattle.tracing.proofs.coordinate_through.Goals as goal

pub returns-then-c : goal.returns-then-c
returns-then-c c =
    let a = c.args in
    λ p h k. c.coordinate_by.ensures p h k ∙ coordinate_tall a.c (origin_at a.o p) c.if-c.true

pub returns : goal.returns
returns c =
    let a = c.args in
    λ p h k. c.coordinate_by-2.ensures p h k ∙ coordinate-wide a.c (origin_at a.o p) c.if-c.false
