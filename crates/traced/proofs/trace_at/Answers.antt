-- `traced::trace_at` meets its contract. Assumes nothing.
use mathlib.Core.Path.{◌∙◌}
use Rattle.traced.proofs.TraceLaws.{trace-row, trace-image, trace-outside, on-output, end-listed, trace-inside}
use Rattle.traced.proofs.trace_at.Goals as goal

pub returns-then-s-p : goal.returns-then-s-p
returns-then-s-p c =
    λ total f w q.
    let a = c.args in
    trace-outside w a.id.0 a.p a.row.0 q _ c.output_in-s.ensures c.then-s-p.either _ c.refusal.ensures.0 c.refusal.ensures.1

pub returns : goal.returns
returns c =
    λ total f w q.
    let a = c.args in
    let i = on-output w a.id.0 a.p a.row.0 q _ c.output_in-s.ensures c.if-s-p.false c.if-s-p-2.false in
    c.ended.ensures _ _ f w.followed.view _ (c.trace_output.ensures total f w
    (trace-row w a.id.0 a.p a.row.0 q) (trace-image w a.id.0 a.p a.row.0 q) i)
    (end-listed w a.id.0 a.p a.row.0 q i) ∙ trace-inside w a.id.0 a.p a.row.0 q i
