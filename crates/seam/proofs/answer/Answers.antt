-- `seam::answer` meets its contract. Assumes nothing.
use mathlib.Core.Path.{ap, ◌∙◌}
use Rattle.std.specs.Prelude.{Result}
use Rattle.boxes.specs.declared.Refusal.{Refusal}
use Rattle.traced.specs.declared.Traced.{Traced}
use Rattle.seam.specs.declared.PointRecord.{PointRecord}
use Rattle.seam.proofs.PointsLaws.{trace-at_hand}
use Rattle.seam.proofs.answer.Goals as goal

pub returns : goal.returns
returns c =
    let a = c.args in
    let h = c.requires in
    let into : Result Traced Refusal → PointRecord = λ z. record { x = a.r.x; y = a.r.y; answer = z } in
    ap into (c.trace_in.ensures a.total h.file h.shown ∙ trace-at_hand _ _ _ _ h _ _)
