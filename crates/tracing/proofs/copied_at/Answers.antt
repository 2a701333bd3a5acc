-- `tracing::copied_at` meets its contract: an `iden` item has one input. Assumes nothing.
use Rattle.tracing.proofs.TileLaws.{copied_source}
use Rattle.tracing.proofs.copied_at.Goals as goal

pub returns : goal.returns
returns c =
    λ total head f d h q.
    let a = c.args in
    copied_source d a.row.0 h q c.input_of.result a.p
    (c.input_of.ensures head _ f d.followed.view d.resolved h)
