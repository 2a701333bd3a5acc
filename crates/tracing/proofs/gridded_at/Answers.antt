-- `tracing::gridded_at` meets its contract: the body of a `grid` that keeps 17 is read. Assumes nothing.
use Rattle.std.proofs.Common.{refl}
use Rattle.tracing.proofs.TileLaws.{grid-there, grid_tiles}
use Rattle.tracing.proofs.gridded_at.Goals as goal

pub returns-in_default : goal.returns-in_default
returns-in_default c =
    let r = c.args.row.0 in
    λ total f d h q i. absurd (grid-there d r h q _ (c.grid_of.ensures total f d.followed h) c.in_default.is)

pub returns : goal.returns
returns c =
    let r = c.args.row.0 in
    λ total f d h q i.
    let e = grid_tiles d r h q _ (c.grid_of.ensures total f d.followed h) _ c.in-Some.is in
    c.tiled_at.ensures total _ f d h _ e refl i
