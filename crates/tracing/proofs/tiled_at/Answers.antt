-- `tracing::tiled_at` meets its contract: the tile's number is below the number of inputs. Assumes nothing.
use Rattle.std.proofs.Common.{div-le_self, ⊎_elim, arith}
use Rattle.tracing.proofs.TileLaws.{tile_number, tile_wide, tile_high, tiled_source}
use Rattle.tracing.proofs.tiled_at.Goals as goal

pub returns-then-w-eq0 : goal.returns-then-w-eq0
returns-then-w-eq0 c =
    λ total head f d h g q e i.
    let a = c.args in
    let k = c.input_of.ensures head _ f d.followed.view d.resolved h in
    absurd (⊎_elim (tile_wide d a.row.0 h g q a.p i c.input_of.result.0 k _ c.output_in-tile.ensures)
    (λ w. tile_high d a.row.0 h g q a.p i c.input_of.result.0 k _ c.output_in-tile.ensures w.1) c.then-w-eq0.either)

pub overflow_cast-j : goal.overflow_cast-j
overflow_cast-j c =
    let p = c.args.p in
    omega (arith, div-le_self p.y c.output_in-tile.result.high)

pub overflow_mul-j : goal.overflow_mul-j
overflow_mul-j c =
    let a = c.args in
    omega (
      arith,
      (tile_number a.p.x a.p.y c.output_in-tile.result.wide c.output_in-tile.result.high a.columns (omega arith) (omega arith)
          (omega arith)).0,
    )

pub overflow_cast-j-3 : goal.overflow_cast-j-3
overflow_cast-j-3 c =
    let p = c.args.p in
    omega (arith, div-le_self p.x c.output_in-tile.result.wide)

pub overflow_add-j : goal.overflow_add-j
overflow_add-j c =
    let a = c.args in
    omega (
      arith,
      (tile_number a.p.x a.p.y c.output_in-tile.result.wide c.output_in-tile.result.high a.columns (omega arith) (omega arith)
          (omega arith)).1,
    )

pub returns : goal.returns
returns c =
    λ total head f d h g q e i.
    let a = c.args in
    tiled_source d a.row.0 h g q a.p i c.input_of.result.0 (c.input_of.ensures head _ f d.followed.view d.resolved h) _
    c.output_in-tile.ensures a.columns e c.input_of-2.result
    (c.input_of-2.ensures head _ f d.followed.view d.resolved h)
