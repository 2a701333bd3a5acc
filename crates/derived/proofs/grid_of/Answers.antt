-- `derived::grid_of` meets its contract. Assumes nothing.
use mathlib.Core.Path.{sym, ◌∙◌}
use Rattle.derived.proofs.BodyLaws.{direct_as}
use Rattle.derived.proofs.SaidLaws.{grid_as, grid-known}
use Rattle.derived.proofs.grid_of.Goals as goal

pub returns-then-is_joined : goal.returns-then-is_joined
returns-then-is_joined c =
    λ total f w h known.
    let b = known (sym (c.is_joined.ensures _ _ f w.view h) ∙ c.if-is_joined.true) in
    grid-known _ b.0 b.1 _ (c.joined_grid.ensures total f w h b.0 b.1)

pub returns : goal.returns
returns c =
    let a = c.args in
    λ total f w h known.
    let direct = sym (c.is_joined.ensures _ _ f w.view h) ∙ c.if-is_joined.false in
    grid_as _ _ (direct_as w.view total a.row.0 h (w.placed a.row.0 h) direct _
    (c.body_of.ensures total _ f w.view h (w.placed a.row.0 h) direct)) _ c.read_grid.ensures
