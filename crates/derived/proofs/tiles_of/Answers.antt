-- `derived::tiles_of` meets its contract. Assumes nothing.
use Rattle.rules.specs.Joined.{item_at}
use Rattle.derived.proofs.RecipeLaws.{tiles_wrong, tiles_is, tiles_inputs}
use Rattle.derived.proofs.tiles_of.Goals as goal

pub returns-in_err-g : goal.returns-in_err-g
returns-in_err-g c =
    rw c.from_residual.ensures
    (λ total f w h known. tiles_wrong total _ f (item_at f c.args.row.0) (c.in_err-g.ensures total f w h known))

pub returns-then-input_count-g : goal.returns-then-input_count-g
returns-then-input_count-g c =
    λ total f w h known. tiles_is total _ f (item_at f c.args.row.0) _ (c.in_ok-g.ensures total f w h known) _
    (c.input_count.ensures _ _ f w.view h) c.if-input_count-g.true

pub returns : goal.returns
returns c =
    λ total f w h known. tiles_inputs total _ f (item_at f c.args.row.0) _ (c.in_ok-g.ensures total f w h known) _
    (c.input_count.ensures _ _ f w.view h) c.if-input_count-g.false
