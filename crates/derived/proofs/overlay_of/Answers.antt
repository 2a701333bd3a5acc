-- `derived::overlay_of` meets its contract. Assumes nothing.
use mathlib.Core.Path.{sym, ◌∙◌}
use Rattle.rules.specs.Bytes.{body_of}
use Rattle.views.specs.inner.View.{id_of}
use Rattle.derived.proofs.BodyLaws.{direct_as}
use Rattle.derived.proofs.SaidLaws.{overlay_as, overlay-known}
use Rattle.derived.proofs.overlay_of.Goals as goal

pub returns-then-is_joined : goal.returns-then-is_joined
returns-then-is_joined c =
    let a = c.args in
    λ total f w h known.
    let b = known (sym (c.is_joined.ensures _ _ f w.view h) ∙ c.if-is_joined.true) in
    overlay-known a.n _ b.0 b.1 _ (c.joined_overlay.ensures total f w h b.0 b.1)

pub returns : goal.returns
returns c =
    let a = c.args in
    λ total f w h known.
    let direct = sym (c.is_joined.ensures _ _ f w.view h) ∙ c.if-is_joined.false in
    overlay_as a.n c.requires (body_of total a.head.now f (id_of f a.row.0)) _
    (direct_as w.view total a.row.0 h (w.placed a.row.0 h) direct _
    (c.body_of.ensures total _ f w.view h (w.placed a.row.0 h) direct)) _ c.read_overlay.ensures
