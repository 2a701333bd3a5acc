-- `tracing::layered_joined` meets its contract. Assumes nothing.
use Rattle.std.proofs.Common.{sym, refl, ◌∙◌, inl, inr}
use Rattle.fields.proofs.FieldLaws.{four}
use Rattle.pictures.proofs.RefusedLaws.{refused-ok}
use Rattle.pictures.proofs.OverlayLaws.{told_no_overlay}
use Rattle.tracing.proofs.LayerLaws.{overlay_read}
use Rattle.tracing.proofs.layered_joined.Goals as goal

pub topmost_joined-requires : goal.topmost_joined-requires
topmost_joined-requires c =
    let q = c.requires in
    (inl refl, q.0, q.1, q.2)

pub returns-then-o-eq2 : goal.returns-then-o-eq2
returns-then-o-eq2 c =
    λ total f w h b e s v there o eo.
    let x = overlay_read b _ c.in-Some.o (sym c.in-Some.is ∙ c.joined_overlay.ensures total f w h b e) in
    c.topmost_joined.ensures total f w h b e s v there o eo (sym c.if-o-eq2.true ∙ x.2)

pub topmost_joined-requires-2 : goal.topmost_joined-requires-2
topmost_joined-requires-2 c =
    let q = c.requires in
    (inr refl, q.0, q.1, q.2)

pub returns-in_default : goal.returns-in_default
returns-in_default c =
    λ total f w h b e s v there o eo. absurd (refused-ok _ o (told_no_overlay b _ (sym (c.joined_overlay.ensures total f w h b e) ∙
    c.in_default.is)) eo)

pub returns : goal.returns
returns c =
    λ total f w h b e s v there o eo.
    let x = overlay_read b _ c.in-Some.o (sym c.in-Some.is ∙ c.joined_overlay.ensures total f w h b e) in
    c.topmost_joined-2.ensures total f w h b e s v there o eo (sym (four _ x.0 c.if-o-eq2.false) ∙ x.2)
