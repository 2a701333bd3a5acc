-- `tracing::layered_in` meets its contract: the offsets stand behind the canvas. Assumes nothing.
use Rattle.std.proofs.Common.{sym, ◌∙◌, arith}
use Rattle.pictures.proofs.GridLaws.{four_at-most}
use Rattle.pictures.proofs.RefusedLaws.{refused-ok}
use Rattle.pictures.proofs.OverlayLaws.{told_no_overlay}
use Rattle.tracing.proofs.LayerLaws.{overlay_read, rest-long}
use Rattle.tracing.proofs.WindowLaws.{offsets-many, body_spelled}
use Rattle.tracing.proofs.layered_in.Goals as goal

pub overflow_mul-o : goal.overflow_mul-o
overflow_mul-o c = let x = overlay_read _ _ c.in-Some.o c.in-Some.ensures in omega (arith, four_at-most _ x.0)

pub overflow_add-o : goal.overflow_add-o
overflow_add-o c = let x = overlay_read _ _ c.in-Some.o c.in-Some.ensures in omega (arith, four_at-most _ x.0)

pub slice_bounds-topmost-count : goal.slice_bounds-topmost-count
slice_bounds-topmost-count c = let x = overlay_read _ _ c.in-Some.o c.in-Some.ensures in omega (arith, x.1)

pub slice_bounds-topmost-start : goal.slice_bounds-topmost-start
slice_bounds-topmost-start c = let x = overlay_read _ _ c.in-Some.o c.in-Some.ensures in omega (arith, x.1)

pub topmost-requires : goal.topmost-requires
topmost-requires c =
    let x = overlay_read _ _ c.in-Some.o c.in-Some.ensures in
    record { fact = (x.0, c.requires.0, rest-long c.args.b.now _ _ (omega (arith, x.1))); in_bounds = (c.requires.1, c.requires.2) }

pub returns-in_default : goal.returns-in_default
returns-in_default c = λ s v there o e. absurd (refused-ok _ o (told_no_overlay _ _ (sym c.read_overlay.ensures ∙ c.in_default.is)) e)

pub returns : goal.returns
returns c =
    let a = c.args in
    let x = overlay_read _ _ c.in-Some.o c.in-Some.ensures in
    λ s v there o e. c.topmost.ensures s v there o.offsets (offsets-many a.b.now a.n _ o e x.2)
    (body_spelled a.b.now a.n _ o e x.2)
