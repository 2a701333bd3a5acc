-- `seam::answer_numbers` meets its contract. Assumes nothing.
use Prim.Native.Nat.{ℕ, ◌<◌}
use native.Mathlib.Omega.{arith}
use mathlib.Core.Path.{◌≡◌, sym, ap, ◌∙◌}
use mathlib.Core.List.{List}
use lib.ListN.{length}
use mir.Val.{Val}
use denote.Laws.{Is}
use denote.Struct.Declared.{row}
use Rattle.table.specs.declared.ItemId.{ItemId}
use Rattle.table.specs.contracts.ItemId.{the_type}
use Rattle.seam.specs.inner.Hand.{answered_to}
use Rattle.seam.proofs.PointsLaws.{none-answered, next_answered, all-answered}
use Rattle.seam.proofs.NumbersLaws.{by_trace, trace-fits}
use Rattle.seam.proofs.answer_numbers.Goals as goal

-- an ID has 32 bits: `good` has that of each parameter, `id` is the fourth
few : (i : ItemId) (vs : List Val) → Is (row the_type) i vs → i.0 < 4294967296
few i vs fits = fits.1.1.0.1

pub loop-r-init : goal.loop-r-init
loop-r-init c = λ total f w e. sym (none-answered _ _)

pub loop-r-preserved : goal.loop-r-preserved
loop-r-preserved c =
    let l = c.loop-r in
    let a = c.args in
    λ total f w e. next_answered (by_trace a.head.now total f a.id.0) l.r-index a.points.now l.points _ _
    (l.invariant total f w e)
    (c.numbers_with.ensures _ (c.trace_at.ensures total f w e)
    (trace-fits _ f a.id.0 (few _ _ c.well_formed.1.1.1.0) _ a.row.0 e))
    (omega (arith, c.loop-r-test.true))

pub returns : goal.returns
returns c =
    let l = c.loop-r in
    let a = c.args in
    let q : l.r-index ≡ length a.points.now = omega arith in
    λ total f w e. l.invariant total f w e ∙
    ap (λ (k : ℕ). answered_to (by_trace a.head.now total f a.id.0) k a.points.now) q ∙
    all-answered (by_trace a.head.now total f a.id.0) a.points.now
