-- `tracing::topmost_joined` meets its contract. The loop's invariant: what lies on top of all inputs lies on top of those
-- below `end`. The measure is `end`. Assumes nothing.
use Rattle.std.proofs.Common.{◌-◌, sym, ◌∙◌, inl, inr, ⊎_elim, arith}
use Rattle.pictures.proofs.GridLaws.{four_at-most}
use Rattle.tracing.proofs.LayerLaws.{layers_all, layers_none}
use Rattle.tracing.proofs.WindowLaws.{offsets-many, window_below, window_covers, window_shows}
use Rattle.tracing.proofs.topmost_joined.Goals.{then-end-most, else-end-most}
use Rattle.tracing.proofs.topmost_joined.Goals as goal

pub overflow_mul-most : goal.overflow_mul-most
overflow_mul-most c =
    omega (arith, four_at-most c.args.bytes c.requires.0)

pub nonzero_div-most : goal.nonzero_div-most
nonzero_div-most c = ⊎_elim (λ h. omega (arith, h)) (λ h. omega (arith, h)) c.requires.0

pub loop-end-init : goal.loop-end-init
loop-end-init c =
    let a = c.args in (
      omega arith,
      λ total f w h b e s v there o eo ew.
          layers_all s o.offsets a.inputs.now a.n a.p (offsets-many b a.n a.bytes o eo ew),
    )

pub topmost_between-s-requires : goal.topmost_between-s-requires
topmost_between-s-requires c =
    let l = c.loop-end in
    let q = c.requires in
    let x = window_below c.args.bytes c.if-end-most.from l.end q.0 c.loop-end-test.true
    (elim c.if-end-most.branch [ then-end-most w ↦ inl (w.if-end-most.true, w.from-is) | else-end-most w ↦ inr (w.if-end-most.false, w.from-is) ]) in
    record { fact = (q.0, omega (arith, x.below), omega (arith, l.invariant.0, q.1), x.room); in_bounds = (q.2, omega (arith, l.invariant.0, q.3)) }

pub loop-end-smaller : goal.loop-end-smaller
loop-end-smaller c =
    (window_below c.args.bytes c.if-end-most.from c.loop-end.end c.requires.0 c.loop-end-test.true
    (elim c.if-end-most.branch [ then-end-most w ↦ inl (w.if-end-most.true, w.from-is) | else-end-most w ↦ inr (w.if-end-most.false, w.from-is) ])).below

pub loop-end-preserved : goal.loop-end-preserved
loop-end-preserved c =
    let l = c.loop-end in
    let a = c.args in
    let q = c.requires in
    let x = window_below a.bytes c.if-end-most.from l.end q.0 c.loop-end-test.true
    (elim c.if-end-most.branch [ then-end-most w ↦ inl (w.if-end-most.true, w.from-is) | else-end-most w ↦ inr (w.if-end-most.false, w.from-is) ]) in (
      omega (arith, x.below, l.invariant.0),
      λ total f w h b e s v there o eo ew.
          let many = offsets-many b a.n a.bytes o eo ew in
          window_shows s o.offsets a.inputs.now a.n a.p c.if-end-most.from (l.end - c.if-end-most.from) l.end
          (omega (arith, x.below)) (omega (arith, many, l.invariant.0)) (omega (arith, q.3, l.invariant.0))
          (l.invariant.1 total f w h b e s v there o eo ew)
          (sym c.in-Blank.is ∙ c.topmost_between-s.ensures total f w h b e s v
          (λ k z. there k (omega (arith, z, l.invariant.0))) a.n o l.invariant.0 q.1 eo ew),
    )

pub returns-in_default : goal.returns-in_default
returns-in_default c =
    let l = c.loop-end in
    let a = c.args in
    let q = c.requires in
    let x = window_below a.bytes c.if-end-most.from l.end q.0 c.loop-end-test.true
    (elim c.if-end-most.branch [ then-end-most w ↦ inl (w.if-end-most.true, w.from-is) | else-end-most w ↦ inr (w.if-end-most.false, w.from-is) ]) in
    λ total f w h b e s v there o eo ew.
    let many = offsets-many b a.n a.bytes o eo ew in
    window_covers s o.offsets a.inputs.now a.n a.p c.if-end-most.from (l.end - c.if-end-most.from) l.end
    (omega (arith, x.below)) (omega (arith, many, l.invariant.0)) (omega (arith, q.3, l.invariant.0))
    (l.invariant.1 total f w h b e s v there o eo ew) _
    (c.topmost_between-s.ensures total f w h b e s v (λ k z. there k (omega (arith, z, l.invariant.0))) a.n o
    l.invariant.0 q.1 eo ew)
    (λ y. c.in_default.not-Blank y)

pub returns : goal.returns
returns c =
    let l = c.loop-end in
    let a = c.args in
    λ total f w h b e s v there o eo ew.
    layers_none s o.offsets a.inputs.now a.n a.p l.end (omega (arith, c.loop-end-test.false))
    (l.invariant.1 total f w h b e s v there o eo ew)
