-- `tracing::topmost` meets its contract. Assumes nothing.
use Rattle.std.proofs.Common.{ℕ, refl, subst}
use Rattle.fields.proofs.FieldLaws.{four}
use Rattle.tracing.specs.inner.Told.{OffsetsIn}
use Rattle.tracing.proofs.LayerLaws.{RoomFor}
use Rattle.tracing.proofs.topmost.Goals as goal

pub topmost_by-requires : goal.topmost_by-requires
topmost_by-requires c =
    let a = c.args in
    let q = c.requires in
    record { fact = subst (RoomFor a.o.now a.n) c.if-bytes-eq2.true q.fact; half_value = (refl, q.in_bounds.0, q.in_bounds.1) }

pub returns-then-bytes-eq2 : goal.returns-then-bytes-eq2
returns-then-bytes-eq2 c =
    let a = c.args in
    λ s v there os many e. c.topmost_by.ensures s v there os many
    (subst (λ (w : ℕ). OffsetsIn a.o.now w os) c.if-bytes-eq2.true e)

pub topmost_by-requires-2 : goal.topmost_by-requires-2
topmost_by-requires-2 c =
    let a = c.args in
    let q = c.requires in
    record { fact = subst (RoomFor a.o.now a.n) (four _ q.fact.0 c.if-bytes-eq2.false) q.fact; half_value = (refl, q.in_bounds.0, q.in_bounds.1) }

pub returns : goal.returns
returns c =
    λ s v there os many e. c.topmost_by-2.ensures s v there os many
    (subst (λ (w : ℕ). OffsetsIn c.args.o.now w os) (four _ c.requires.fact.0 c.if-bytes-eq2.false) e)
