-- `declared::is_configured` meets its contract. The loop's invariant: what is left from j on says the same as the whole,
-- behind one that is marked where one was seen. Assumes nothing.
use Prim.Native.Nat.{◌<◌}
use native.Mathlib.Omega.{arith}
use mathlib.Core.Path.{sym, ◌∙◌}
use lib.ListN.{length}
use Rattle.rules.specs.Joined.{associations_of, item_at}
use Rattle.views.specs.inner.View.{id_of}
use Rattle.views.proofs.TableLaws.{type-read}
use Rattle.declared.proofs.ConfiguredLaws.{marked_other, marked_twice, marked-plain, marked-first, marked-end, configured-other, configured-all}
use Rattle.declared.proofs.is_configured.Goals as goal
use Rattle.declared.proofs.is_configured.Goals.{then-kind_of-eq-HVCC+else-seen+else-association_of-lt-ESSENTIAL, else-kind_of-eq-HVCC}

pub returns-then-type_of-ne-HVC1 : goal.returns-then-type_of-ne-HVC1
returns-then-type_of-ne-HVC1 c =
    let a = c.args in
    λ head pl f v h. sym (configured-other f (item_at f a.row.0)
    (λ e. c.if-type_of-ne-HVC1.true (type-read v a.row.0 h c.type_of.result c.type_of.ensures ∙ e)))

pub loop-j-init : goal.loop-j-init
loop-j-init c =
    let a = c.args in
    λ head pl f v h. configured-all f (item_at f a.row.0)
    (sym (type-read v a.row.0 h c.type_of.result c.type_of.ensures) ∙ c.if-type_of-ne-HVC1.false)

pub returns-then-seen : goal.returns-then-seen
returns-then-seen c =
    let a = c.args in
    let q = c.loop-j in
    λ head pl f v h.
    let l : q.j < length (associations_of f (id_of f a.row.0)) =
    omega (arith, c.property_count-n.ensures head pl f v h) in
    sym (q.invariant head pl f v h ∙ marked_twice v (id_of f a.row.0) q.j l c.kind_of.result
    (c.kind_of.ensures head pl f v h l) q.seen c.if-kind_of-eq-HVCC.true c.if-seen.true)

pub returns-then-association_of-lt-ESSENTIAL : goal.returns-then-association_of-lt-ESSENTIAL
returns-then-association_of-lt-ESSENTIAL c =
    let a = c.args in
    let q = c.loop-j in
    λ head pl f v h.
    let l : q.j < length (associations_of f (id_of f a.row.0)) =
    omega (arith, c.property_count-n.ensures head pl f v h) in
    sym (q.invariant head pl f v h ∙ marked-plain v (id_of f a.row.0) q.j l c.kind_of.result
    (c.kind_of.ensures head pl f v h l) q.seen c.if-kind_of-eq-HVCC.true c.if-seen.false c.association_of.result (c.association_of.ensures head pl f v h l)
    c.if-association_of-lt-ESSENTIAL.true)

pub loop-j-preserved : goal.loop-j-preserved
loop-j-preserved c =
    let a = c.args in
    let q = c.loop-j in
    λ head pl f v h. let l : q.j < length (associations_of f (id_of f a.row.0)) =
    omega (arith, c.property_count-n.ensures head pl f v h) in let e = c.kind_of.ensures head pl f v h l in
    q.invariant head pl f v h ∙ elim c.if-kind_of-eq-HVCC.branch [
      | then-kind_of-eq-HVCC+else-seen+else-association_of-lt-ESSENTIAL z ↦ marked-first v (id_of f a.row.0) q.j l c.kind_of.result e q.seen
          z.if-kind_of-eq-HVCC.true z.if-seen.false z.association_of.result (z.association_of.ensures head pl f v h l)
          c.if-kind_of-eq-HVCC.seen z.seen-is z.if-association_of-lt-ESSENTIAL.false
      | else-kind_of-eq-HVCC z ↦ marked_other v (id_of f a.row.0) q.j l c.kind_of.result e q.seen c.if-kind_of-eq-HVCC.seen
          z.if-kind_of-eq-HVCC.false z.seen-is
    ]

pub returns : goal.returns
returns c =
    let a = c.args in
    let q = c.loop-j in
    λ head pl f v h. sym (q.invariant head pl f v h ∙ marked-end f (id_of f a.row.0) q.j q.seen
    (omega (arith, c.property_count-n.ensures head pl f v h)))
