-- `tracing::undone_each` meets its contract. The loop's invariant: association k names a transform, where there is one, and what is
-- left from there on, undone and followed to where the pixels come from, is the whole undone. The measure is n - k. Assumes nothing.
use Rattle.std.proofs.Common.{◌+◌, ◌<◌, List, length, drop, sym, ap, ◌∙◌, subst, arith}
use Rattle.pictures.specs.declared.Turn.{Turn}
use Rattle.pictures.specs.declared.Size.{Size}
use Rattle.pictures.specs.Turn.{undone}
use Rattle.pictures.specs.Decode.{transform, turns_of}
use Rattle.rules.specs.Joined.{associations_of, boxes_of}
use Rattle.views.specs.inner.View.{id_of}
use Rattle.declared.proofs.NamedLaws.{boxes-many}
use Rattle.tracing.proofs.OriginLaws.{origin-kept}
use Rattle.tracing.proofs.UndoneLaws.{turns-read, turns_next, next_transform}
use Rattle.tracing.proofs.WalkedLaws.{Walked, walked-first, walked_turn, walked_end}
use Rattle.tracing.proofs.undone_each.Goals as goal

pub loop-k-init : goal.loop-k-init
loop-k-init c =
    let a = c.args in
    λ pl f v h q t i. (
      λ l. q,
      walked-first (turns_of a.s (drop a.j (boxes_of f (id_of f a.row.0)))) a.s a.p _ (omega (arith, c.well_formed), omega (arith, c.well_formed)) t i
          (origin-kept _ _ _ c.origin_by-origin.ensures c.on_from.ensures c.on_from-2.ensures),
    )

pub overflow_add-k : goal.overflow_add-k
overflow_add-k c =
    omega (arith, c.loop-k-test.true, c.property_count-n.type_inv)

pub loop-k-smaller : goal.loop-k-smaller
loop-k-smaller c =
    omega (arith, c.next_transform-k.ensures.lower_bound, c.loop-k-test.true)

pub loop-k-preserved : goal.loop-k-preserved
loop-k-preserved c =
    let a = c.args in
    let l = c.loop-k in
    λ pl f v h q t i.
    let id = id_of f a.row.0 in
    let w = l.invariant pl f v h q t i in
    let n = c.property_count-n.ensures a.head.now pl f v h in
    let m : l.k < length (associations_of f id) = omega (arith, n, c.loop-k-test.true) in
    let e = c.kind_of-kind.ensures a.head.now pl f v h m in
    let y = turns-read v id l.k m _ e l.size _ _ (c.box_of.ensures pl f v h m) c.content_of-b.ensures c.turn_of-t.result
    (ap transform e ∙ w.0 m) c.turn_of-t.ensures in
    let b = c.next_transform-k.ensures.by_index a.head.now pl f v h in
    let g = turns_of a.s (drop a.j (boxes_of f id)) in
    let r = walked_turn c.turn_of-t.result _ l.size a.p (undone g a.s a.p) l.origin c.origin_of.result c.origin_through-origin.result
    (subst (λ (ts : List Turn). Walked ts l.size a.p (undone g a.s a.p) l.origin) y w.1)
    c.origin_of.ensures c.origin_through-origin.ensures in
    let z = subst (λ (z : Size). Walked (turns_of z (drop (l.k + 1) (boxes_of f id))) z a.p (undone g a.s a.p) c.origin_through-origin.result)
    (sym c.size_after-size.ensures) r in (
      λ x. next_transform f id (l.k + 1) _ b _ n (omega (arith, n, x)),
      subst (λ (ts : List Turn). Walked ts c.size_after-size.result a.p (undone g a.s a.p) c.origin_through-origin.result)
          (sym (turns_next f id (l.k + 1) _ b c.size_after-size.result)) z,
    )

pub returns : goal.returns
returns c =
    let a = c.args in
    let l = c.loop-k in
    λ pl f v h m q t i.
    let w = l.invariant pl f v h q t i in
    c.origin_at.ensures
    ∙ walked_end (boxes_of f (id_of f a.row.0)) l.k
    (omega (arith, c.loop-k-test.false, boxes-many f (id_of f a.row.0), c.property_count-n.ensures a.head.now pl f v h))
    l.size a.p _ l.origin w.1
