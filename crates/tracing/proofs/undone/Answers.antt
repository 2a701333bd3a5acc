-- `tracing::undone` meets its contract. Assumes nothing.
use Rattle.std.proofs.Common.{◌+◌, ◌<◌, length, ap, ◌∙◌, arith}
use Rattle.pictures.specs.Decode.{transform}
use Rattle.rules.specs.Joined.{associations_of}
use Rattle.views.specs.inner.View.{id_of}
use Rattle.tracing.proofs.UndoneLaws.{next_none, next_some, next_transform, undone-one}
use Rattle.tracing.proofs.undone.Goals as goal

pub returns-then-n-j : goal.returns-then-n-j
returns-then-n-j c =
    let a = c.args in
    λ pl f v h.
    next_none f (id_of f a.row.0) 0 _ (c.next_transform-j.ensures.by_index a.head.now pl f v h) _
    (c.property_count-n.ensures a.head.now pl f v h) c.if-n-j.true a.s a.p

pub overflow_add-j : goal.overflow_add-j
overflow_add-j c = omega (arith, c.if-n-j.false)

pub returns-then-next_transform-n : goal.returns-then-next_transform-n
returns-then-next_transform-n c =
    let a = c.args in
    λ pl f v h.
    let id = id_of f a.row.0 in
    let m = c.next_transform-j.ensures.by_index a.head.now pl f v h in
    let n = c.property_count-n.ensures a.head.now pl f v h in
    next_some f id 0 _ m a.s a.p _
    (c.undone_each.ensures pl f v h (omega (arith, n, c.if-n-j.false)) (next_transform f id 0 _ m _ n c.if-n-j.false))

pub returns : goal.returns
returns c =
    let a = c.args in
    λ pl f v h.
    let id = id_of f a.row.0 in
    let m = c.next_transform-j.ensures.by_index a.head.now pl f v h in
    let n = c.property_count-n.ensures a.head.now pl f v h in
    let l : c.next_transform-j.result < length (associations_of f id) = omega (arith, n, c.if-n-j.false) in
    let e = c.kind_of-kind.ensures a.head.now pl f v h l in
    next_some f id 0 _ m a.s a.p _
    (undone-one v id c.next_transform-j.result l _ e a.s _ _ (c.box_of.ensures pl f v h l) c.content_of-b.ensures c.turn_of.result
    (ap transform e ∙ next_transform f id 0 _ m _ n c.if-n-j.false) c.turn_of.ensures a.p _
    (next_none f id (c.next_transform-j.result + 1) _ (c.next_transform.ensures.by_index a.head.now pl f v h) _ n c.if-next_transform-n.false _ a.p)
    c.back_of.ensures)
