-- `facing::orientation_of` meets its contract. Assumes nothing.
use Prim.Native.Nat.{◌-◌, ◌<◌}
use native.Mathlib.Omega.{arith}
use mathlib.Core.Path.{sym, ◌∙◌}
use lib.ListN.{length}
use Rattle.rules.specs.Joined.{associations_of, boxes_of}
use Rattle.views.specs.inner.View.{id_of}
use Rattle.declared.proofs.NamedLaws.{boxes-many}
use Rattle.facing.proofs.FacedLaws.{faced_none, faced_clap, faced_skip, faced_turn, faced_all}
use Rattle.facing.proofs.orientation_of.Goals as goal

pub loop-j-init : goal.loop-j-init
loop-j-init c =
    let a = c.args in
    λ pl f v h. faced_none (boxes_of f (id_of f a.row.0)) c.property_count-j.result
    (omega (arith, boxes-many f (id_of f a.row.0), c.property_count-j.ensures a.head.now pl f v h)) _
    c.faces-faced.ensures

pub returns-then-kind-eq-CLAP : goal.returns-then-kind-eq-CLAP
returns-then-kind-eq-CLAP c =
    let a = c.args in
    let j = c.loop-j.j in
    λ pl f v h s.
    let l : j - 1 < length (associations_of f (id_of f a.row.0)) = omega (arith, c.property_count-j.ensures a.head.now pl f v h) in
    faced_clap v (id_of f a.row.0) (j - 1) l c.kind_of-kind.result (c.kind_of-kind.ensures a.head.now pl f v h l) c.if-kind-eq-CLAP.true s

pub loop-j-preserved-then-is_transform : goal.loop-j-preserved-then-is_transform
loop-j-preserved-then-is_transform c =
    let a = c.args in
    let q = c.loop-j in
    λ pl f v h.
    let id = id_of f a.row.0 in
    let l : q.j - 1 < length (associations_of f id) = omega (arith, c.property_count-j.ensures a.head.now pl f v h) in
    faced_turn v id (q.j - 1) l c.kind_of-kind.result (c.kind_of-kind.ensures a.head.now pl f v h l) c.if-kind-eq-CLAP.false
    q.faced q.j (omega arith) (q.invariant pl f v h) _ _
    (c.box_of.ensures pl f v h l) c.content_of-b.ensures _ _
    (sym c.is_transform.ensures ∙ c.if-is_transform.true) c.turn_of-t.ensures _ _
    c.facing_of.ensures c.joined-faced.ensures

pub loop-j-preserved : goal.loop-j-preserved
loop-j-preserved c =
    let a = c.args in
    let q = c.loop-j in
    λ pl f v h.
    let id = id_of f a.row.0 in
    let l : q.j - 1 < length (associations_of f id) = omega (arith, c.property_count-j.ensures a.head.now pl f v h) in
    faced_skip v id (q.j - 1) l c.kind_of-kind.result (c.kind_of-kind.ensures a.head.now pl f v h l) c.if-kind-eq-CLAP.false
    q.faced q.j (omega arith) (q.invariant pl f v h) (sym c.is_transform.ensures ∙ c.if-is_transform.false)

pub returns : goal.returns
returns c =
    let a = c.args in
    let q = c.loop-j in
    λ pl f v h s. rw c.number_of.ensures (faced_all f (id_of f a.row.0) q.faced q.j (omega arith) (q.invariant pl f v h) s)
