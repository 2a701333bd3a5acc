-- `turned::pose_within` meets its contract: what is left from association j on makes of `pose` what all make of 0. Assumes nothing.
use Prim.Native.Nat.{ℕ, ◌<◌}
use native.Mathlib.Omega.{arith}
use mathlib.Core.Path.{refl, sym, ap, ◌∙◌, subst}
use lib.ListN.{length}
use Rattle.rules.specs.Joined.{associations_of, boxes_of}
use Rattle.views.specs.inner.View.{id_of}
use Rattle.declared.proofs.NamedLaws.{boxes-many}
use Rattle.layout.specs.inner.Pose.{composed_of}
use Rattle.turned.proofs.TurnsLaws.{posed-below, posed_next, posed-none}
use Rattle.turned.proofs.pose_within.Goals as goal

pub loop-j-init : goal.loop-j-init
loop-j-init c = (omega arith, λ pl f v h. refl)

pub loop-j-preserved : goal.loop-j-preserved
loop-j-preserved c =
    let a = c.args in
    let q = c.loop-j in (
      subst (λ (k : ℕ). k < 8) (sym c.composed-pose.ensures) (posed-below _ _),
      λ pl f v h. let l : q.j < length (associations_of f (id_of f a.row.0)) =
          omega (arith, c.property_count-n.ensures a.head.now pl f v h) in q.invariant.1 pl f v h ∙
          posed_next (boxes_of f (id_of f a.row.0)) q.j (omega (arith, l, boxes-many f (id_of f a.row.0)))
          q.size _ c.turn_at-t.result (c.turn_at-t.ensures pl f v h l) c.size_after-size.ensures q.pose.0
          q.invariant.0 _ (c.composed-pose.ensures ∙ ap (λ (k : ℕ). composed_of k q.pose.0)
          c.pose_of.ensures),
    )

pub returns : goal.returns
returns c =
    let a = c.args in
    let q = c.loop-j in
    λ pl f v h.
    let n = c.property_count-n.ensures a.head.now pl f v h in
    let m = boxes-many f (id_of f a.row.0) in
    c.composed.ensures ∙ ap (composed_of a.outer.0) (sym (q.invariant.1 pl f v h ∙
    posed-none (boxes_of f (id_of f a.row.0)) q.j (omega (arith, n, m)) q.size q.pose.0))
