-- `placed::lie_before` meets its contract. Assumes nothing.
use native.Mathlib.Omega.{arith}
use mathlib.Core.Path.{◌∙◌}
use Rattle.placed.proofs.ExtentLaws.{extents-count, extents_fail, extents-on, extents_pass, extents-both, ends_empty, ends-past, ends-before}
use Rattle.placed.proofs.lie_before.Goals as goal
use Rattle.placed.proofs.lie_before.Goals.{
  then-e-eq0-via-then-e-eq0,
  then-e-eq0-via-else-e-eq0+then-end-e,
  then-e-eq0-via-else-e-eq0+else-end-e+then-end-e-2,
}

pub returns-then-e-eq0 : goal.returns-then-e-eq0
returns-then-e-eq0 c =
    λ head pl f v h.
    let e = c.extent_of-e.result in
    let l = extents-count v c.args.row.0 _ h c.record_word-n.ensures in
    let q = c.extent_of-e.ensures head pl f v h (omega arith) in
    extents_fail _ _ c.loop-j.j (c.loop-j.invariant head pl f v h) (omega arith) (elim c.then-e-eq0.branch [
      | then-e-eq0-via-then-e-eq0 w ↦ ends_empty c.args.end _ _ e.offset e.size (omega arith) q.1 q.0 w.if-e-eq0.true
      | then-e-eq0-via-else-e-eq0+then-end-e w ↦ ends-past c.args.end _ _ e.offset e.size (omega arith) q.1 q.0 (omega arith)
      | then-e-eq0-via-else-e-eq0+else-end-e+then-end-e-2 w ↦ ends-past c.args.end _ _ e.offset e.size (omega arith) q.1 q.0 (omega arith)
    ]) ∙ extents-both _ _ _

pub loop-j-preserved : goal.loop-j-preserved
loop-j-preserved c =
    λ head pl f v h.
    let e = c.extent_of-e.result in
    let l = extents-count v c.args.row.0 _ h c.record_word-n.ensures in
    let q = c.extent_of-e.ensures head pl f v h (omega arith) in
    extents-on _ _ c.loop-j.j (c.loop-j.invariant head pl f v h) (omega arith)
    (ends-before c.args.end _ _ e.offset e.size (omega arith) q.1 q.0 (omega arith) c.if-e-eq0.false)

pub returns : goal.returns
returns c =
    λ head pl f v h.
    let l = extents-count v c.args.row.0 _ h c.record_word-n.ensures in
    extents_pass _ _ c.loop-j.j (c.loop-j.invariant head pl f v h) (omega arith) ∙ extents-both _ _ _
