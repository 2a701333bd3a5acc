-- `marks::all_grounded` meets its contract. Assumes nothing.
use mathlib.Core.Path.{refl, ◌∙◌}
use Rattle.marks.proofs.MarkLaws.{grown-less, zeros_bits}
use Rattle.marks.proofs.GroundLaws.{grounded_none, grounded_all}
use Rattle.marks.proofs.all_grounded.Goals as goal

pub loop-more-init : goal.loop-more-init
loop-more-init c = (refl, zeros_bits, grounded_none _ _ _)

pub loop-more-smaller : goal.loop-more-smaller
loop-more-smaller c =
    let q = c.loop-more in
    grown-less q.marks c.ground-more.new.marks q.more c.ground-more.result c.loop-more-test.true c.ground-more.ensures.grown

pub loop-more-preserved : goal.loop-more-preserved
loop-more-preserved c =
    let q = c.loop-more in
    (c.ground-more.auto.marks ∙ q.invariant.0, c.ground-more.ensures.grown.bits, c.ground-more.ensures.kept _ q.invariant.2)

pub returns : goal.returns
returns c =
    let a = c.args in
    let q = c.loop-more in
    λ e. grounded_all a.table.now a.rows.now a.n q.marks q.invariant.2 (c.all_marked.ensures e)
