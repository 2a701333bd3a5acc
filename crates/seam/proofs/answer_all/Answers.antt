-- `seam::answer_all` meets its contract. Assumes nothing.
use Rattle.std.proofs.Common.{◌≡◌, ◌≤◌, length, length-take-le, sym, arith}
use Rattle.seam.proofs.PointsLaws.{none-answered, next_answered, answered_front}
use Rattle.seam.proofs.answer_all.Goals as goal

pub loop-r-init : goal.loop-r-init
loop-r-init c = sym (none-answered _ _)

pub loop-r-preserved : goal.loop-r-preserved
loop-r-preserved c = next_answered _ _ _ _ _ _ c.loop-r.invariant c.answer.ensures (omega arith)

pub returns : goal.returns
returns c =
    let n : c.args.n ≤ length c.args.points.now = c.requires.0 in
    let k : c.loop-r.r-index ≡ c.args.n = omega (arith, length-take-le c.args.n c.args.points.now n) in
    rw (c.loop-r.invariant, k) (answered_front _ _ _ n)
