-- `tracing::from_edge` meets its contract. Assumes nothing.
use Rattle.tracing.proofs.SideLaws.{far_before, far_right, far_left}
use Rattle.tracing.proofs.from_edge.Goals as goal

pub returns-then-at-o : goal.returns-then-at-o
returns-then-at-o c =
    let a = c.args in
    λ bytes side e l. far_before bytes a.o a.half e a.at side c.if-o-half.true c.if-at-o.true l

pub returns-then-o-half : goal.returns-then-o-half
returns-then-o-half c =
    let a = c.args in
    λ bytes side e l. far_right bytes a.o a.half e a.at side c.if-o-half.true c.if-at-o.false

pub returns : goal.returns
returns c =
    let a = c.args in
    λ bytes side e l. far_left bytes a.o a.half e a.at side c.if-o-half.false
