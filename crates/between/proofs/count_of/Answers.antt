-- `between::count_of` answers `count_of`. Assumes nothing.
use Rattle.between.proofs.SeamLaws.{many-down, few-down, many_across, few_across}
use Rattle.between.proofs.count_of.Goals as goal

pub returns-then-down-ge511 : goal.returns-then-down-ge511
returns-then-down-ge511 c = many-down _ _ c.if-across-down.true c.if-down-ge511.true

pub returns-then-across-down : goal.returns-then-across-down
returns-then-across-down c = few-down _ _ c.if-across-down.true c.if-down-ge511.false

pub returns-then-across-ge511 : goal.returns-then-across-ge511
returns-then-across-ge511 c = many_across _ _ c.if-across-down.false c.if-across-ge511.true

pub returns : goal.returns
returns c = few_across _ _ c.if-across-down.false c.if-across-ge511.false
