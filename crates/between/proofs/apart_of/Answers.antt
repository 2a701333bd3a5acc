-- `between::apart_of` answers `apart`. Assumes nothing.
use Rattle.between.proofs.SeamLaws.{apart_up, apart-down}
use Rattle.between.proofs.apart_of.Goals as goal

pub returns-then-a-b : goal.returns-then-a-b
returns-then-a-b c = apart_up _ _ c.if-a-b.true

pub returns : goal.returns
returns c = apart-down _ _ c.if-a-b.false
