-- `depths::place_in_sweep` meets its contract. Assumes nothing.
use Rattle.depths.proofs.SweepLaws.{place_up, place_down, place-past}
use Rattle.depths.proofs.place_in_sweep.Goals as goal

pub returns-then-up : goal.returns-then-up
returns-then-up c = place_up _ _ _ c.if-up.true

pub returns-then-row-n : goal.returns-then-row-n
returns-then-row-n c = place_down _ _ _ c.if-up.false c.if-row-n.true

pub returns-else-row-n : goal.returns-else-row-n
returns-else-row-n c = place-past _ _ _ c.if-up.false c.if-row-n.false
