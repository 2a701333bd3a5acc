-- `depths::row_in_sweep` meets its contract. Assumes nothing.
use native.Mathlib.Omega.{arith}
use Rattle.depths.proofs.SweepLaws.{row_up, row-down}
use Rattle.depths.proofs.row_in_sweep.Goals as goal

pub returns-then-up : goal.returns-then-up
returns-then-up c = (row_up _ _ _ c.if-up.true, c.requires)

pub returns : goal.returns
returns c = (row-down _ _ _ c.if-up.false, omega (arith, c.requires))
