-- `canvas::scale_of` meets its contract. Assumes nothing.
use native.Mathlib.Omega.{arith}
use Rattle.canvas.specs.inner.Scale.{scale_of}
use Rattle.canvas.proofs.page.scale_of.Goals as goal

pub returns-then-across-down : goal.returns-then-across-down
unfolding scale_of
returns-then-across-down c = omega arith

pub returns : goal.returns
unfolding scale_of
returns c = omega arith
