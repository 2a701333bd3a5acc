-- `drawing::draw_lined` is safe and ends. Assumes nothing.
use lib.ListN.{length-take}
use native.Mathlib.Omega.{arith}
use Rattle.drawing.proofs.draw_lined.Goals as goal

pub slice_bounds-draw_along-end : goal.slice_bounds-draw_along-end
slice_bounds-draw_along-end c = rw length-take (omega arith)
