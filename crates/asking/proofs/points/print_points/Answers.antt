-- `asking::points::print_points` is safe and ends. Assumes nothing.
use lib.ListN.{length-take}
use native.Mathlib.Omega.{arith}
use Rattle.asking.proofs.points.print_points.Goals as goal

pub slice_bounds-print_filled-end : goal.slice_bounds-print_filled-end
slice_bounds-print_filled-end c = rw length-take (omega arith)
