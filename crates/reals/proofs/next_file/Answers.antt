-- `reals::next_file` is safe and ends. Assumes nothing.
use lib.ListN.{length-take}
use native.Mathlib.Omega.{arith}
use Rattle.reals.proofs.next_file.Goals as goal

pub slice_bounds-print_name-end : goal.slice_bounds-print_name-end
slice_bounds-print_name-end c = rw length-take (omega arith)

pub slice_bounds-print_listing-end : goal.slice_bounds-print_listing-end
slice_bounds-print_listing-end c = rw length-take (omega arith)
