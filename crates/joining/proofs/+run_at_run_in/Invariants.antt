-- `joining::run_at` and `joining::run_in`, which call each other. The measure: two for each link that is left, and one more at an item.
use Prim.Native.Nat.{◌+◌, ◌*◌}
use Rattle.joining.proofs.+run_at_run_in.Given as goal

abbrev pub decreases-run_at : goal.decreases-run_at
decreases-run_at l = 2 * l.d + 1

abbrev pub decreases-run_in : goal.decreases-run_in
decreases-run_in l = 2 * l.d
