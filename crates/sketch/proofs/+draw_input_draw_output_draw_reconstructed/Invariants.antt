-- `sketch::draw_output`, `sketch::draw_reconstructed` and `sketch::draw_input`, which call each other, are safe, end,
-- and never leave more to draw than there was. The measure: three for each derivation that may still be gone down, two
-- more at an output image and one more at a reconstructed one. Assumes nothing.
use Rattle.std.proofs.Common.{◌+◌, ◌-◌, ◌*◌, ◌≤◌}
use Rattle.sketch.proofs.+draw_input_draw_output_draw_reconstructed.Given as goal

abbrev pub decreases-draw_input : goal.decreases-draw_input
decreases-draw_input l = 3 * l.limit.down

abbrev pub decreases-draw_output : goal.decreases-draw_output
decreases-draw_output l = 3 * l.limit.down + 2

abbrev pub decreases-draw_reconstructed : goal.decreases-draw_reconstructed
decreases-draw_reconstructed l = 3 * l.limit.down + 1

abbrev pub invariant-draw_reconstructed-loop-k : goal.invariant-draw_reconstructed-loop-k
invariant-draw_reconstructed-loop-k l = l.rest ≤ l.limit.left
