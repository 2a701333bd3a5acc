-- `sketch::margins_of` is safe and ends: d falls. Assumes nothing.
use Rattle.sketch.proofs.+margins_of.Given as goal

abbrev pub decreases-margins_of : goal.decreases-margins_of
decreases-margins_of l = l.d
