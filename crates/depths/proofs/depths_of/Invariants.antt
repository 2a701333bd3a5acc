-- `depths::depths_of` meets its contract. The loop's invariant: the words are at least the depths of k rounds, and no
-- more than the depths; a sweep that is not to be done again gives those of the 17th. Assumes nothing.
use mathlib.Core.Path.{◌≡◌}
use lib.ListN.{length}
use Rattle.depths.proofs.RoundLaws.{Deep}
use Rattle.depths.proofs.depths_of.Given as goal

abbrev pub invariant-loop-k : goal.invariant-loop-k
invariant-loop-k l = (length l.depths ≡ 256) × Deep l.table l.rows l.n l.k l.depths
