-- `joining::piece_at`, which calls itself. The measure: the links that are left.
use Rattle.joining.proofs.+piece_at.Given as goal

abbrev pub decreases-piece_at : goal.decreases-piece_at
decreases-piece_at l = l.d
