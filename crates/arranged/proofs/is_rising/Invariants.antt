-- `arranged::is_rising` meets its contract. Assumes nothing.
use mathlib.Core.Path.{◌≡◌}
use mathlib.Core.Bool.{true}
use Rattle.arranged.specs.inner.Order.{Rising}
use Rattle.arranged.proofs.is_rising.Given as goal

abbrev pub invariant-loop-k : goal.invariant-loop-k
invariant-loop-k l = (l.rising ≡ true → Rising l.k l.rows) × (Rising l.k l.rows → l.rising ≡ true)
