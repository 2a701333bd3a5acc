use Rattle.std.proofs.Common.{◌-◌, ◌≤◌}
use Rattle.input.proofs.count_on.Given as goal

abbrev pub invariant-loop-total : goal.invariant-loop-total
invariant-loop-total g l = l.fn.kept ≤ l.total

abbrev pub decreases-loop-total : goal.decreases-loop-total
decreases-loop-total g l = 4611686018427387904 - l.total
