-- `records::last_upto` meets its contract. The loop's invariant: the last key that is at most x is one of `width` from `at` on. The measure is
-- the width. Assumes nothing.
use Prim.Native.Nat.{◌+◌, ◌<◌, ◌≤◌}
use Rattle.records.proofs.KeyedLaws.{Within}
use Rattle.records.proofs.last_upto.Given as goal

abbrev pub invariant-loop-width : goal.invariant-loop-width
invariant-loop-width l = (0 < l.width) × (l.at + l.width ≤ 512) × Within l.keys l.x l.at l.width

abbrev pub decreases-loop-width : goal.decreases-loop-width
decreases-loop-width l = l.width
