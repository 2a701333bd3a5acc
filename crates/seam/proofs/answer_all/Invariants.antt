-- `seam::answer_all` meets its contract. The loop's invariant: as many of the first n records as were passed are answered, the others
-- as they were. Assumes nothing.
use Rattle.std.proofs.Common.{◌≡◌, length}
use Rattle.seam.specs.Points.{single_trace, answered}
use Rattle.seam.specs.inner.Hand.{answered_to}
use Rattle.seam.proofs.answer_all.Given as goal

abbrev pub invariant-loop-r : goal.invariant-loop-r
invariant-loop-r l = l.r-items ≡ answered_to (answered (single_trace (length l.table) l.total l.head l.id.0)) l.r-index l.initial.r-items
