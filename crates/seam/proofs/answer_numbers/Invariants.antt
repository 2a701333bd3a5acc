-- `seam::answer_numbers` meets its contract. The loop's invariant: as many records as were passed are answered, the others as they
-- were. Assumes nothing.
use Prim.Native.Nat.{ℕ}
use mathlib.Core.Path.{◌≡◌}
use Rattle.boxes.specs.Answer.{ok}
use Rattle.contents.specs.File.{File}
use Rattle.rules.specs.Opening.{pictured}
use Rattle.tracing.specs.inner.Told.{Shown}
use Rattle.seam.specs.inner.Hand.{answered_to}
use Rattle.seam.proofs.NumbersLaws.{by_trace}
use Rattle.seam.proofs.answer_numbers.Given as goal

abbrev pub invariant-loop-r : goal.invariant-loop-r
invariant-loop-r l =
    (total : ℕ) (f : File) → Shown l.table l.rows l.head total f → pictured f l.id.0 ≡ ok l.row.0 →
    l.points ≡ answered_to (by_trace l.head total f l.id.0) l.r-index l.initial.points
