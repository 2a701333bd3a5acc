-- `marks::all_grounded` meets its contract. The loop's invariant: what is marked is grounded. The measure: the words
-- that are 0, and 1 while there is more. Assumes nothing.
use Prim.Native.Nat.{◌+◌}
use mathlib.Core.Path.{◌≡◌}
use lib.ListN.{length}
use Rattle.fields.specs.Choice.{pick}
use Rattle.marks.specs.inner.Marks.{Bits, bare}
use Rattle.marks.specs.inner.Grounds.{Grounded}
use Rattle.marks.proofs.all_grounded.Given as goal

abbrev pub invariant-loop-more : goal.invariant-loop-more
invariant-loop-more l = (length l.marks ≡ 256) × Bits l.marks × Grounded l.table l.rows l.n l.marks

abbrev pub decreases-loop-more : goal.decreases-loop-more
decreases-loop-more l = bare l.marks + pick l.more 1 0
