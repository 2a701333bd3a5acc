-- `needed::count_sources` meets its contract. The loop's invariant: the sources of the rows passed are counted. Assumes nothing.
use mathlib.Core.Path.{◌≡◌}
use lib.ListN.{length}
use Rattle.needed.specs.inner.Marked.{marked_of}
use Rattle.needed.proofs.count_sources.Given as goal

abbrev pub invariant-loop-k : goal.invariant-loop-k
invariant-loop-k l = l.count ≡ length (marked_of l.table l.marks l.k)
