-- `needed::put_sources` meets its contract. The loop's invariant: the sources of the rows passed are counted, and stand
-- in the list if they fit. Assumes nothing.
use Rattle.needed.proofs.MarkedLaws.{Kept}
use Rattle.needed.proofs.put_sources.Given as goal

abbrev pub invariant-loop-k : goal.invariant-loop-k
invariant-loop-k l = Kept l.table l.marks l.initial.list l.k l.count l.list
