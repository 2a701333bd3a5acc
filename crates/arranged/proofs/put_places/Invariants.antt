-- `arranged::put_places` meets its contract. Assumes nothing.
use Rattle.arranged.specs.inner.Order.{PlacesPut}
use Rattle.arranged.proofs.put_places.Given as goal

abbrev pub invariant-loop-k : goal.invariant-loop-k
invariant-loop-k l = PlacesPut l.k l.initial.table l.table
