-- `linking::links_of` meets its contract. The loop's invariant: all rows have their bytes with levels below k. Assumes nothing.
use mathlib.Core.Path.{◌≡◌}
use lib.ListN.{length}
use Rattle.linking.specs.inner.Links.{LinksIn}
use Rattle.linking.specs.inner.Bytes.{Linked}
use Rattle.linking.proofs.links_of.Given as goal

abbrev pub invariant-loop-k : goal.invariant-loop-k
invariant-loop-k l =
    (length l.links ≡ 256) × (LinksIn l.table l.rows l.n → Linked l.table l.rows l.k l.n l.links)
