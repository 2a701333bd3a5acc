-- `judging::first_unplaced` meets its contract. The loop's invariant: what is asked of the rows from here on decides. Assumes nothing.
use Prim.Native.Nat.{ℕ}
use mathlib.Core.Path.{◌≡◌}
use mathlib.Core.List.{List}
use lib.ListN.{length}
use Rattle.contents.specs.File.{File}
use Rattle.records.specs.inner.Named.{NamedIn}
use Rattle.linking.specs.inner.Bytes.{LinksAre}
use Rattle.judging.specs.inner.Order.{Early}
use Rattle.judging.proofs.OrderLaws.{places_from}
use Rattle.judging.proofs.first_unplaced.Given as goal

abbrev pub invariant-loop-k : goal.invariant-loop-k
invariant-loop-k l =
    (head : List ℕ) (f : File) → Early l.table head l.ends.total l.ends.idat f → NamedIn f l.rows → LinksAre l.table l.rows l.n l.links →
    l.n ≡ length f.items → places_from l.ends.total head f 0 ≡ places_from l.ends.total head f l.k
