-- `placed::lie_in_sources` meets its contract. The loop's invariant: what the extents from here on make of 14 is what all make.
-- Assumes nothing.
use Prim.Native.Nat.{ℕ, ◌-◌, ◌<◌}
use mathlib.Core.Path.{◌≡◌}
use mathlib.Core.List.{List}
use mathlib.Core.Bool.{false}
use lib.ListN.{length}
use Rattle.contents.specs.File.{File}
use Rattle.rules.specs.Bytes.{names_past}
use Rattle.rules.specs.Places.{Places}
use Rattle.views.specs.inner.View.{id_of}
use Rattle.placed.specs.inner.Plain.{SourcesAre, Chained}
use Rattle.placed.proofs.SourceLaws.{RowIs, InFrom}
use Rattle.placed.proofs.lie_in_sources.Given as goal

abbrev pub invariant-loop-e : goal.invariant-loop-e
invariant-loop-e l =
    (head : List ℕ) (pl : Places) (f : File) (r : ℕ) →
    SourcesAre l.table l.rows l.sums head pl l.ends.idat f → r < length f.items → RowIs l.table r l.first l.past l.method →
    Chained f (id_of f r) → names_past 8 f (id_of f r) ≡ false →
    InFrom l.ends.total head f (id_of f r) (l.e - l.first)
