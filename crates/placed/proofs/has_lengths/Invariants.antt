-- `placed::has_lengths` meets its contract. Assumes nothing.
use Prim.Native.Nat.{ℕ, ◌<◌}
use mathlib.Core.Path.{◌≡◌}
use mathlib.Core.List.{List}
use mathlib.Core.Bool.{not}
use lib.ListN.{length, drop}
use lib.Dec.{eqb}
use Rattle.contents.specs.Iloc.{Extent}
use Rattle.contents.specs.File.{File}
use Rattle.rules.specs.Bytes.{all_extents, good_lengths}
use Rattle.rules.specs.Joined.{location_of}
use Rattle.rules.specs.Places.{Places}
use Rattle.views.specs.inner.View.{TableOf, id_of}
use Rattle.placed.proofs.has_lengths.Given as goal

abbrev pub invariant-loop-j : goal.invariant-loop-j
invariant-loop-j l =
    (head : List ℕ) (pl : Places) (f : File) → TableOf l.table head pl f → l.row.0 < length f.items →
    good_lengths (location_of f (id_of f l.row.0)) ≡ all_extents (λ (e : Extent). not (eqb e.size 0))
    (drop l.j (location_of f (id_of f l.row.0)).extents)
