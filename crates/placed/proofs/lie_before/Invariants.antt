-- `placed::lie_before` meets its contract: both tests of an extent are one, and what all make of it is what those from here on make. Assumes nothing.
use Prim.Native.Nat.{ℕ, ◌<◌}
use mathlib.Core.Path.{◌≡◌}
use mathlib.Core.List.{List}
use lib.ListN.{length, drop}
use Rattle.contents.specs.File.{File}
use Rattle.rules.specs.Bytes.{all_extents}
use Rattle.rules.specs.Joined.{location_of}
use Rattle.rules.specs.Places.{Places}
use Rattle.views.specs.inner.View.{TableOf, id_of}
use Rattle.placed.proofs.ExtentLaws.{ends_by}
use Rattle.placed.proofs.lie_before.Given as goal

abbrev pub invariant-loop-j : goal.invariant-loop-j
invariant-loop-j l =
    (head : List ℕ) (pl : Places) (f : File) → TableOf l.table head pl f → l.row.0 < length f.items →
    all_extents (ends_by l.end pl (location_of f (id_of f l.row.0))) (location_of f (id_of f l.row.0)).extents ≡
    all_extents (ends_by l.end pl (location_of f (id_of f l.row.0))) (drop l.j (location_of f (id_of f l.row.0)).extents)
