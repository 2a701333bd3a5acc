-- `facing::orientation_of` meets its contract. The loop's invariant: the transforms from j on face by `faced`, and no
-- `clap` is among them. Assumes nothing.
use Prim.Native.Nat.{◌<◌}
use lib.ListN.{length}
use Rattle.contents.specs.File.{File}
use Rattle.rules.specs.Joined.{boxes_of}
use Rattle.rules.specs.Places.{Places}
use Rattle.views.specs.inner.View.{TableOf, id_of}
use Rattle.facing.proofs.FacedLaws.{FacedFrom}
use Rattle.facing.proofs.orientation_of.Given as goal

abbrev pub invariant-loop-j : goal.invariant-loop-j
invariant-loop-j l =
    (pl : Places) (f : File) → TableOf l.table l.head pl f → l.row.0 < length f.items →
    FacedFrom (boxes_of f (id_of f l.row.0)) l.j l.faced
