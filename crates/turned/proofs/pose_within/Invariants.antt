-- `turned::pose_within` meets its contract: what is left from association j on makes of `pose` what all make of 0. Assumes nothing.
use Prim.Native.Nat.{◌<◌}
use mathlib.Core.Path.{◌≡◌}
use lib.ListN.{length, drop}
use Rattle.contents.specs.File.{File}
use Rattle.pictures.specs.Decode.{turns_of}
use Rattle.rules.specs.Joined.{boxes_of}
use Rattle.rules.specs.Places.{Places}
use Rattle.views.specs.inner.View.{TableOf, id_of}
use Rattle.turned.specs.inner.Turns.{posed}
use Rattle.turned.proofs.pose_within.Given as goal

abbrev pub invariant-loop-j : goal.invariant-loop-j
invariant-loop-j l =
    (l.pose.0 < 8) × ((pl : Places) (f : File) → TableOf l.table l.head pl f → l.row.0 < length f.items →
    posed (turns_of l.initial.size (boxes_of f (id_of f l.row.0))) 0 ≡ posed
    (turns_of l.size (drop l.j (boxes_of f (id_of f l.row.0)))) l.pose.0)
