-- `sizing::all_size` meets its contract. The loop's invariant: all have the size if those from here on have it. Assumes nothing.
use Prim.Native.Nat.{ℕ, ◌<◌}
use mathlib.Core.Path.{◌≡◌}
use mathlib.Core.List.{List}
use mathlib.Core.Bool.{true}
use lib.ListN.{length, drop}
use Rattle.boxes.specs.Types.{image}
use Rattle.contents.specs.File.{File}
use Rattle.pictures.specs.Scene.{picture_at, all_size}
use Rattle.rules.specs.Joined.{item_at}
use Rattle.rules.specs.Derivations.{scene_of}
use Rattle.sizing.specs.inner.Drawn.{Drawn}
use Rattle.sizing.proofs.all_size.Given as goal

abbrev pub invariant-loop-j : goal.invariant-loop-j
invariant-loop-j l =
    (total : ℕ) (head : List ℕ) (f : File) → Drawn l.table l.rows head total f → l.row.0 < length f.items →
    image (item_at f l.row.0).type ≡ true → all_size (scene_of total head f) l.z
    (picture_at (scene_of total head f) l.row.0).inputs ≡ all_size (scene_of total head f) l.z
    (drop l.j (picture_at (scene_of total head f) l.row.0).inputs)
