-- `derived::all_images` meets its contract. The loop's invariant: all are images if those from here on are. Assumes nothing.
use Prim.Native.Nat.{ℕ, ◌<◌}
use mathlib.Core.Path.{◌≡◌}
use mathlib.Core.List.{List}
use lib.ListN.{length, drop}
use Rattle.contents.specs.File.{File}
use Rattle.rules.specs.Joined.{targets_of}
use Rattle.rules.specs.Derivations.{all_images}
use Rattle.rules.specs.Places.{Places}
use Rattle.views.specs.inner.View.{TableOf, id_of}
use Rattle.derived.specs.inner.Told.{Resolved}
use Rattle.derived.proofs.all_images.Given as goal

abbrev pub invariant-loop-j : goal.invariant-loop-j
invariant-loop-j l =
    (head : List ℕ) (pl : Places) (f : File) → TableOf l.table head pl f → Resolved l.table l.rows f →
    l.row.0 < length f.items → all_images f (targets_of f (id_of f l.row.0)) ≡ all_images f
    (drop l.j (targets_of f (id_of f l.row.0)))
