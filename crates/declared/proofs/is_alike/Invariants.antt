-- `declared::is_alike` meets its contract. The loop's invariant: the associations passed are the same. Assumes nothing.
use Prim.Native.Nat.{ℕ, ◌<◌}
use mathlib.Core.List.{List}
use lib.ListN.{length}
use Rattle.contents.specs.File.{File}
use Rattle.rules.specs.Places.{Places}
use Rattle.views.specs.inner.View.{TableOf, id_of}
use Rattle.declared.proofs.AlikeLaws.{AlikeTo}
use Rattle.declared.proofs.is_alike.Given as goal

abbrev pub invariant-loop-j : goal.invariant-loop-j
invariant-loop-j l =
    (head : List ℕ) (pl : Places) (f : File) → TableOf l.table head pl f → l.row.0 < length f.items →
    l.other.0 < length f.items → AlikeTo f (id_of f l.row.0) (id_of f l.other.0) l.j
