-- `declared::read_sizes` meets its contract. The loop's invariant: what is left from j on, behind the sizes read so
-- far, tells the same as the whole. Assumes nothing.
use Prim.Native.Nat.{◌<◌}
use mathlib.Core.Path.{◌≡◌}
use lib.ListN.{length}
use Rattle.contents.specs.File.{File}
use Rattle.rules.specs.Places.{Places}
use Rattle.views.specs.inner.View.{TableOf, id_of}
use Rattle.declared.specs.inner.Told.{told_sizes}
use Rattle.declared.proofs.ToldLaws.{told_from}
use Rattle.declared.proofs.read_sizes.Given as goal

abbrev pub invariant-loop-j : goal.invariant-loop-j
invariant-loop-j l =
    (pl : Places) (f : File) → TableOf l.table l.head pl f → l.row.0 < length f.items →
    told_sizes f (id_of f l.row.0) ≡ told_from f (id_of f l.row.0) l.j l.sized l.declared l.output
