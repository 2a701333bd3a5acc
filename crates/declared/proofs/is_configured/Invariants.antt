-- `declared::is_configured` meets its contract. The loop's invariant: what is left from j on says the same as the whole,
-- behind one that is marked where one was seen. Assumes nothing.
use Prim.Native.Nat.{ℕ, ◌<◌}
use mathlib.Core.Path.{◌≡◌}
use mathlib.Core.List.{List}
use lib.ListN.{length}
use Rattle.contents.specs.File.{File}
use Rattle.rules.specs.Joined.{item_at}
use Rattle.rules.specs.Places.{Places}
use Rattle.rules.specs.Rules.{configured}
use Rattle.views.specs.inner.View.{TableOf, id_of}
use Rattle.declared.proofs.ConfiguredLaws.{marked_from}
use Rattle.declared.proofs.is_configured.Given as goal

abbrev pub invariant-loop-j : goal.invariant-loop-j
invariant-loop-j l =
    (head : List ℕ) (pl : Places) (f : File) → TableOf l.table head pl f → l.row.0 < length f.items →
    configured f (item_at f l.row.0) ≡ marked_from f (id_of f l.row.0) l.j l.seen
