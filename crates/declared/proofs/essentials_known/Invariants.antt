-- `declared::essentials_known` meets its contract. The loop's invariant: what is left from j on says the same as the
-- whole. Assumes nothing.
use Prim.Native.Nat.{ℕ, ◌<◌}
use mathlib.Core.Path.{◌≡◌}
use mathlib.Core.List.{List}
use lib.ListN.{length, drop}
use Rattle.contents.specs.File.{File}
use Rattle.rules.specs.Joined.{associations_of}
use Rattle.rules.specs.Places.{Places}
use Rattle.rules.specs.Rules.{essential_known}
use Rattle.views.specs.inner.View.{TableOf, id_of}
use Rattle.declared.proofs.essentials_known.Given as goal

abbrev pub invariant-loop-j : goal.invariant-loop-j
invariant-loop-j l =
    (head : List ℕ) (pl : Places) (f : File) → TableOf l.table head pl f → l.row.0 < length f.items →
    essential_known f (associations_of f (id_of f l.row.0)) ≡ essential_known f
    (drop l.j (associations_of f (id_of f l.row.0)))
