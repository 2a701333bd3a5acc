-- `arguments::is_word` answers `same`: the library's comparison of two slices is that. Assumes nothing.
use mathlib.Core.Path.{◌≡◌, ◌∙◌, refl, ap}
use mathlib.Core.Bool.{◌&&◌}
use mathlib.Core.List.{List, [], ◌∷◌}
use Prim.Native.Nat.{ℕ}
use lib.Dec.{eqb}
use lib.Pointwise.{pointwise}
use Rattle.arguments.specs.inner.Word.{same}
use Rattle.arguments.proofs.is_word.Goals as goal

compared-same : (s t : List ℕ) → pointwise eqb s t ≡ same s t
unfolding same
compared-same [] [] = refl
compared-same [] (y ∷ t) = refl
compared-same (x ∷ s) [] = refl
compared-same (x ∷ s) (y ∷ t) = ap (◌&&◌ (eqb x y)) (compared-same s t)

pub returns : goal.returns
returns c = c.eq.ensures ∙ compared-same c.args.s.now c.args.word.now
