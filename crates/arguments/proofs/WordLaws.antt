-- The laws of words. Assumes nothing.
use Prim.Native.Nat.{ℕ}
use mathlib.Core.Path.{◌≡◌, refl, ap₂, subst}
use mathlib.Core.List.{List, [], ◌∷◌}
use mathlib.Core.Bool.{true}
use borrow.Author.Tests.{eq-eqb, eqb-true}
use Rattle.fields.proofs.TestLaws.{untrue, and_both, both-and}
use Rattle.arguments.specs.inner.Word.{same}

-- words with the same bytes are one, and only they
pub same-sound : (s t : List ℕ) → same s t ≡ true → s ≡ t
unfolding same
same-sound [] [] e = refl
same-sound [] (y ∷ t) e = untrue e
same-sound (x ∷ s) [] e = untrue e
same-sound (x ∷ s) (y ∷ t) e = let h = and_both _ _ e in ap₂ ◌∷◌ (eqb-true x y h.0) (same-sound s t h.1)

same_self : (s : List ℕ) → same s s ≡ true
unfolding same
same_self [] = refl
same_self (x ∷ s) = both-and _ _ (eq-eqb x x refl) (same_self s)

pub same-complete : (s t : List ℕ) → s ≡ t → same s t ≡ true
same-complete s t e = subst (λ (u : List ℕ). same s u ≡ true) e (same_self s)
