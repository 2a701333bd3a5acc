-- good_ispe, type by type. Assumes nothing.
--   good_behind s ks    the types ks are good behind types without a fault, among which an `ispe` is where s holds, and else no transform
use Prim.Native.Nat.{ℕ, ◌+◌, ◌≤◌, ◌<◌}
use native.Mathlib.Nat.{zero-add}
use native.Mathlib.Omega.{arith}
use mathlib.Core.Path.{◌≡◌, refl, ap, ◌∙◌}
use mathlib.Core.List.{List, [], ◌∷◌}
use mathlib.Core.Bool.{Bool, true, false, ◌&&◌}
use lib.ListN.{length, get_or, drop, drop_of_length-le}
use lib.Dec.{eqb}
use borrow.Author.Tests.{eq-eqb, ne_eqb, eqb-true, eqb-false}
use Rattle.fields.proofs.FieldLaws.{pick_yes, pick_no, both}
use Rattle.fields.proofs.TestLaws.{and-false}
use Rattle.boxes.specs.Types.{ispe}
use Rattle.pictures.specs.Decode.{transform}
use Rattle.rules.specs.Rules.{count_of, ispe_before, good_ispe}
use Rattle.fields.proofs.ListLaws.{left-from}

unfoldable pub good_behind : Bool → List ℕ → Bool
good_behind true ks = eqb (count_of ispe ks) 0
good_behind false ks = good_ispe ks

pub good-all : (ks : List ℕ) → good_ispe ks ≡ good_behind false ks
unfolding good_behind
good-all ks = refl

good_none : (s : Bool) → good_behind s [] ≡ s
unfolding good_behind count_of ispe_before
good_none true = refl
good_none false = refl

-- count_of, ispe_before: the type k at the front
module _ (k : ℕ) (ks : List ℕ) where
  count-ispe : k ≡ ispe → count_of ispe (k ∷ ks) ≡ 1 + count_of ispe ks
  unfolding count_of
  count-ispe e = ap (λ (n : ℕ). n + count_of ispe ks) (pick_yes 1 0 (eq-eqb k ispe e))

  count-other : (k ≡ ispe → ⊥) → count_of ispe (k ∷ ks) ≡ count_of ispe ks
  unfolding count_of
  count-other n = ap (λ (n : ℕ). n + count_of ispe ks) (pick_no 1 0 (ne_eqb k ispe n)) ∙ zero-add (count_of ispe ks)

  before_turn : transform k ≡ true → ispe_before (k ∷ ks) ≡ eqb (count_of ispe ks) 0
  unfolding ispe_before
  before_turn e = pick_yes _ _ e

  before-other : transform k ≡ false → ispe_before (k ∷ ks) ≡ ispe_before ks
  unfolding ispe_before
  before-other e = pick_no _ _ e

-- no `ispe` is behind a transform where there is none
before-none : (ks : List ℕ) → count_of ispe ks ≡ 0 → ispe_before ks ≡ true
unfolding ispe_before count_of
before-none [] e = refl
before-none (k ∷ ks) e =
    let z : count_of ispe ks ≡ 0 = omega arith in
    both (λ (b : Bool). b ≡ true) (transform k) _ _ (λ q. eq-eqb _ 0 z) (λ q. before-none ks z)

one_more : (ks : List ℕ) (t : Bool) → eqb (count_of ispe ks) 0 ≡ t → (eqb (1 + count_of ispe ks) 1 && ispe_before ks) ≡ t
one_more ks true e = let z = eqb-true _ 0 e in rw (before-none ks z, eq-eqb (1 + count_of ispe ks) 1 (omega arith))
one_more ks false e = rw (ne_eqb (1 + count_of ispe ks) 1 (λ q. eqb-false (count_of ispe ks) 0 e (omega arith)))

-- good_behind: the type k at the front
module _ (k : ℕ) (ks : List ℕ) where
  good-first : k ≡ ispe → good_behind false (k ∷ ks) ≡ good_behind true ks
  unfolding good_behind
  good-first e = rw (count-ispe k ks e, before-other k ks (ap transform e)) (one_more ks _ refl)

  good_twice : k ≡ ispe → good_behind true (k ∷ ks) ≡ false
  unfolding good_behind
  good_twice e = ne_eqb (count_of ispe (k ∷ ks)) 0 (λ z. omega (arith, count-ispe k ks e, z))

  good-other : (s : Bool) → (k ≡ ispe → ⊥) → transform k ≡ false → good_behind s (k ∷ ks) ≡ good_behind s ks
  unfolding good_behind
  good-other true n e = rw (count-other k ks n)
  good-other false n e = rw (count-other k ks n, before-other k ks e)

  good_turn : (k ≡ ispe → ⊥) → good_behind true (k ∷ ks) ≡ good_behind true ks
  unfolding good_behind
  good_turn n = rw (count-other k ks n)

  good_early : (k ≡ ispe → ⊥) → transform k ≡ true → good_behind false (k ∷ ks) ≡ false
  unfolding good_behind
  good_early n e = rw (count-other k ks n, before_turn k ks e)
      (and-false (eqb (count_of ispe ks) 1) (eqb (count_of ispe ks) 0)
      (λ a b. omega (arith, eqb-true (count_of ispe ks) 1 a, eqb-true (count_of ispe ks) 0 b)))

-- from the type k with number j on
module _ (ks : List ℕ) (j : ℕ) (l : j < length ks) (k : ℕ) (e : k ≡ get_or ks j 0) where
  types_left : drop j ks ≡ k ∷ drop (j + 1) ks
  types_left = rw e (left-from ks j 0 l)

  pub first-ispe : k ≡ ispe → good_behind false (drop j ks) ≡ good_behind true (drop (j + 1) ks)
  first-ispe i = ap (good_behind false) types_left ∙ good-first k (drop (j + 1) ks) i

  pub second-ispe : k ≡ ispe → good_behind true (drop j ks) ≡ false
  second-ispe i = ap (good_behind true) types_left ∙ good_twice k (drop (j + 1) ks) i

  pub other-type : (s : Bool) → (k ≡ ispe → ⊥) → transform k ≡ false → good_behind s (drop j ks) ≡ good_behind s (drop (j + 1) ks)
  other-type s n q = ap (good_behind s) types_left ∙ good-other k (drop (j + 1) ks) s n q

  pub sized_turn : (k ≡ ispe → ⊥) → good_behind true (drop j ks) ≡ good_behind true (drop (j + 1) ks)
  sized_turn n = ap (good_behind true) types_left ∙ good_turn k (drop (j + 1) ks) n

  pub early_turn : (k ≡ ispe → ⊥) → transform k ≡ true → good_behind false (drop j ks) ≡ false
  early_turn n q = ap (good_behind false) types_left ∙ good_early k (drop (j + 1) ks) n q

pub good-end : (ks : List ℕ) (j : ℕ) (s : Bool) → length ks ≤ j → good_behind s (drop j ks) ≡ s
good-end ks j s h = ap (good_behind s) (drop_of_length-le ks h) ∙ good_none s
