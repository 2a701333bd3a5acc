-- Members of a list of IDs, and lists in which no ID stands twice. Assumes nothing.
use Prim.Native.Nat.{ℕ, zero, suc, ◌<◌}
use native.Mathlib.Nat.{not-suc-le-zero, le_of_suc-le-suc}
use native.Mathlib.Omega.{arith}
use mathlib.Core.Path.{◌≡◌, refl, sym, ap, ◌∙◌}
use mathlib.Core.List.{List, [], ◌∷◌, ◌++◌}
use mathlib.Core.Bool.{Bool, true, false, ◌||◌}
use lib.ListN.{length, get_or}
use lib.Dec.{eqb}
use borrow.Author.Tests.{eq-eqb, ne_eqb, eqb-false}
use Rattle.fields.specs.Lists.{member}
use Rattle.fields.proofs.TestLaws.{or_neither, member-at}
use Rattle.records.specs.inner.Rows.{Distinct}

-- _||_
or_true : (a : Bool) → (a || true) ≡ true
or_true true = refl
or_true false = refl

-- member
pub member-none : (x : ℕ) (l : List ℕ) → ((k : ℕ) → k < length l → get_or l k 0 ≡ x → ⊥) → member x l ≡ false
member-none x [] h = refl
member-none x (y ∷ l) h = rw (ne_eqb x y (λ q. h 0 (omega arith) (sym q))) (member-none x l (λ k m q. h (suc k) (omega arith) q))

pub none-member : (x : ℕ) (l : List ℕ) → member x l ≡ false → (k : ℕ) → k < length l → get_or l k 0 ≡ x → ⊥
none-member x l e k h q = let t = member-at x l k h q in let z : ◌≡◌ {A = ℕ} 0 1 = cc in omega arith

-- not a member: not the first, and not one of the rest
pub member_neither : (x y : ℕ) (l : List ℕ) → member x (y ∷ l) ≡ false → (x ≡ y → ⊥) × (member x l ≡ false)
member_neither x y l e = let b = or_neither (eqb x y) (member x l) e in (eqb-false x y b.0, b.1)

pub member-last : (x : ℕ) (l : List ℕ) → member x (l ++ (x ∷ [])) ≡ true
member-last x [] = rw (eq-eqb x x refl)
member-last x (y ∷ l) = rw (member-last x l) (or_true (eqb x y))

pub member-other : (x y : ℕ) (l : List ℕ) → (x ≡ y → ⊥) → member x (l ++ (y ∷ [])) ≡ member x l
member-other x y [] n = rw (ne_eqb x y n)
member-other x y (z ∷ l) n = rw (member-other x y l n)

-- Distinct
pub distinct_more : (ids : List ℕ) (x : ℕ) → Distinct ids → member x ids ≡ false → Distinct (ids ++ (x ∷ []))
distinct_more [] x d e = (refl, tt)
distinct_more (y ∷ ids) x d e =
    let n = member_neither x y ids e in
    (member-other y x ids (λ q. n.0 (sym q)) ∙ d.0, distinct_more ids x d.1 n.1)

pub distinct-place : (ids : List ℕ) (j r : ℕ) → Distinct ids → j < length ids → r < length ids → get_or ids j 0 ≡ get_or ids r 0 → j ≡ r
distinct-place [] j r d h l e = absurd (not-suc-le-zero h)
distinct-place (x ∷ ids) zero zero d h l e = refl
distinct-place (x ∷ ids) zero (suc r) d h l e = absurd (none-member x ids d.0 r (le_of_suc-le-suc l) (sym e))
distinct-place (x ∷ ids) (suc j) zero d h l e = absurd (none-member x ids d.0 j (le_of_suc-le-suc h) e)
distinct-place (x ∷ ids) (suc j) (suc r) d h l e = ap suc (distinct-place ids j r d.1 (le_of_suc-le-suc h) (le_of_suc-le-suc l) e)
