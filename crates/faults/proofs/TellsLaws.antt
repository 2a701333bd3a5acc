-- Tests that tell a fault: a test fails where the fault is there, and holds where it is not. Assumes nothing.
--   Tells t W      the test t tells W;   one law for each way in which tests are put together
use Prim.Native.Nat.{ℕ, ◌<◌}
use native.Mathlib.Omega.{arith}
use mathlib.Core.Path.{◌≡◌, refl, sym, ◌∙◌}
use mathlib.Core.List.{List, [], ◌∷◌}
use mathlib.Core.Bool.{Bool, true, false, ◌&&◌, ◌||◌, not}
use mathlib.Core.Logic.{◌⊎◌, inl, inr}
use lib.Dec.{leb, eqb}
use borrow.Author.Tests.{leb-true, leb-false, eqb-true, eqb-false}
use Rattle.fields.proofs.TestLaws.{untrue}
use Rattle.faults.specs.Fault.{Any, Not}

pub record Tells (t : Bool) (W : Type 0) : Type 0 where
  pub there : t ≡ false → W
  pub absent : t ≡ true → W → ⊥

-- the same fault in other words
pub tells_as : {t : Bool} {W U : Type 0} → (W → U) → (U → W) → Tells t W → Tells t U
tells_as to from k = record { there = λ e. to (k.there e); absent = λ e v. k.absent e (from v) }

-- _&&_
pub tells_and : (a b : Bool) {A B : Type 0} → Tells a A → Tells b B → Tells (a && b) (A ⊎ B)
tells_and true b {A} {B} k l = record { there = λ e. inr (l.there e); absent = λ e w. by e w }
  where
    by : b ≡ true → A ⊎ B → ⊥
    by e (inl x) = k.absent refl x
    by e (inr y) = l.absent e y
tells_and false b k l = record { there = λ e. inl (k.there refl); absent = λ e w. untrue e }

-- a test that is asked by its own value
pub tells_itself : (t : Bool) → Tells t (t ≡ false)
tells_itself true = record { there = λ e. e; absent = λ e w. untrue (sym w) }
tells_itself false = record { there = λ e. e; absent = λ e w. untrue e }

-- not
pub tells_not : (t : Bool) → Tells (not t) (t ≡ true)
tells_not true = record { there = λ e. refl; absent = λ e w. untrue e }
tells_not false = record { there = λ e. untrue (sym e); absent = λ e w. untrue w }

-- what is needed only where a is true
pub tells_where : (a b : Bool) {W : Type 0} → Tells b W → Tells (not a || b) ((a ≡ true) × W)
tells_where true b k = tells_as (λ w. (refl, w)) (λ w. w.1) k
tells_where false b k = record { there = λ e. untrue (sym e); absent = λ e w. untrue w.0 }

pub tells_if : (a b : Bool) → Tells (not a || b) ((a ≡ true) × (b ≡ false))
tells_if a b = tells_where a b (tells_itself b)

-- eqb, leb
pub tells_equal : (a b : ℕ) → Tells (eqb a b) (Not (a ≡ b))
tells_equal a b = record { there = eqb-false a b; absent = λ e w. w (eqb-true a b e) }

pub tells_other : (a b : ℕ) → Tells (not (eqb a b)) (a ≡ b)
tells_other a b = record { there = λ e. eqb-true a b ((tells_not (eqb a b)).there e); absent = λ e w. by (eqb a b) refl e w }
  where
    by : (t : Bool) → eqb a b ≡ t → not t ≡ true → a ≡ b → ⊥
    by true q e w = untrue e
    by false q e w = eqb-false a b q w

pub tells_most : (a b : ℕ) → Tells (leb a b) (b < a)
tells_most a b = record { there = leb-false a b; absent = λ e w. let h = leb-true a b e in omega arith }

-- a test of each of a list, by the two clauses that such a test has
pub tells_each : {A : Type 0} (t : A → Bool) (P : A → Type 0) (all : List A → Bool) → all [] ≡ true →
    ((x : A) (xs : List A) → all (x ∷ xs) ≡ (t x && all xs)) → ((x : A) → Tells (t x) (P x)) → (l : List A) →
    Tells (all l) (Any P l)
tells_each t P all e-none e-more k [] = record { there = λ e. untrue (sym e ∙ e-none); absent = λ e w. w }
tells_each t P all e-none e-more k (x ∷ xs) = rw e-more (tells_and (t x) (all xs) (k x) (tells_each t P all e-none e-more k xs))
