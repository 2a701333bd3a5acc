-- The laws of numbers as people write them. Assumes nothing.
use Prim.Native.Nat.{ℕ, zero, suc, ◌+◌, ◌*◌, ◌-◌, ◌≤◌, ◌<◌}
use native.Mathlib.Numerals.{add-one}
use native.Mathlib.Omega.{arith}
use mathlib.Core.Path.{◌≡◌, refl, sym, ap, subst, ◌∙◌}
use mathlib.Core.List.{List}
use mathlib.Core.Bool.{Bool, true, false, ◌&&◌}
use lib.ListN.{length, get_or}
use borrow.Author.Tests.{eq-eqb, ne_eqb, lt-ltb, le-ltb}
use Rattle.fields.specs.Choice.{pick}
use Rattle.fields.proofs.FieldLaws.{both}
use Rattle.fields.proofs.TestLaws.{both-and}
use Rattle.arguments.specs.inner.Number.{digit_of, digits, value, number_of}
use Rattle.std.specs.Prelude.{Option, Some, None}

and-false : (a b : Bool) → a ≡ false → (a && b) ≡ false
and-false a b e = rw e

false-and : (a b : Bool) → b ≡ false → (a && b) ≡ false
false-and true b e = e
false-and false b e = refl

module _ (s : List ℕ) where
  pub digits-none : digits s 0 ≡ true
  unfolding digits
  digits-none = refl

  pub value_none : value s 0 ≡ 0
  unfolding value
  value_none = refl

  -- one more byte
  pub digits_more : (n : ℕ) → digits s n ≡ true → digit_of (get_or s n 0) < 10 → digits s (n + 1) ≡ true
  unfolding digits
  digits_more n e h = rw add-one (both-and _ _ e (lt-ltb _ _ h))

  pub value-more : (n v d : ℕ) → v ≡ value s n → d ≡ digit_of (get_or s n 0) → v * 10 + d ≡ value s (n + 1)
  unfolding value
  value-more n v d e q = rw add-one (omega arith)

  -- a byte that shows no digit spoils all that follow, and a value never falls
  spoiled : (n k : ℕ) → digits s n ≡ false → digits s (n + k) ≡ false
  unfolding digits
  spoiled n zero e = ap (digits s) (let z : n + 0 ≡ n = omega arith in z) ∙ e
  spoiled n (suc k) e = ap (digits s) (let z : n + suc k ≡ suc (n + k) = omega arith in z) ∙ and-false _ _ (spoiled n k e)

  rises : (n k : ℕ) → value s n ≤ value s (n + k)
  unfolding value
  rises n zero = let z : n + 0 ≡ n = omega arith in let e = ap (value s) z in omega arith
  rises n (suc k) = let z : n + suc k ≡ suc (n + k) = omega arith in let e = ap (value s) z in let h = rises n k in omega arith

  -- number_of
  pub empty_none : length s ≡ 0 → number_of s ≡ None
  unfolding number_of pick
  empty_none e = simp (eq-eqb _ _ e)

  -- a byte that shows no digit
  pub other-none : (n : ℕ) → n < length s → 9 < digit_of (get_or s n 0) → number_of s ≡ None
  unfolding number_of pick digits
  other-none n h k =
      let here : digits s (suc n) ≡ false = false-and (digits s n) _ (le-ltb (digit_of (get_or s n 0)) 10 k) in
      let z : suc n + (length s - suc n) ≡ length s = omega arith in
      let bad : digits s (length s) ≡ false = sym (ap (digits s) z) ∙ spoiled (suc n) (length s - suc n) here in
      simp (ne_eqb (length s) 0 (λ e. absurd (omega arith)), bad)

  -- a value that 32 bits do not hold
  pub large_none : (n : ℕ) → n < length s → 4294967295 < value s (n + 1) → number_of s ≡ None
  unfolding number_of pick
  large_none n h k =
      let z : n + 1 + (length s - (n + 1)) ≡ length s = omega arith in
      let r : value s (n + 1) ≤ value s (length s) = subst (λ (m : ℕ). value s (n + 1) ≤ value s m) z (rises (n + 1) (length s - (n + 1))) in
      let w : 4294967296 ≤ value s (length s) = omega arith in
      simp (ne_eqb (length s) 0 (λ e. absurd (omega arith)), le-ltb _ _ w)
      (both (λ (x : Option ℕ). x ≡ None) (digits s (length s)) None None (λ e. refl) (λ e. refl))

  pub spelled : (n v : ℕ) → n ≡ length s → 0 < length s → v ≡ value s n → digits s n ≡ true → v < 4294967296 → number_of s ≡ Some v
  unfolding number_of pick
  spelled n v z h q e k = simp (ne_eqb (length s) 0 (λ e. absurd (omega arith)), ← z, e, ← q, lt-ltb v 4294967296 k)
