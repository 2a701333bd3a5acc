-- The laws of a seam's points. Assumes nothing.
use Prim.Native.Nat.{ℕ, ◌+◌, ◌-◌, ◌*◌, ◌/◌, ◌≤◌, ◌<◌}
use native.Mathlib.Nat.{mul-le-mul_left, div-le_of_le-mul, mul_comm}
use native.Mathlib.Omega.{arith}
use mathlib.Core.Path.{◌≡◌, sym, ap, subst, ◌∙◌}
use borrow.Author.Tests.{lt-ltb, le-ltb}
use Rattle.fields.proofs.FieldLaws.{pick_yes, pick_no}
use Rattle.between.specs.inner.Seam.{apart, longer, count_of, step_of, on_the_way}

module _ (a b : ℕ) where
  pub apart_up : a < b → b - a ≡ apart a b
  unfolding apart
  apart_up h = sym (pick_yes _ _ (lt-ltb a b h))

  pub apart-down : b ≤ a → a - b ≡ apart a b
  unfolding apart
  apart-down h = sym (pick_no _ _ (le-ltb a b h))

  longer_up : a < b → longer a b ≡ b
  unfolding longer
  longer_up h = pick_yes _ _ (lt-ltb a b h)

  longer-down : b ≤ a → longer a b ≡ a
  unfolding longer
  longer-down h = pick_no _ _ (le-ltb a b h)

  -- count_of
  many : (n : ℕ) → longer a b ≡ n → 511 ≤ n → 512 ≡ count_of a b
  unfolding count_of
  many n e h = sym (pick_no _ _ (le-ltb (longer a b) 511 (omega (arith, e, h))))

  few : (n : ℕ) → longer a b ≡ n → n < 511 → n + 1 ≡ count_of a b
  unfolding count_of
  few n e h = sym (pick_yes _ _ (lt-ltb (longer a b) 511 (omega (arith, e, h))) ∙ ap (λ (m : ℕ). m + 1) e)

  pub many-down : a < b → 511 ≤ b → 512 ≡ count_of a b
  many-down h k = many b (longer_up h) k

  pub few-down : a < b → b < 511 → b + 1 ≡ count_of a b
  few-down h k = few b (longer_up h) k

  pub many_across : b ≤ a → 511 ≤ a → 512 ≡ count_of a b
  many_across h k = many a (longer-down h) k

  pub few_across : b ≤ a → a < 511 → a + 1 ≡ count_of a b
  few_across h k = few a (longer-down h) k

module _ (far k n : ℕ) where
  pub step_none : n < 2 → 0 ≡ step_of far k n
  unfolding step_of
  step_none h = sym (pick_yes _ _ (lt-ltb n 2 h))

  pub step_some : (p : ℕ) → p ≡ far * k → 2 ≤ n → p / (n - 1) ≡ step_of far k n
  unfolding step_of
  step_some p e h = ap (λ (m : ℕ). m / (n - 1)) e ∙ sym (pick_no _ _ (le-ltb n 2 h))

  -- a point of the seam lies no further than its end
  within : 2 ≤ n → k < n → far * k / (n - 1) ≤ far
  within h q =
      let r : k ≤ n - 1 = omega arith in
      let le : far * k ≤ far * (n - 1) = mul-le-mul_left far r in
      div-le_of_le-mul (n - 1) (subst (λ (m : ℕ). far * k ≤ m) (mul_comm far (n - 1)) le)

  pub step_end : (p : ℕ) → p ≡ far * k → 2 ≤ n → k < n → far ≤ p / (n - 1) → far ≡ step_of far k n
  step_end p e h q l =
      let s = step_some p e h in
      let w = within h q in
      let z : p / (n - 1) ≡ far * k / (n - 1) = ap (λ (m : ℕ). m / (n - 1)) e in
      (let y : far ≡ p / (n - 1) = omega (arith, l, w, z) in y) ∙ s

module _ (a b k n s : ℕ) (e : s ≡ step_of (apart a b) k n) where
  pub way_up : a < b → a + s ≡ on_the_way a b k n
  unfolding on_the_way
  way_up h = ap (λ (m : ℕ). a + m) e ∙ sym (pick_yes _ _ (lt-ltb a b h))

  pub way_down : b ≤ a → a - s ≡ on_the_way a b k n
  unfolding on_the_way
  way_down h = ap (λ (m : ℕ). a - m) e ∙ sym (pick_no _ _ (le-ltb a b h))
