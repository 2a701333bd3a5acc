-- The laws of a run: how many lead, up to the first that does not. Assumes nothing.
--   leading-is       what is true of all below it, and of it false, is it
--   leading-joined   a run over a stretch and what is behind it
--   leading-every    all of a number lead exactly where the run is no shorter
use Prim.Native.Nat.{ℕ, zero, suc, ◌+◌, ◌-◌, ◌≤◌, ◌<◌}
use native.Mathlib.Decide.{dec_lt}
use native.Mathlib.Omega.{arith}
use mathlib.Core.Path.{◌≡◌, sym, ap, ◌∙◌}
use mathlib.Core.Bool.{Bool, true, false}
use lib.Dec.{ltb, leb}
use Rattle.std.specs.Prelude.{min}
use borrow.Author.Tests.{lt-ltb, le-ltb, le-leb, lt-leb, ltb-true, ltb-false}
use Rattle.fields.specs.Choice.{pick}
use Rattle.fields.proofs.FieldLaws.{both, pick_yes, pick_no}
use Rattle.linking.specs.inner.Links.{every}
use Rattle.linking.proofs.LinkLaws.{every-all, every-not}
use Rattle.joining.specs.inner.Lies.{leading}

pub leading_low : (f : ℕ → Bool) (n : ℕ) → leading f n ≤ n
unfolding leading
leading_low f zero = omega arith
leading_low f (suc n) = both (λ (m : ℕ). m ≤ suc n) _ _ _ (λ e. omega (arith, leading_low (λ i. f (suc i)) n)) (λ e. omega arith)

pub leading_at : (f : ℕ → Bool) (n j : ℕ) → j < leading f n → f j ≡ true
unfolding leading
leading_at f zero j h = absurd (omega arith)
leading_at f (suc n) zero l =
    both (λ (m : ℕ). 0 < m → f 0 ≡ true) (f 0) (suc (leading (λ i. f (suc i)) n)) 0 (λ e h. e) (λ e h. absurd (omega arith)) l
leading_at f (suc n) (suc j) l =
    both (λ (m : ℕ). suc j < m → f (suc j) ≡ true) (f 0) (suc (leading (λ i. f (suc i)) n)) 0
    (λ e h. leading_at (λ i. f (suc i)) n j (omega arith)) (λ e h. absurd (omega arith)) l

pub leading_stops : (f : ℕ → Bool) (n : ℕ) → leading f n < n → f (leading f n) ≡ false
unfolding leading
leading_stops f zero h = absurd (omega arith)
leading_stops f (suc n) l =
    both (λ (m : ℕ). m < suc n → f m ≡ false) (f 0) (suc (leading (λ i. f (suc i)) n)) 0
    (λ e h. leading_stops (λ i. f (suc i)) n (omega arith)) (λ e h. e) l

pub leading-is : (f : ℕ → Bool) (n k : ℕ) → k ≤ n → ((j : ℕ) → j < k → f j ≡ true) → (k < n → f k ≡ false) → k ≡ leading f n
unfolding leading
leading-is f zero k h a s = omega arith
leading-is f (suc n) zero h a s = sym (pick_no _ _ (s (omega arith)))
leading-is f (suc n) (suc k) h a s =
    ap suc (leading-is (λ i. f (suc i)) n k (omega arith) (λ j l. a (suc j) (omega arith)) (λ l. s (omega arith)))
    ∙ sym (pick_yes _ _ (a 0 (omega arith)))

pub leading-same : (f g : ℕ → Bool) (n : ℕ) → ((j : ℕ) → j < n → f j ≡ g j) → leading f n ≡ leading g n
leading-same f g n h =
    let l = leading_low f n in
    leading-is g n (leading f n) l (λ j k. sym (h j (omega arith)) ∙ leading_at f n j k) (λ k. sym (h (leading f n) k) ∙ leading_stops f n k)

pub leading-none : (f : ℕ → Bool) (n : ℕ) → f 0 ≡ false → 0 ≡ leading f n
leading-none f n h = leading-is f n 0 (omega arith) (λ j k. absurd (omega arith)) (λ k. h)

-- f is g on a stretch of l, and h behind it
module _ (f g h : ℕ → Bool) (l n : ℕ) (near : (i : ℕ) → i < l → f i ≡ g i) (far : (i : ℕ) → f (l + i) ≡ h i) where
  behind-at : (b j : ℕ) → l ≤ leading g n → b ≤ leading h n → j < l + b → f j ≡ true
  behind-at b j p q k =
      elim (dec_lt j l) [
        | yes a ↦ near j a ∙ leading_at g n j (omega arith)
        | no a ↦ let e : j ≡ l + (j - l) = omega (arith, a) in
            ap f e ∙ far (j - l) ∙ leading_at h n (j - l) (omega (arith, a))
      ]

  pub leading-joined : pick (ltb (leading g n) l) (leading g n) (min (l + leading h n) n) ≡ leading f n
  leading-joined =
      let a = leading_low g n in
      both (λ (m : ℕ). m ≡ leading f n) _ _ _
      (λ e. let k = ltb-true (leading g n) l e in
      leading-is f n (leading g n) a (λ j q. near j (omega arith) ∙ leading_at g n j q)
      (λ q. near (leading g n) k ∙ leading_stops g n q))
      (λ e. let k = ltb-false (leading g n) l e in
      leading-is f n (min (l + leading h n) n) (omega arith) (λ j p. behind-at (leading h n) j k (omega arith) (omega arith))
      (λ p. let z : min (l + leading h n) n ≡ l + leading h n = omega arith in
      ap f z ∙ far (leading h n) ∙ leading_stops h n (omega arith)))

pub leading-every : (f : ℕ → Bool) (s n : ℕ) → s ≤ n → leb s (leading f n) ≡ every f s
leading-every f s n h =
    elim (dec_lt (leading f n) s) [
      | yes a ↦ lt-leb s (leading f n) a ∙ sym (every-not f s (leading f n) a (leading_stops f n (omega arith)))
      | no a ↦ le-leb s (leading f n) (omega (arith, a)) ∙ sym (every-all f s (λ j k. leading_at f n j (omega (arith, a))))
    ]

-- the run from a place of the file on
pub filed-none : (end from n : ℕ) → end ≤ from → 0 ≡ leading (λ i. ltb (from + i) end) n
filed-none end from n h = leading-none (λ i. ltb (from + i) end) n (le-ltb (from + 0) end (omega arith))

pub filed-some : (end from n : ℕ) → from < end → min (end - from) n ≡ leading (λ i. ltb (from + i) end) n
filed-some end from n h =
    leading-is (λ i. ltb (from + i) end) n (min (end - from) n) (omega arith) (λ j l. lt-ltb (from + j) end (omega arith))
    (λ l. le-ltb (from + min (end - from) n) end (omega arith))
