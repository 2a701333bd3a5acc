-- Where inputs lie. Assumes nothing.
use Prim.Native.Nat.{ℕ, ◌+◌, ◌*◌, ◌-◌, ◌^◌, ◌≤◌, ◌<◌}
use native.Mathlib.Omega.{arith}
use mathlib.Core.Path.{◌≡◌, sym, ap, ◌∙◌}
use borrow.Author.Tests.{lt-ltb, le-ltb}
use Rattle.fields.proofs.FieldLaws.{pick_yes, pick_no}
use Rattle.pictures.specs.Signed.{plus, minus, signed}
use Rattle.corners.specs.inner.Place.{raised}

-- raised: the number v of so many bytes, half of 256 ^ bytes being known
module _ (bytes v half : ℕ) (e : 2 * half ≡ 256 ^ bytes) (n : ℕ) (q : n ≡ v) where
  signed-plus : n < half → signed bytes v ≡ plus v
  unfolding signed
  signed-plus h = pick_yes _ _ (lt-ltb (2 * v) (256 ^ bytes) (omega arith))

  signed-minus : half ≤ n → signed bytes v ≡ minus (256 ^ bytes - v)
  unfolding signed
  signed-minus h = pick_no _ _ (le-ltb (2 * v) (256 ^ bytes) (omega arith))

  pub right-raised : n < half → 2147483648 + n ≡ raised (signed bytes v)
  right-raised h = sym (ap raised (signed-plus h) ∙ ap (λ k. 2147483648 + k) (sym q))

  pub left-raised : half ≤ n → n < 2 * half → (r : ℕ) → r + 2 * half ≡ 2147483648 + n → r ≡ raised (signed bytes v)
  left-raised h l r z = let w : r ≡ 2147483648 - (256 ^ bytes - v) = omega arith in w ∙ sym (ap raised (signed-minus h))
