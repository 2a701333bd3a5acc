-- How far a coordinate lies from where a side begins, at a signed offset of 2 or 4 bytes. Assumes nothing.
--   FarBy o v side d    where d is below the side, v lies on it, at d
use Rattle.std.proofs.Common.{◌≡◌, ℕ, ◌+◌, ◌-◌, ◌*◌, ◌^◌, ◌<◌, ◌≤◌, ltb, ◌⊎◌, List, sym, refl, ◌∙◌, inl, inr, arith, w32, w64, Fits, le-ltb, lt-ltb, le-leb}
use borrow.Author.Tests.{lt-leb}
use Rattle.fields.specs.Field.{be_at}
use Rattle.fields.proofs.FieldLaws.{pick_yes, pick_no, Bytes, be_below}
use Rattle.pictures.specs.Signed.{Signed, plus, minus, signed}
use Rattle.pictures.specs.Trace.{on_side, along_side}

abbrev pub FarBy : Signed → ℕ → ℕ → ℕ → Type 0
FarBy o v side d = (on_side o v side ≡ ltb d side) × (d < side → along_side o v ≡ d)

-- signed, with half of 256 ^ bytes
module _ (bytes o half : ℕ) (e : 2 * half ≡ 256 ^ bytes) where
  signed-plus : o < half → signed bytes o ≡ plus o
  unfolding signed
  signed-plus h = pick_yes _ _ (lt-ltb (2 * o) (256 ^ bytes) (omega arith))

  signed-minus : half ≤ o → signed bytes o ≡ minus (2 * half - o)
  unfolding signed
  signed-minus h = pick_no _ _ (le-ltb (2 * o) (256 ^ bytes) (omega arith)) ∙ rw e

  module _ (v side : ℕ) where
    pub far_before : o < half → v < o → side ≤ 4294967296 → FarBy (signed bytes o) v side 4294967296
    far_before h l m = rw (signed-plus h) (rw (lt-leb o v l) (sym (le-ltb 4294967296 side m)), λ d. absurd (omega arith))

    pub far_right : o < half → o ≤ v → FarBy (signed bytes o) v side (v - o)
    far_right h l = rw (signed-plus h) (rw (le-leb o v l) refl, λ d. refl)

    pub far_left : half ≤ o → FarBy (signed bytes o) v side (v + (2 * half - o))
    far_left h = rw (signed-minus h) (refl, λ d. refl)

-- a number of 32 bits as a wider one, and what is below it
pub word_wide : (x : ℕ) → Fits w32 x → Fits w64 x
word_wide x h = omega arith

pub below_word : (x y : ℕ) → Fits w32 y → x < y → Fits w32 x
below_word x y h l = omega arith

-- FarBy of a number that is read as o, and its side as a word of the table
pub far_read : (bytes half o q v side d : ℕ) → o ≡ q → 2 * half ≡ 256 ^ bytes → Fits w32 side →
    ((bytes side : ℕ) → 2 * half ≡ 256 ^ bytes → side ≤ 4294967296 → FarBy (signed bytes o) v side d) →
    FarBy (signed bytes q) v side d
far_read bytes half o q v side d e eh w f = rw (← e) (f bytes side eh (omega arith))

half-most : (bytes half : ℕ) → (bytes ≡ 2) ⊎ (bytes ≡ 4) → 2 * half ≡ 256 ^ bytes → half ≤ 2147483648
half-most bytes half (inl h) e = let w : 256 ^ bytes ≡ 65536 = rw h in omega arith
half-most bytes half (inr h) e = let w : 256 ^ bytes ≡ 4294967296 = rw h in omega arith

-- a number that the bytes b spell
pub number-below : (b : List ℕ) (at bytes half : ℕ) {o : ℕ} → Bytes b → (bytes ≡ 2) ⊎ (bytes ≡ 4) → 2 * half ≡ 256 ^ bytes →
    o ≡ be_at b at bytes → (o < 2 * half) × (half ≤ 2147483648)
number-below b at bytes half given two e q = (omega (arith, be_below b at bytes given), half-most bytes half two e)
