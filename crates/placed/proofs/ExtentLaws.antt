-- A test of each extent of an item, one after the other. Assumes nothing.
use Prim.Native.Nat.{ℕ, zero, suc, ◌+◌, ◌≤◌, ◌<◌}
use native.Mathlib.Nat.{not-suc-le-zero, le_of_suc-le-suc}
use native.Mathlib.Numerals.{add-one}
use native.Mathlib.Omega.{arith}
use mathlib.Core.Path.{◌≡◌, refl, sym, ap, ◌∙◌}
use mathlib.Core.List.{List, [], ◌∷◌}
use mathlib.Core.Bool.{Bool, true, false, ◌&&◌, not}
use lib.ListN.{length, get_or, drop, drop_of_length-le}
use lib.Dec.{leb, eqb}
use borrow.Author.Tests.{leb-false, le-leb, lt-leb, eq-eqb, ne_eqb}
use Rattle.fields.proofs.FieldLaws.{both}
use Rattle.fields.proofs.TestLaws.{both-and, and_none}
use Rattle.contents.specs.Iloc.{Extent, Location}
use Rattle.contents.specs.File.{File}
use Rattle.rules.specs.Bytes.{all_extents}
use Rattle.rules.specs.Joined.{no_extent, location_of}
use Rattle.rules.specs.Places.{Places, file_offset}
use Rattle.records.specs.inner.Raw.{capped}
use Rattle.views.specs.inner.View.{TableOf, record_word, id_of}
use Rattle.views.proofs.TableLaws.{row_small}

-- all_extents: the test of all is that of those from j on, if those before j pass
module _ (t : Extent → Bool) where
  extents-from : (es : List Extent) (j : ℕ) → j < length es → all_extents t (drop j es) ≡ (t (get_or es j no_extent) && all_extents t (drop (suc j) es))
  unfolding all_extents
  extents-from [] j h = absurd (not-suc-le-zero h)
  extents-from (e ∷ es) zero h = refl
  extents-from (e ∷ es) (suc j) h = extents-from es j (le_of_suc-le-suc h)

  module _ (es : List Extent) (j : ℕ) (before : all_extents t es ≡ all_extents t (drop j es)) where
    pub extents_fail : j < length es → t (get_or es j no_extent) ≡ false → false ≡ all_extents t es
    extents_fail h e = sym (before ∙ extents-from es j h ∙ rw e refl)

    pub extents-on : j < length es → t (get_or es j no_extent) ≡ true → all_extents t es ≡ all_extents t (drop (j + 1) es)
    extents-on h e = rw add-one (before ∙ extents-from es j h ∙ rw e refl)

    pub extents_pass : length es ≤ j → true ≡ all_extents t es
    unfolding all_extents
    extents_pass h = sym (before ∙ ap (all_extents t) (drop_of_length-le es {i = j} h))

-- two tests in one pass
and_pairs : (a b c d : Bool) → ((a && b) && (c && d)) ≡ ((a && c) && (b && d))
and_pairs true true c d = refl
and_pairs true false true d = refl
and_pairs true false false d = refl
and_pairs false b c d = refl

pub extents-both : (t u : Extent → Bool) (es : List Extent) → all_extents (λ (e : Extent). t e && u e) es ≡ (all_extents t es && all_extents u es)
unfolding all_extents
extents-both t u [] = refl
extents-both t u (e ∷ es) = ap (λ (b : Bool). (t e && u e) && b) (extents-both t u es) ∙ and_pairs (t e) (u e) (all_extents t es) (all_extents u es)

-- the table has as many extents for an item as the file
pub extents-count : {t head : List ℕ} {pl : Places} {f : File} → TableOf t head pl f → (r n : ℕ) →
    r < length f.items → (r < 256 → n ≡ record_word t r 8) → n ≡ length (location_of f (id_of f r)).extents
extents-count v r n h e = e (row_small v r h) ∙ v.extent-count r h

-- good_lengths
pub some-length : (n m : ℕ) → n ≡ m → (n ≡ 0 → ⊥) → not (eqb m 0) ≡ true
some-length n m e h = rw (← e, ne_eqb n 0 h) refl

pub no_length : (n m : ℕ) → n ≡ m → n ≡ 0 → not (eqb m 0) ≡ false
no_length n m e h = rw (← e, eq-eqb n 0 h) refl

-- a length, and an end at `end` or before it
abbrev pub ends_by : ℕ → Places → Location → Extent → Bool
ends_by end pl l e = not (eqb e.size 0) && leb (file_offset pl l e + e.size) end

-- capped: an extent of n bytes from x on, as the table has it, against an end
module _ (end x n o m : ℕ) (few : end < 18446744073709551616) (place : o ≡ capped x) (long : m ≡ n) where
  pub ends_empty : m ≡ 0 → (not (eqb n 0) && leb (x + n) end) ≡ false
  ends_empty z = rw (no_length m n long z) refl

  pub ends-past : end < o + m → (not (eqb n 0) && leb (x + n) end) ≡ false
  ends-past h =
      and_none (not (eqb n 0)) _
      (both (λ (p : ℕ). o ≡ p → leb (x + n) end ≡ false) (leb x 18446744073709551615) _ _
      (λ e q. lt-leb (x + n) end (omega arith))
      (λ e q. lt-leb (x + n) end (omega (arith, leb-false x 18446744073709551615 e)))
      place)

  pub ends-before : o + m ≤ end → (m ≡ 0 → ⊥) → (not (eqb n 0) && leb (x + n) end) ≡ true
  ends-before h z =
      both-and (not (eqb n 0)) _ (some-length m n long z)
      (both (λ (p : ℕ). o ≡ p → leb (x + n) end ≡ true) (leb x 18446744073709551615) _ _
      (λ e q. le-leb (x + n) end (omega arith))
      (λ e q. absurd (z (omega arith)))
      place)
