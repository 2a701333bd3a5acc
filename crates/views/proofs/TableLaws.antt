-- What code that reads a table that is a file's is told by the words that it reads. Assumes nothing.
use Prim.Native.Nat.{ℕ, ◌+◌, ◌*◌, ◌-◌, ◌<◌, ◌≤◌}
use native.Mathlib.Omega.{arith}
use mathlib.Core.Path.{◌≡◌, refl, sym, ap, ◌∙◌}
use mathlib.Core.List.{List, []}
use mathlib.Core.Bool.{Bool}
use lib.ListN.{length, get_or, take, drop, length-drop, drop_of_length-le}
use lib.Seq.{take_all}
use borrow.Author.Tests.{eq-eqb, ne_eqb}
use Rattle.fields.specs.Field.{be_at}
use Rattle.fields.proofs.FieldLaws.{pick_yes, pick_no}
use Rattle.boxes.specs.Box.{head_of, kind_of, body_of}
use Rattle.boxes.proofs.BoxLaws.{head_least, short_head, long_head}
use Rattle.contents.specs.File.{File}
use Rattle.rules.specs.Joined.{no_extent, associations_of, targets_of, location_of, property_at, item_at, no_association}
use Rattle.rules.specs.Places.{Places, file_offset}
use Rattle.rules.specs.Words.{association_word}
use Rattle.records.specs.inner.Raw.{capped}
use Rattle.views.specs.inner.View.{TableOf, record_word, wide, id_of}

-- property_at
pub property-none : (f : File) (k : ℕ) → k ≡ 0 → property_at f k ≡ []
unfolding property_at
property-none f k e = pick_yes _ _ (eq-eqb k 0 e)

pub property-some : (f : File) (k : ℕ) → (k ≡ 0 → ⊥) → property_at f k ≡ get_or f.properties (k - 1) []
unfolding property_at
property-some f k n = pick_no _ _ (ne_eqb k 0 n)

-- nothing has type 0
pub no_kind : kind_of [] ≡ 0
unfolding be_at
no_kind = refl

module _ {t head : List ℕ} {pl : Places} {f : File} (v : TableOf t head pl f) where
  -- the words of a row, `first` being where its run of words begins, as a reader of the record's word is told
  module _ (r : ℕ) (h : r < length f.items) where
    pub row_small : r < 256
    row_small = omega (arith, v.bounded.few-items)

    pub type-read : (kind : ℕ) → (r < 256 → kind ≡ record_word t r 1) → kind ≡ (item_at f r).type
    type-read kind e = e row_small ∙ v.type r h

    pub test_read : (test : ℕ → Bool) (kind : ℕ) (b : Bool) → (r < 256 → kind ≡ record_word t r 1) → b ≡ test kind → test (item_at f r).type ≡ b
    test_read test kind b e q = sym (q ∙ ap test (type-read kind e))

    module _ (j first : ℕ) (l : j < length (associations_of f (id_of f r))) (e : r < 256 → first ≡ record_word t r 3) where
      pub named-inside : (first < 2048) × (j < 2048)
      named-inside = let q = e row_small in let k = v.named-room r h in (omega arith, omega arith)

      pub named-read : (w : ℕ) → w ≡ get_or t (5136 + (first + j)) 0 → w ≡ association_word (get_or (associations_of f (id_of f r)) j no_association)
      named-read w q = q ∙ ap (λ (a : ℕ). get_or t (5136 + (a + j)) 0) (e row_small) ∙ v.named r j h l

    module _ (j first : ℕ) (l : j < length (targets_of f (id_of f r))) (e : r < 256 → first ≡ record_word t r 5) where
      pub target-inside : (first < 2048) × (j < 2048)
      target-inside = let q = e row_small in let k = v.target_room r h in let m = v.bounded.few-targets in (omega arith, omega arith)

      pub target-read : (w : ℕ) → w ≡ get_or t (7184 + (first + j)) 0 → w ≡ get_or (targets_of f (id_of f r)) j 0
      target-read w q = q ∙ ap (λ (a : ℕ). get_or t (7184 + (a + j)) 0) (e row_small) ∙ v.target r j h l

    module _ (j first : ℕ) (l : j < length (location_of f (id_of f r)).extents) (e : r < 256 → first ≡ record_word t r 7) where
      pub extent-inside : first + j < 512
      extent-inside = let q = e row_small in let k = v.extent-room r h in omega arith

      pub extent-read : (size offset : ℕ) → size ≡ wide t (9232 + 4 * (first + j) + 2) → offset ≡ wide t (9232 + 4 * (first + j))
          → (size ≡ (get_or (location_of f (id_of f r)).extents j no_extent).size)
          × (offset ≡ capped (file_offset pl (location_of f (id_of f r)) (get_or (location_of f (id_of f r)).extents j no_extent)))
      extent-read size offset q z = (
        q ∙ ap (λ (a : ℕ). wide t (9232 + 4 * (a + j) + 2)) (e row_small) ∙ v.extent-size r j h l,
        z ∙ ap (λ (a : ℕ). wide t (9232 + 4 * (a + j))) (e row_small) ∙ v.extent-offset r j h l,
      )

  -- the property with index k
  module _ (k : ℕ) (h : k ≤ length f.properties) where
    pub index-small : k ≤ 256
    index-small = omega (arith, v.bounded.few-properties)

    pub kind-none : k ≡ 0 → 0 ≡ kind_of (property_at f k)
    kind-none e = sym (ap kind_of (property-none f k e) ∙ no_kind)

    pub kind-read : (k ≡ 0 → ⊥) → (w : ℕ) → w ≡ get_or t (4112 + 4 * (k - 1)) 0 → w ≡ kind_of (property_at f k)
    kind-read n w q = q ∙ v.property-kind (k - 1) (omega arith) ∙ ap kind_of (sym (property-some f k n))

    pub part-read : (k ≡ 0 → ⊥) → (at n : ℕ) (r : List ℕ) → at ≡ get_or t (4112 + 4 * (k - 1) + 1) 0 → n ≡ get_or t (4112 + 4 * (k - 1) + 2) 0
        → (at + n ≤ length head → r ≡ take n (drop at head)) → r ≡ property_at f k
    part-read o at n r ea en e =
        let l : k - 1 < length f.properties = omega arith in
        let room = v.property-room (k - 1) l in
        e (omega arith) ∙ rw (ea, en) (v.property-part (k - 1) l) ∙ sym (property-some f k o)

-- body_of
pub body-short : (b : List ℕ) → length b < 8 → [] ≡ body_of b
body-short b h = sym (drop_of_length-le b {i = head_of b} (omega (arith, head_least b)))

module _ (b : List ℕ) (w : ℕ) (e : w ≡ be_at b 0 4) where
  pub body-cut : w ≡ 1 → length b < 16 → [] ≡ body_of b
  body-cut q h = let z = (long_head b (sym e ∙ q)).0 in sym (drop_of_length-le b {i = head_of b} (omega arith))

  pub body-long : w ≡ 1 → take (length b - 16) (drop 16 b) ≡ body_of b
  body-long q = take_all (length b - 16) (drop 16 b) (rw length-drop (omega arith)) ∙ ap (λ (i : ℕ). drop i b) (sym (long_head b (sym e ∙ q)).0)

  pub body-plain : (w ≡ 1 → ⊥) → take (length b - 8) (drop 8 b) ≡ body_of b
  body-plain n = take_all (length b - 8) (drop 8 b) (rw length-drop (omega arith)) ∙ ap (λ (i : ℕ). drop i b) (sym (short_head b (λ z. n (e ∙ z))).0)
