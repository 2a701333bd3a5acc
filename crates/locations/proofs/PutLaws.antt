-- Entries into the table: the words of extents, one entry, and all of them. Assumes nothing.
use Prim.Native.Nat.{ℕ, suc, ◌+◌, ◌-◌, ◌*◌, ◌<◌, ◌≤◌, min}
use native.Mathlib.Nat.{suc-mul, mul-le-mul_right}
use native.Mathlib.Numerals.{add-one, towards_suc}
use native.Mathlib.Decide.{dec_le}
use native.Mathlib.Omega.{arith}
use mathlib.Core.Path.{◌≡◌, refl, sym, ap, ◌∙◌}
use mathlib.Core.List.{List, [], ◌∷◌, ◌++◌}
use mathlib.Core.Bool.{Bool, true, false}
use lib.ListN.{length, get_or, set}
use lib.Seq.{sets}
use lib.Dec.{leb, eqb}
use borrow.Author.Tests.{le-leb, leb-true, eq-eqb, ne_eqb}
use Rattle.fields.specs.Choice.{pick}
use Rattle.fields.specs.Field.{be_at}
use Rattle.fields.proofs.FieldLaws.{pick_yes, pick_no}
use Rattle.contents.specs.Iloc.{Extent, Location}
use Rattle.rules.specs.Joined.{no_extent}
use Rattle.rules.specs.Places.{Places, file_offset}
use Rattle.rules.specs.Words.{join_all, high_low}
use Rattle.records.specs.inner.Raw.{capped, extent_row}
use Rattle.records.proofs.JoinLaws.{join_snoc, join-same, join-length}
use Rattle.records.proofs.SetsLaws.{sets_append}
use Rattle.locations.specs.declared.Widths.{Widths}
use Rattle.locations.specs.declared.Rest.{Rest}
use Rattle.locations.specs.inner.Parts.{each, extent_at, extents_at, extents_by, row_from, start_of, place_row, StoredHere}
use Rattle.locations.proofs.EntryLaws.{extents-count, extents_next}

-- capped
abbrev largest : ℕ
largest = 18446744073709551615

pub capped_small : (x : ℕ) → x ≤ largest → capped x ≡ x
capped_small x h = pick_yes _ _ (le-leb x largest h)

pub capped_large : (x : ℕ) → largest ≤ x → capped x ≡ largest
capped_large x h = go (leb x largest) refl
  where
    go : (t : Bool) → leb x largest ≡ t → capped x ≡ largest
    go true e = let l = leb-true x largest e in pick_yes _ _ e ∙ omega arith
    go false e = pick_no _ _ e

pub capped_least : (x : ℕ) → min x largest ≡ capped x
capped_least x =
    elim (dec_le x largest) [
      | yes l ↦ omega (arith, capped_small x l)
      | no l ↦ let h : largest ≤ x = omega (arith, l) in omega (arith, capped_large x h)
    ]

pub capped_twice : (a b : ℕ) → capped (capped a + b) ≡ capped (a + b)
capped_twice a b =
    elim (dec_le a largest) [
      | yes l ↦ ap (λ (x : ℕ). capped (x + b)) (capped_small a l)
      | no l ↦
          ap (λ (x : ℕ). capped (x + b)) (capped_large a (omega (arith, l))) ∙
          capped_large (largest + b) (omega arith) ∙ sym (capped_large (a + b) (omega (arith, l)))
    ]

-- start_of
pub start_idat : (m b i x : ℕ) → m ≡ 1 → x ≡ capped (i + b) → x ≡ capped (start_of i m b)
start_idat m b i x e q = q ∙ sym (ap (λ (y : ℕ). capped (y + b)) (pick_yes _ _ (eq-eqb m 1 e)))

pub start_file : (m b i : ℕ) → (m ≡ 1 → ⊥) → b ≤ largest → b ≡ capped (start_of i m b)
start_file m b i e h = let z : 0 + b ≡ b = omega arith in sym (ap (λ (y : ℕ). capped (y + b)) (pick_no _ _ (ne_eqb m 1 e)) ∙ rw z (capped_small b h))

-- row_from
pub row-length : (start : ℕ) (e : Extent) → length (row_from start e) ≡ 4
unfolding row_from
row-length start e = refl

-- a start that was capped first gives the same words
pub rows-capped : (start : ℕ) (es : List Extent) → join_all (row_from (capped start)) es ≡ join_all (row_from start) es
unfolding row_from
rows-capped start es =
    join-same (row_from (capped start)) (row_from start) no_extent es
    (λ j h. ap (λ (x : ℕ). high_low x ++ high_low (get_or es j no_extent).size) (capped_twice start (get_or es j no_extent).offset))

-- the words of an extent in the table of a file
pub rows-raw : (pl : Places) (l : Location) (idat : ℕ) → pl.idat ≡ idat → (es : List Extent) →
    join_all (λ (e : Extent). extent_row pl l e) es ≡ join_all (row_from (start_of idat l.method l.base)) es
unfolding row_from extent_row file_offset
rows-raw pl l idat q es =
    join-same (λ (e : Extent). extent_row pl l e) (row_from (start_of idat l.method l.base)) no_extent es
    (λ j h.
    let o = (get_or es j no_extent).offset in
    let e : pick (eqb l.method 1) pl.idat 0 + (l.base + o) ≡ start_of idat l.method l.base + o = rw q (omega arith) in
    ap (λ (x : ℕ). high_low (capped x) ++ high_low (get_or es j no_extent).size) e)

-- no extent in the table, and one more
pub extents_begun : (i o l : ℕ) (s : List ℕ) (at start used : ℕ) (t : List ℕ) →
    t ≡ sets t (9232 + 4 * used) (join_all (row_from start) (extents_at i o l s at 0))
unfolding extents_at join_all
extents_begun i o l s at start used t = refl

pub extents-stored : (i o l : ℕ) (s : List ℕ) (at start used j e x z c : ℕ) (t u v : List ℕ)
    → u ≡ sets t (9232 + 4 * used) (join_all (row_from start) (extents_at i o l s at j))
    → e ≡ i + o + l
    → x ≡ be_at s (at + j * e + i) o
    → z ≡ be_at s (at + j * e + i + o) l
    → c ≡ capped (start + x)
    → v ≡ sets u (9232 + 4 * (used + j)) (high_low c ++ high_low z)
    → v ≡ sets t (9232 + 4 * used) (join_all (row_from start) (extents_at i o l s at (j + 1)))
unfolding row_from
extents-stored i o l s at start used j e x z c t u v eu ee ex ez ec ev =
    let ws = join_all (row_from start) (extents_at i o l s at j) in
    let n : length ws ≡ 4 * j = join-length (row_from start) 4 (row-length start) (extents_at i o l s at j) ∙
    ap (λ (k : ℕ). 4 * k) (extents-count i o l s at j) in
    let q : 9232 + 4 * (used + j) ≡ 9232 + 4 * used + length ws = omega arith in
    let next : join_all (row_from start) (extents_at i o l s at (j + 1)) ≡ ws ++ row_from start (extent_at i o l s (at + j * (i + o + l))) =
    rw (add-one j) (ap (join_all (row_from start)) (extents_next i o l s at j) ∙ join_snoc (row_from start) (extents_at i o l s at j) _)
    in
    ev
    ∙ rw (eu, q, ec, ex, ez, ee)
    (sym (ap (λ (r : List ℕ). sets t (9232 + 4 * used) r) next ∙
    sets_append ws (row_from start (extent_at i o l s (at + j * (i + o + l)))) t (9232 + 4 * used)))

-- where one of so many extents ends, and what bounds their sizes
pub one_fits : (at k j e n : ℕ) → at + k * e ≤ n → j < k → at + j * e + e ≤ n
one_fits at k j e n h l = let m = suc-mul j e in let o : suc j * e ≤ k * e = mul-le-mul_right e l in omega arith

pub sizes_most : (k e : ℕ) → k ≤ 512 → e ≤ 24 → k * e ≤ 12288
sizes_most k e h l = let m : k * e ≤ 512 * e = mul-le-mul_right e h in omega arith

-- four and five stores side by side
pub four_stored : (t : List ℕ) (a b p q r x : ℕ) → a ≡ b → set (set (set (set t a p) (a + 1) q) (a + 2) r) (a + 3) x ≡ sets t b (p ∷ q ∷ r ∷ x ∷ [])
four_stored t a b p q r x e = rw e (simp towards_suc)

pub five-stored : (t : List ℕ) (a b v w k m d : ℕ) → a ≡ b → v ≡ w
    → set (set (set (set (set t (a + 7) v) (a + 7 + 1) k) (a + 7 + 2) m) (a + 7 + 3) d) (a + 7 + 4) 1 ≡ sets t (b + 7) (w ∷ k ∷ m ∷ d ∷ 1 ∷ [])
five-stored t a b v w k m d e f = rw (e, f) (simp towards_suc)

-- StoredHere: extents and place put one after the other
pub stored_here : (w : Widths) (s : List ℕ) (at : ℕ) (t v u : List ℕ) (r : ℕ) (x : Rest) (used idat start : ℕ) →
    at ≤ length s → x.extents * each w ≤ length s - at
    → start ≡ capped (start_of idat x.method x.base)
    → v ≡ sets t (9232 + 4 * used) (join_all (row_from start) (extents_by w s at x.extents))
    → u ≡ sets v (16 + 16 * r + 7) (place_row used x)
    → StoredHere w s at t u r x used idat (at + x.extents * each w) x.extents r
stored_here w s at t v u r x used idat start h l es ev eu =
    record {
      row = refl;
      count = refl;
      ends = refl;
      room = omega arith;
      stored = eu ∙ rw (ev, es, rows-capped (start_of idat x.method x.base) (extents_by w s at x.extents));
    }
