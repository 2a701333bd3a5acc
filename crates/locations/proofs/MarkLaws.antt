-- The marks of extents: of one index, and of extents one after the other. Assumes nothing.
use Prim.Native.Nat.{ℕ, ◌+◌, ◌*◌, ◌<◌, ◌≤◌}
use native.Mathlib.Numerals.{add-one}
use native.Mathlib.Omega.{arith}
use mathlib.Core.Path.{◌≡◌, refl, sym, ap, ◌∙◌}
use mathlib.Core.List.{List, [], ◌∷◌, ◌++◌, map-append}
use lib.ListN.{length, set, length-map}
use lib.Seq.{sets}
use lib.Dec.{eqb}
use borrow.Author.Tests.{le-leb, lt-leb, eq-eqb, ne_eqb}
use Rattle.fields.specs.Field.{be_at}
use Rattle.fields.proofs.FieldLaws.{pick_yes, pick_no}
use Rattle.contents.specs.Iloc.{Extent, index_of}
use Rattle.records.specs.inner.Named.{mark_of}
use Rattle.records.proofs.NamedLaws.{marks_of}
use Rattle.records.proofs.SetsLaws.{sets_append}
use Rattle.locations.specs.inner.Parts.{extent_at, extents_at, marked_at}
use Rattle.locations.proofs.EntryLaws.{extents-count, extents_next}

-- mark_of: a field of no bytes, and one that has some
pub mark_absent : (w i : ℕ) → w ≡ 0 → 258 ≡ mark_of (index_of w i)
mark_absent w i e = sym (ap (λ (k : ℕ). mark_of k) (pick_yes 1 i (eq-eqb w 0 e)) ∙ ap (λ (k : ℕ). 257 + k) (pick_yes _ _ refl))

module _ (w i : ℕ) (some : w ≡ 0 → ⊥) where
  mark_written : mark_of (index_of w i) ≡ mark_of i
  mark_written = ap (λ (k : ℕ). mark_of k) (pick_no 1 i (ne_eqb w 0 some))

  pub mark_past : 65535 < i → 65793 ≡ mark_of (index_of w i)
  mark_past h = sym (mark_written ∙ ap (λ (k : ℕ). 257 + k) (pick_no i 65536 (lt-leb i 65535 h)))

  pub mark_near : i ≤ 65535 → i + 257 ≡ mark_of (index_of w i)
  mark_near h = let e : i + 257 ≡ 257 + i = omega arith in e ∙ sym (mark_written ∙ ap (λ (k : ℕ). 257 + k) (pick_yes i 65536 (le-leb i 65535 h)))

-- no mark among the rows, and one more
pub marks_begun : (i o l : ℕ) (s : List ℕ) (at used : ℕ) (v : List ℕ) → v ≡ sets v (2304 + used) (marks_of (extents_at i o l s at 0))
unfolding extents_at
marks_begun i o l s at used v = refl

pub marks_stored : (i o l : ℕ) (s : List ℕ) (at used j each x : ℕ) (v u y : List ℕ)
    → u ≡ sets v (2304 + used) (marks_of (extents_at i o l s at j))
    → each ≡ i + o + l
    → x ≡ mark_of (index_of i (be_at s (at + j * each) i))
    → y ≡ set u (2304 + used + j) x
    → y ≡ sets v (2304 + used) (marks_of (extents_at i o l s at (j + 1)))
marks_stored i o l s at used j each x v u y eu ee ex ey =
    let ws = marks_of (extents_at i o l s at j) in
    let e = extent_at i o l s (at + j * (i + o + l)) in
    let n : j ≡ length ws = sym (length-map (extents_at i o l s at j) (λ (e : Extent). mark_of e.index) ∙ extents-count i o l s at j) in
    let q : 2304 + used + j ≡ 2304 + used + length ws = ap (λ (k : ℕ). 2304 + used + k) n in
    let next : marks_of (extents_at i o l s at (j + 1)) ≡ ws ++ (mark_of e.index ∷ []) =
    rw (add-one j) (ap marks_of (extents_next i o l s at j) ∙ map-append (λ (e : Extent). mark_of e.index) (extents_at i o l s at j) (e ∷ []))
    in
    ey
    ∙ rw (eu, q, ex, ee)
    (sym (ap (sets v (2304 + used)) next ∙ sets_append ws (mark_of e.index ∷ []) v (2304 + used)))

-- MarkedAre: the marks of an entry of method 2, and none of another
module _ (used m : ℕ) (es : List Extent) (v y : List ℕ) where
  pub marked-made : m ≡ 2 → y ≡ sets v (2304 + used) (marks_of es) → y ≡ marked_at used (eqb m 2) es v
  marked-made e q = q ∙ ap (sets v (2304 + used)) (sym (pick_yes (marks_of es) [] (eq-eqb m 2 e)))

  pub marked_other : (m ≡ 2 → ⊥) → y ≡ v → y ≡ marked_at used (eqb m 2) es v
  marked_other n q = q ∙ ap (sets v (2304 + used)) (sym (pick_no (marks_of es) [] (ne_eqb m 2 n)))
