-- What the rows say of the items that extents name, while entries are read: no link is read yet. Assumes nothing.
use Prim.Native.Nat.{ℕ, zero, suc, ◌+◌, ◌<◌, ◌≤◌}
use native.Mathlib.Nat.{not-suc-le-zero, le_of_suc-le-suc}
use native.Mathlib.Omega.{arith}
use mathlib.Core.Path.{◌≡◌, refl, sym, ap, ◌∙◌, subst}
use mathlib.Core.List.{List, [], ◌∷◌, ◌++◌, map}
use mathlib.Core.Bool.{Bool, true, false}
use lib.ListN.{length, get_or, length-map}
use lib.Seq.{sets}
use lib.Dec.{eqb}
use borrow.Author.Tests.{eqb-true, eqb-false, eq-eqb, ne_eqb}
use Rattle.fields.specs.Choice.{pick}
use Rattle.fields.specs.Lists.{member}
use Rattle.fields.proofs.FieldLaws.{pick_yes, pick_no}
use Rattle.contents.specs.Iinf.{Item}
use Rattle.contents.specs.Iloc.{Extent, Location, located_in, extents_in}
use Rattle.rules.specs.Joined.{no_extent, located_at}
use Rattle.rules.specs.Words.{first_in, located_groups}
use Rattle.records.specs.inner.Raw.{place_words}
use Rattle.records.specs.inner.Named.{mark_of, extent_mark, extents_begin, NamedRows}
use Rattle.records.proofs.SaidLaws.{located-last, located-other, place-last, place_other}
use Rattle.records.proofs.SetsLaws.{sets_below, sets_in}

-- extents_begin: what it is in the words of a place; the extents of an ID are some of all
begin_word : (ls : List Location) (x : ℕ) → 0 < length (located_at ls x).extents → get_or (place_words ls x) 0 0 ≡ extents_begin ls x
unfolding place_words
begin_word ls x h = pick_no _ _ (ne_eqb (length (located_at ls x).extents) 0 (λ q. omega arith))

extents-from : (ls : List Location) (x n : ℕ) → first_in x n (located_groups ls) + length (located_at ls x).extents ≤ n + extents_in ls
unfolding first_in located_at extents_in
extents-from [] x n = omega arith
extents-from (l ∷ ls) x n = by (eqb l.id x) refl (extents-from ls x (n + length l.extents))
  where
    by : (t : Bool) → eqb l.id x ≡ t
        → first_in x (n + length l.extents) (located_groups ls) + length (located_at ls x).extents ≤ n + length l.extents + extents_in ls
        → first_in x n (located_groups (l ∷ ls)) + length (located_at (l ∷ ls) x).extents ≤ n + extents_in (l ∷ ls)
    by true e h = rw (pick_yes n (first_in x (n + length l.extents) (located_groups ls)) e, pick_yes l (located_at ls x) e) (omega arith)
    by false e h = rw (pick_no n (first_in x (n + length l.extents) (located_groups ls)) e, pick_no l (located_at ls x) e) (omega arith)

pub extents-room : (ls : List Location) (x : ℕ) → extents_begin ls x + length (located_at ls x).extents ≤ extents_in ls
extents-room ls x = omega (arith, extents-from ls x 0)

-- one more entry, of an ID that is new: its extents begin behind all, those of every other ID where they did
pub extents_begin_last : (ls : List Location) (l : Location) → member l.id (located_in ls) ≡ false → 0 < length l.extents →
    extents_begin (ls ++ (l ∷ [])) l.id ≡ extents_in ls
extents_begin_last ls l e h =
    sym (begin_word (ls ++ (l ∷ [])) l.id (rw (located-last ls l e) h))
    ∙ ap (λ (w : List ℕ). get_or w 0 0) (place-last ls l e)
    ∙ pick_no _ _ (ne_eqb (length l.extents) 0 (λ q. omega arith))

pub extents_begin_other : (ls : List Location) (l : Location) (x : ℕ) → (x ≡ l.id → ⊥) → 0 < length (located_at ls x).extents →
    extents_begin (ls ++ (l ∷ [])) x ≡ extents_begin ls x
extents_begin_other ls l x n h =
    sym (begin_word (ls ++ (l ∷ [])) x (rw (located-other ls l x n) h))
    ∙ ap (λ (w : List ℕ). get_or w 0 0) (place_other ls l x n)
    ∙ begin_word ls x h

-- extent_mark
pub mark_unlinked : (is : List Item) (id : ℕ) (e : Extent) → extent_mark is [] id e ≡ mark_of e.index
unfolding extent_mark
mark_unlinked is id e = pick_no _ _ refl

-- the marks of extents, one for each
abbrev pub marks_of : List Extent → List ℕ
marks_of es = map (λ (e : Extent). mark_of e.index) es

pub marks_at : (es : List Extent) (j : ℕ) → j < length es → get_or (marks_of es) j 0 ≡ mark_of (get_or es j no_extent).index
marks_at [] j h = absurd (not-suc-le-zero h)
marks_at (e ∷ es) zero h = refl
marks_at (e ∷ es) (suc j) h = marks_at es j (le_of_suc-le-suc h)

-- NamedRows: no entry yet, and one more, whose marks are stored behind those of all before it
pub named-rows-none : (is : List Item) (v : List ℕ) → NamedRows is [] [] v
unfolding located_at
named-rows-none is v id m j h = absurd (not-suc-le-zero h)

module _ (is : List Item) (ls : List Location) (l : Location) (v y : List ℕ) (new : member l.id (located_in ls) ≡ false)
    (room : 2304 + extents_in ls + length l.extents ≤ length v)
    (stored : y ≡ sets v (2304 + extents_in ls) (pick (eqb l.method 2) (marks_of l.extents) [])) where
  abbrev more : List Location
  more = ls ++ (l ∷ [])

  abbrev Named : ℕ → Type 0
  Named x = (located_at more x).method ≡ 2 → (j : ℕ) → j < length (located_at more x).extents →
      get_or y (2304 + extents_begin more x + j) 0 ≡ extent_mark is [] x (get_or (located_at more x).extents j no_extent)

  named-rows-last : Named l.id
  named-rows-last =
      rw (located-last ls l new)
      (λ m j h.
      let made : y ≡ sets v (2304 + extents_in ls) (marks_of l.extents) = stored ∙ ap (sets v (2304 + extents_in ls)) (pick_yes _ _ (eq-eqb l.method 2 m)) in
      rw (extents_begin_last ls l new (omega arith), made, mark_unlinked is l.id)
      (sets_in (marks_of l.extents) v (2304 + extents_in ls) j (rw length-map h) (rw length-map room) ∙ marks_at l.extents j h))

  named-rows-other : (x : ℕ) → (x ≡ l.id → ⊥) → NamedRows is ls [] v → Named x
  named-rows-other x n before =
      rw (located-other ls l x n)
      (λ m j h.
      rw (extents_begin_other ls l x n (omega arith), stored)
      (sets_below (pick (eqb l.method 2) (marks_of l.extents) []) v (2304 + extents_in ls) (2304 + extents_begin ls x + j) (omega (arith, extents-room ls x))
      ∙ before x m j h))

  pub named-rows-more : NamedRows is ls [] v → NamedRows is more [] y
  named-rows-more before x = by (eqb x l.id) refl
    where
      by : (t : Bool) → eqb x l.id ≡ t → Named x
      by true e = subst Named (sym (eqb-true x l.id e)) named-rows-last
      by false e = named-rows-other x (eqb-false x l.id e) before
