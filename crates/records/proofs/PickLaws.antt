-- What stands in the rows for the extents of items of method 2 (NamedRows), as links are read. Assumes nothing.
use Prim.Native.Nat.{ℕ, ◌+◌, ◌-◌, ◌*◌, ◌<◌, ◌≤◌}
use native.Mathlib.Decide.{dec_le}
use native.Mathlib.Omega.{arith}
use mathlib.Core.Path.{◌≡◌, refl, sym, ap, ◌∙◌, subst}
use mathlib.Core.List.{List, [], ◌∷◌, ◌++◌, map-append}
use mathlib.Core.Bool.{Bool, true, false, ◌&&◌}
use mathlib.Core.Logic.{◌⊎◌, inl, inr, ⊎_elim}
use lib.ListN.{length, get_or}
use lib.Dec.{leb, ltb, eqb}
use borrow.Author.Tests.{eqb-true, eqb-false, lt-ltb, le-ltb, le-leb, lt-leb}
use Rattle.fields.specs.Choice.{pick}
use Rattle.fields.specs.Lists.{member}
use Rattle.fields.proofs.FieldLaws.{pick_yes, pick_no}
use Rattle.fields.proofs.TestLaws.{both-and, and_none}
use Rattle.contents.specs.Iinf.{Item, ids_of}
use Rattle.contents.specs.Iloc.{Extent, Location, extents_in}
use Rattle.contents.specs.Iref.{Reference, referring_in}
use Rattle.contents.specs.File.{File}
use Rattle.rules.specs.Joined.{no_extent, located_at, referred_from, row_of}
use Rattle.rules.specs.Places.{Places}
use Rattle.rules.specs.Words.{first_in, located_groups}
use Rattle.records.specs.inner.Raw.{named_words, derived_words, place_words, record_of, raw_of}
use Rattle.records.specs.inner.Named.{mark_of, row_picked, extent_mark, extents_begin, NamedRows}
use Rattle.records.proofs.MemberLaws.{member-last, member-other}
use Rattle.records.proofs.RawLaws.{id-at, raw_record}
use Rattle.records.proofs.SaidLaws.{derived-from-last, derived-from-other}

-- located_at and first_in, of an entry that is the item's and of one that is not
module _ (l : Location) (ls : List Location) (x : ℕ) where
  located-yes : eqb l.id x ≡ true → located_at (l ∷ ls) x ≡ l
  unfolding located_at
  located-yes e = pick_yes l (located_at ls x) e

  located_no : eqb l.id x ≡ false → located_at (l ∷ ls) x ≡ located_at ls x
  unfolding located_at
  located_no e = pick_no l (located_at ls x) e

  begin_yes : (k : ℕ) → eqb l.id x ≡ true → first_in x k (located_groups (l ∷ ls)) ≡ k
  unfolding first_in
  begin_yes k e = pick_yes k _ e

  begin_no : (k : ℕ) → eqb l.id x ≡ false → first_in x k (located_groups (l ∷ ls)) ≡ first_in x (k + length l.extents) (located_groups ls)
  unfolding first_in
  begin_no k e = pick_no k _ e

-- how many extents an item has
abbrev pub extents_of : List Location → ℕ → ℕ
extents_of ls x = length (located_at ls x).extents

located-none : (x : ℕ) → extents_of [] x ≡ 0
unfolding located_at
located-none x = refl

-- the extents of an item are some of all
pub extents-upto : (ls : List Location) (x k : ℕ) → 0 < extents_of ls x → first_in x k (located_groups ls) + extents_of ls x ≤ k + extents_in ls
unfolding extents_in
extents-upto [] x k h = absurd (omega (arith, located-none x))
extents-upto (l ∷ ls) x k h = by (eqb l.id x) refl (extents-upto ls x (k + length l.extents))
  where
    by : (t : Bool) → eqb l.id x ≡ t
        → (0 < extents_of ls x → first_in x (k + length l.extents) (located_groups ls) + extents_of ls x ≤ k + length l.extents + extents_in ls)
        → first_in x k (located_groups (l ∷ ls)) + extents_of (l ∷ ls) x ≤ k + (length l.extents + extents_in ls)
    by true e g = rw (begin_yes l ls x k e, located-yes l ls x e) (omega arith)
    by false e g =
        let m : 0 < extents_of ls x = subst (λ (a : Location). 0 < length a.extents) (located_no l ls x e) h in
        rw (begin_no l ls x k e, located_no l ls x e) (omega (arith, g m))

begin_from : (ls : List Location) (x k : ℕ) → 0 < extents_of ls x → k ≤ first_in x k (located_groups ls)
begin_from [] x k h = absurd (omega (arith, located-none x))
begin_from (l ∷ ls) x k h = by (eqb l.id x) refl (begin_from ls x (k + length l.extents))
  where
    by : (t : Bool) → eqb l.id x ≡ t → (0 < extents_of ls x → k + length l.extents ≤ first_in x
        (k + length l.extents) (located_groups ls)) → k ≤ first_in x k (located_groups (l ∷ ls))
    by true e g = rw (begin_yes l ls x k e) (omega arith)
    by false e g =
        let m : 0 < extents_of ls x = subst (λ (a : Location). 0 < length a.extents) (located_no l ls x e) h in
        rw (begin_no l ls x k e) (omega (arith, g m))

-- those of two items are apart
abbrev Apart : List Location → ℕ → ℕ → ℕ → Type 0
Apart ls x y k =
    (first_in x k (located_groups ls) + extents_of ls x ≤ first_in y k (located_groups ls)) ⊎
    (first_in y k (located_groups ls) + extents_of ls y ≤ first_in x k (located_groups ls))

pub extents-apart : (ls : List Location) (x y k : ℕ) → (x ≡ y → ⊥) → 0 < extents_of ls x → 0 < extents_of ls y → Apart ls x y k
extents-apart [] x y k n h i = absurd (omega (arith, located-none x))
extents-apart (l ∷ ls) x y k n h i = by (eqb l.id x) refl (eqb l.id y) refl (extents-apart ls x y (k + length l.extents) n)
  where
    more : (z : ℕ) → eqb l.id z ≡ false → 0 < extents_of (l ∷ ls) z → 0 < extents_of ls z
    more z e j = subst (λ (a : Location). 0 < length a.extents) (located_no l ls z e) j

    by : (s : Bool) → eqb l.id x ≡ s → (t : Bool) → eqb l.id y ≡ t →
        (0 < extents_of ls x → 0 < extents_of ls y → Apart ls x y (k + length l.extents)) → Apart (l ∷ ls) x y k
    by true e true q g = absurd (n (sym (eqb-true l.id x e) ∙ eqb-true l.id y q))
    by true e false q g = inl (rw (begin_yes l ls x k e, located-yes l ls x e, begin_no l ls y k q)
        (begin_from ls y (k + length l.extents) (more y q i)))
    by false e true q g = inr (rw (begin_yes l ls y k q, located-yes l ls y q, begin_no l ls x k e)
        (begin_from ls x (k + length l.extents) (more x e h)))
    by false e false q g = rw (begin_no l ls x k e, begin_no l ls y k q, located_no l ls x e, located_no l ls y q)
        (g (more x e h) (more y q i))

-- raw_of: where the extents of the item in a row begin, how many they are, and its method
module _ (hw : List ℕ) (pl : Places) (y : List ℕ) (small : length hw ≤ 16) (f : File) (r : ℕ) (h : r < length f.items) where
  abbrev row_id : ℕ
  row_id = get_or (ids_of f.items) r 0

  pub raw_begin : get_or (raw_of hw pl f ++ y) (16 + 16 * r + 7) 0 ≡ pick (eqb (extents_of f.locations row_id) 0) 0 (extents_begin f.locations row_id)
  unfolding record_of named_words derived_words place_words
  raw_begin = raw_record hw pl y small f r 7 h (omega arith) ∙
      ap (λ (i : ℕ). pick (eqb (extents_of f.locations i) 0) 0 (extents_begin f.locations i)) (sym (id-at f.items r))

  pub raw-count : get_or (raw_of hw pl f ++ y) (16 + 16 * r + 8) 0 ≡ extents_of f.locations row_id
  unfolding record_of named_words derived_words place_words
  raw-count = raw_record hw pl y small f r 8 h (omega arith) ∙ ap (λ (i : ℕ). extents_of f.locations i) (sym (id-at f.items r))

  pub raw-method : get_or (raw_of hw pl f ++ y) (16 + 16 * r + 9) 0 ≡ (located_at f.locations row_id).method
  unfolding record_of named_words derived_words place_words
  raw-method = raw_record hw pl y small f r 9 h (omega arith) ∙ ap (λ (i : ℕ). (located_at f.locations i).method) (sym (id-at f.items r))

-- mark_of, row_picked: what a mark of an index picks from targets, of which there are fewer than marks
pub mark_picks : (is : List Item) (ts : List ℕ) (index r : ℕ) → length ts < 65536 → (mark_of index < 258 → r ≡ 256) →
    (258 + length ts ≤ mark_of index → r ≡ 256) → ((j : ℕ) → j < length ts → mark_of index ≡ 258 + j → r ≡ row_of (get_or ts j 0) is)
    → r ≡ row_picked is ts index
unfolding row_picked
mark_picks is ts index r few none past at = elim (dec_le index 65535) [ yes l ↦ told l | no l ↦ over (omega (arith, l)) ]
  where
    picks : Bool → ℕ
    picks t = pick t (row_of (get_or ts (index - 1) 0) is) 256

    test : Bool
    test = ltb 0 index && leb index (length ts)

    over : 65535 < index → r ≡ picks test
    over l =
        let m : mark_of index ≡ 257 + 65536 = ap (λ (k : ℕ). 257 + k) (pick_no index 65536 (lt-leb index 65535 l)) in
        past (omega (arith, m)) ∙ sym (pick_no _ 256 (and_none (ltb 0 index) _ (lt-leb index (length ts) (omega arith))))

    told : index ≤ 65535 → r ≡ picks test
    told l =
        let m : mark_of index ≡ 257 + index = ap (λ (k : ℕ). 257 + k) (pick_yes index 65536 (le-leb index 65535 l)) in
        elim (dec_le 1 index) [
          | yes a ↦ elim (dec_le index (length ts)) [
            | yes b ↦ at (index - 1) (omega arith) (omega (arith, m)) ∙
                sym (pick_yes _ 256 (both-and _ _ (lt-ltb 0 index a) (le-leb index (length ts) b)))
            | no b ↦ past (omega (arith, m, b)) ∙ sym (pick_no _ 256 (and_none (ltb 0 index) _ (lt-leb index (length ts) (omega (arith, b)))))
          ]
          | no a ↦ none (omega (arith, m, a)) ∙ sym (pick_no _ 256 (ap (λ (t : Bool). t && leb index (length ts)) (le-ltb 0 index (omega (arith, a)))))
        ]

-- extent_mark: a link more, of an item that had none
module _ (is : List Item) (ks : List Reference) (d : Reference) (fresh : member d.id (referring_in ks) ≡ false) (e : Extent) where
  mark_fresh : extent_mark is ks d.id e ≡ mark_of e.index
  unfolding extent_mark
  mark_fresh = pick_no _ _ fresh

  mark_last : extent_mark is (ks ++ (d ∷ [])) d.id e ≡ row_picked is d.targets e.index
  unfolding extent_mark
  mark_last =
      pick_yes _ _ (ap (member d.id) (map-append (λ (k : Reference). k.id) ks (d ∷ [])) ∙ member-last d.id (referring_in ks))
      ∙ ap (λ (ts : List ℕ). row_picked is ts e.index) (derived-from-last ks d fresh)

  mark_other : (x : ℕ) → (x ≡ d.id → ⊥) → extent_mark is (ks ++ (d ∷ [])) x e ≡ extent_mark is ks x e
  unfolding extent_mark
  mark_other x n =
      ap (λ (l : List ℕ). pick (member x l) (row_picked is (referred_from (ks ++ (d ∷ [])) x) e.index) (mark_of e.index))
      (map-append (λ (k : Reference). k.id) ks (d ∷ []))
      ∙ ap (λ (t : Bool). pick t (row_picked is (referred_from (ks ++ (d ∷ [])) x) e.index) (mark_of e.index)) (member-other x d.id (referring_in ks) n)
      ∙ ap (λ (ts : List ℕ). pick (member x (referring_in ks)) (row_picked is ts e.index) (mark_of e.index)) (derived-from-other ks d x n)

-- NamedRows
module _ (is : List Item) (ls : List Location) where
  abbrev extent_at : ℕ → ℕ → Extent
  extent_at y i = get_or (located_at ls y).extents i no_extent

  -- it goes by the words from 2,304 on
  pub named-same : (ks : List Reference) (v x : List ℕ) → ((i : ℕ) → 2304 ≤ i → get_or x i 0 ≡ get_or v i 0) → NamedRows is ls ks v → NamedRows is ls ks x
  named-same ks v x same named id m j h = same (2304 + extents_begin ls id + j) (omega arith) ∙ named id m j h

  -- a link more: the marks of its item's extents become what they pick, every other word is the same
  module _ (ks : List Reference) (d : Reference) (v x : List ℕ) where
    pub named_more : member d.id (referring_in ks) ≡ false →
        ((located_at ls d.id).method ≡ 2 → (j : ℕ) → j < extents_of ls d.id → (index : ℕ) →
        get_or v (2304 + extents_begin ls d.id + j) 0 ≡ mark_of index →
        get_or x (2304 + extents_begin ls d.id + j) 0 ≡ row_picked is d.targets index) →
        ((i : ℕ) → 2304 ≤ i → ((located_at ls d.id).method ≡ 2 → 0 < extents_of ls d.id →
        (i < 2304 + extents_begin ls d.id) ⊎ (2304 + extents_begin ls d.id + extents_of ls d.id ≤ i)) → get_or x i 0 ≡ get_or v i 0) →
        NamedRows is ls ks v → NamedRows is ls (ks ++ (d ∷ [])) x
    named_more fresh here apart named id m j h = by (eqb id d.id) refl
      where
        own : (y : ℕ) → y ≡ d.id → (located_at ls y).method ≡ 2 → j < extents_of ls y →
            get_or x (2304 + extents_begin ls y + j) 0 ≡ extent_mark is (ks ++ (d ∷ [])) y (extent_at y j)
        own y e n i =
            let g : (located_at ls d.id).method ≡ 2 = ap (λ (z : ℕ). (located_at ls z).method) (sym e) ∙ n in
            let l : j < extents_of ls d.id = subst (λ (z : ℕ). j < extents_of ls z) e i in
            subst (λ (z : ℕ). get_or x (2304 + extents_begin ls z + j) 0 ≡ extent_mark is (ks ++ (d ∷ [])) z (extent_at z j)) (sym e)
            (here g j l (extent_at d.id j).index (named d.id g j l ∙ mark_fresh is ks d fresh (extent_at d.id j))
            ∙ sym (mark_last is ks d fresh (extent_at d.id j)))

        away : (id ≡ d.id → ⊥) → 0 < extents_of ls d.id → (2304 + extents_begin ls id + j < 2304 + extents_begin ls d.id) ⊎
            (2304 + extents_begin ls d.id + extents_of ls d.id ≤ 2304 + extents_begin ls id + j)
        away n i = ⊎_elim (λ a. inl (omega arith)) (λ a. inr (omega arith)) (extents-apart ls id d.id 0 n (omega arith) i)

        by : (t : Bool) → eqb id d.id ≡ t → get_or x (2304 + extents_begin ls id + j) 0 ≡ extent_mark is (ks ++ (d ∷ [])) id (extent_at id j)
        by true e = own id (eqb-true id d.id e) m h
        by false e =
            let n = eqb-false id d.id e in
            apart (2304 + extents_begin ls id + j) (omega arith) (λ g i. away n i) ∙ named id m j h ∙ sym (mark_other is ks d fresh (extent_at id j) id n)
