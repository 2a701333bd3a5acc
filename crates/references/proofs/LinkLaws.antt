-- LinkStored: the rows after an `iloc`, as what is read from them and as those of a file. Assumes nothing.
use Prim.Native.Nat.{ℕ, suc, ◌+◌, ◌*◌, ◌<◌, ◌≤◌}
use native.Mathlib.Decide.{dec_le}
use native.Mathlib.Omega.{arith}
use mathlib.Core.Path.{◌≡◌, refl, sym, ap, ◌∙◌, subst}
use mathlib.Core.List.{List, [], ◌∷◌, ◌++◌, map-append}
use mathlib.Core.Bool.{Bool, true, false, not}
use mathlib.Core.Logic.{◌⊎◌, inr}
use lib.ListN.{length, get_or, set}
use lib.Seq.{get_or-set_same, get_or-set_other}
use lib.Dec.{eqb}
use borrow.Author.Tests.{eqb-true, eqb-false, eq-eqb, ne_eqb}
use Rattle.fields.specs.Choice.{pick}
use Rattle.fields.specs.Lists.{member}
use Rattle.fields.proofs.FieldLaws.{pick_yes, pick_no}
use Rattle.contents.specs.Iinf.{ids_of}
use Rattle.contents.specs.Iref.{Reference, referring_in}
use Rattle.contents.specs.File.{File}
use Rattle.rules.specs.Joined.{located_at, row_of}
use Rattle.rules.specs.Places.{Places}
use Rattle.records.specs.inner.Raw.{raw_of}
use Rattle.records.specs.inner.Rows.{id_at, ids_in, Distinct}
use Rattle.records.specs.inner.Named.{mark_of, row_picked, extents_begin, NamedRows}
use Rattle.records.specs.inner.Stage.{Ready}
use Rattle.records.proofs.MemberLaws.{member-last, member-other}
use Rattle.records.proofs.RawLaws.{raw-id, distinct-row}
use Rattle.records.proofs.IdLaws.{distinct-rows}
use Rattle.records.proofs.PickLaws.{extents_of, extents-upto, raw_begin, raw-count, raw-method, mark_picks, named_more}
use Rattle.references.specs.inner.Steps.{MarkedLinks, NamedFrom, LinkStored}

module _ (n : ℕ) (before : List Reference) (d : Reference) (t v x : List ℕ) (few : n ≤ 256) (room : 2816 ≤ length v)
    (z : LinkStored n before d t v x) where
  -- a word of the rows: the item's mark, one below 2,304, and one that the mark is not
  link_mark : get_or x (2048 + z.row) 0 ≡ 1
  link_mark = let l = z.listed in z.names.below (2048 + z.row) (omega arith) ∙ get_or-set_same v (2048 + z.row) 1 0 (omega arith)

  unmarked : (i : ℕ) → (i ≡ 2048 + z.row → ⊥) → get_or (set v (2048 + z.row) 1) i 0 ≡ get_or v i 0
  unmarked i h = get_or-set_other v (2048 + z.row) i 1 0 h

  link_word : (i : ℕ) → i < 2304 → (i ≡ 2048 + z.row → ⊥) → get_or x i 0 ≡ get_or v i 0
  link_word i l h = z.names.below i l ∙ unmarked i h

  module _ (distinct : Distinct (ids_in t n)) (marked : MarkedLinks t n before v) where
    grown_in : referring_in (before ++ (d ∷ [])) ≡ referring_in before ++ (d.id ∷ [])
    grown_in = map-append (λ (e : Reference). e.id) before (d ∷ [])

    mark_here : (k : ℕ) → k ≡ z.row → member (id_at t k) (referring_in (before ++ (d ∷ []))) ≡ not (eqb (get_or x (2048 + k) 0) 0)
    mark_here k e = rw (e, grown_in, z.its_id, link_mark) (member-last d.id (referring_in before))

    mark_other : (k : ℕ) → k < n → (k ≡ z.row → ⊥) → member (id_at t k) (referring_in (before ++ (d ∷ []))) ≡ not (eqb (get_or x (2048 + k) 0) 0)
    mark_other k h apart =
        rw (grown_in, link_word (2048 + k) (omega arith) (λ q. apart (omega arith)))
        (member-other (id_at t k) d.id (referring_in before) (λ q. apart
        (distinct-rows t n distinct k z.row h z.listed (q ∙ sym z.its_id))) ∙ marked k h)

    pub link-marked : MarkedLinks t n (before ++ (d ∷ [])) x
    link-marked k h =
        elim (dec_le (suc k) z.row) [
          | yes l ↦ mark_other k h (λ q. omega arith)
          | no l ↦ elim (dec_le (suc z.row) k) [
            | yes m ↦ mark_other k h (λ q. omega arith)
            | no m ↦ mark_here k (omega (arith, l, m))
          ]
        ]

  -- the rows of a file, of which t is the table
  module _ (pl : Places) (f : File) (y : List ℕ) (r : Ready f n) (e : t ≡ raw_of [] pl f ++ y) where
    abbrev begins : ℕ
    begins = extents_begin f.locations d.id

    abbrev many : ℕ
    many = extents_of f.locations d.id

    in_items : z.row < length f.items
    in_items = let l = z.listed in omega (arith, r.count)

    id-is : get_or (ids_of f.items) z.row 0 ≡ d.id
    id-is = sym (raw-id [] pl y (omega arith) f z.row in_items) ∙ ap (λ (l : List ℕ). id_at l z.row) (sym e) ∙ z.its_id

    word_begin : get_or t (16 + 16 * z.row + 7) 0 ≡ pick (eqb many 0) 0 begins
    word_begin = rw e (raw_begin [] pl y (omega arith) f z.row in_items) ∙
        ap (λ (i : ℕ). pick (eqb (extents_of f.locations i) 0) 0 (extents_begin f.locations i)) id-is

    word_some : 0 < many → get_or t (16 + 16 * z.row + 7) 0 ≡ begins
    word_some h = word_begin ∙ pick_no 0 begins (ne_eqb many 0 (omega arith))

    word_none : many ≡ 0 → get_or t (16 + 16 * z.row + 7) 0 ≡ 0
    word_none h = word_begin ∙ pick_yes 0 begins (eq-eqb many 0 h)

    word_count : get_or t (16 + 16 * z.row + 8) 0 ≡ many
    word_count = rw e (raw-count [] pl y (omega arith) f z.row in_items) ∙ ap (λ (i : ℕ). extents_of f.locations i) id-is

    word_method : get_or t (16 + 16 * z.row + 9) 0 ≡ (located_at f.locations d.id).method
    word_method = rw e (raw-method [] pl y (omega arith) f z.row in_items) ∙ ap (λ (i : ℕ). (located_at f.locations i).method) id-is

    -- the row that was found for a target
    row_is : (row j : ℕ) → row < n → id_at t row ≡ get_or d.targets j 0 → row ≡ row_of (get_or d.targets j 0) f.items
    row_is row j h q =
        let l : row < length f.items = omega (arith, r.count) in
        sym (distinct-row f.items row _ r.distinct (sym (raw-id [] pl y (omega arith) f row l) ∙ ap (λ (l : List ℕ). id_at l row) (sym e) ∙ q) l)

    abbrev From : ℕ → ℕ → Type 0
    From first count = NamedFrom t n (length d.targets) (λ j. get_or d.targets j 0) first count (set v (2048 + z.row) 1) x

    module _ (m : (located_at f.locations d.id).method ≡ 2) where
      from_some : 0 < many → From begins many
      from_some h =
          let a = word_some h in
          let b = word_count in
          let c = extents-upto f.locations d.id 0 h in
          let g = r.bounded.few-extents in
          subst (λ (i : ℕ). From i many) a (subst (λ (i : ℕ). From (get_or t (16 + 16 * z.row + 7) 0) i) b
          (z.names.named (word_method ∙ m) (omega arith)))

      from-none : many ≡ 0 → From 0 0
      from-none h =
          let a = word_none h in
          let b = word_count ∙ h in
          subst (λ (i : ℕ). From i 0) a (subst (λ (i : ℕ). From (get_or t (16 + 16 * z.row + 7) 0) i) b
          (z.names.named (word_method ∙ m) (omega arith)))

      here : (j : ℕ) → j < many → (index : ℕ) → get_or v (2304 + begins + j) 0 ≡ mark_of index →
          get_or x (2304 + begins + j) 0 ≡ row_picked f.items d.targets index
      here j h index q =
          let l = z.listed in
          let p = (from_some (omega arith)).picked j h in
          let g : get_or (set v (2048 + z.row) 1) (2304 + begins + j) 0 ≡ mark_of index = unmarked (2304 + begins + j) (λ i. omega arith) ∙ q in
          mark_picks f.items d.targets index (get_or x (2304 + begins + j) 0) z.few (λ i. p.0 (omega (arith, g, i)))
          (λ i. p.1 (omega (arith, g, i))) (λ i a o. let w = p.2 i a (g ∙ o) in row_is _ i w.0 w.1)

      there : (i : ℕ) → 2304 ≤ i → (0 < many → (i < 2304 + begins) ⊎ (2304 + begins + many ≤ i)) → get_or x i 0 ≡ get_or v i 0
      there i h a =
          let l = z.listed in
          elim (dec_le 1 many) [
            | yes b ↦ (from_some b).apart i (a b) ∙ unmarked i (λ q. omega arith)
            | no b ↦ (from-none (omega (arith, b))).apart i (inr (omega arith)) ∙ unmarked i (λ q. omega arith)
          ]

    elsewhere : (i : ℕ) → 2304 ≤ i → ((located_at f.locations d.id).method ≡ 2 → 0 < many →
        (i < 2304 + begins) ⊎ (2304 + begins + many ≤ i)) → get_or x i 0 ≡ get_or v i 0
    elsewhere i h a = by (eqb (located_at f.locations d.id).method 2) refl
      where
        by : (b : Bool) → eqb (located_at f.locations d.id).method 2 ≡ b → get_or x i 0 ≡ get_or v i 0
        by true q = let m = eqb-true _ 2 q in there m i h (a m)
        by false q =
            let l = z.listed in
            ap (λ (l : List ℕ). get_or l i 0) (z.names.other (λ o. eqb-false _ 2 q (sym word_method ∙ o))) ∙ unmarked i (λ o. omega arith)

    pub link-named : NamedRows f.items f.locations before v → NamedRows f.items f.locations (before ++ (d ∷ [])) x
    link-named named = named_more f.items f.locations before d v x z.fresh here elsewhere named
