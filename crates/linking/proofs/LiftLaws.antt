-- Links of a table are those of its file (document 02, Q-7): what is said of rows in crates/linking/specs/inner/Links.antt is what
-- crates/rules/specs/Bytes.antt says of the items in them. Assumes nothing.
--   made-lift                  method 2;   named-lift, unnamed-lift, named-row    what an extent names, as a row
--   links-in                   what reading makes sure of
--   length-lift, is-past-lift  how long an item is, and whether that is 2^64 or more
--   chained-lift, past-lift    30; 14 at any depth
--   rows_apart                 no two rows have an extent in common
use Prim.Native.Nat.{ℕ, zero, suc, ◌+◌, ◌-◌, ◌≤◌, ◌<◌}
use native.Mathlib.Nat.{not-suc-le-zero, add-zero}
use native.Mathlib.Omega.{arith}
use mathlib.Core.Path.{◌≡◌, refl, sym, ap, subst, ◌∙◌}
use mathlib.Core.List.{List, [], ◌∷◌}
use mathlib.Core.Bool.{Bool, true, false, not, ◌&&◌, ◌||◌}
use lib.ListN.{length, get_or}
use lib.Dec.{ltb, leb, eqb}
use borrow.Author.Tests.{lt-ltb, le-ltb, eqb-true, le-leb}
use Rattle.fields.specs.Lists.{member}
use Rattle.fields.proofs.FieldLaws.{both, pick_yes, pick_no}
use Rattle.fields.proofs.TestLaws.{both-and, member-place}
use Rattle.boxes.specs.Answer.{Answer, ok, refuse}
use Rattle.boxes.proofs.AnswerLaws.{not-refused}
use Rattle.contents.specs.Iinf.{ids_of}
use Rattle.contents.specs.Iloc.{Extent, Location}
use Rattle.contents.specs.Iref.{Reference, referring_in}
use Rattle.contents.specs.File.{File}
use Rattle.rules.specs.Joined.{no_extent, located_at, location_of, links_of, referred_from, row_of}
use Rattle.rules.specs.Places.{Places}
use Rattle.rules.specs.Words.{first_in, located_groups}
use Rattle.rules.specs.Bytes.{all_extents, named, of_named, sizes_of, length_of, sums_past}
use Rattle.rules.specs.Bytes as file
use Rattle.rules.proofs.ChainLaws.{named_ok}
use Rattle.records.specs.inner.Rows.{Distinct}
use Rattle.records.specs.inner.Named.{row_picked, extent_mark, extents_begin, NamedIn}
use Rattle.records.proofs.MemberLaws.{member_neither, distinct-place}
use Rattle.records.proofs.RawLaws.{id-at, ids-long}
use Rattle.views.specs.inner.View.{TableOf, id_of}
use Rattle.views.proofs.LookupLaws.{row_of_at, row_listed}
use Rattle.linking.specs.inner.Links.{
  first_extent,
  extents,
  size_at,
  made_of_items,
  every,
  some,
  named_by,
  chained,
  sum_from,
  length_sum,
  is_past,
  names_past,
  LinksIn,
}
use Rattle.linking.proofs.LinkLaws.{by_test, links-room}

-- every, some and sum_from from the first on
and_shift : (a b c : Bool) → ((a && b) && c) ≡ (a && (b && c))
and_shift true b c = refl
and_shift false b c = refl

every_first : (g : ℕ → Bool) (n : ℕ) → every g (suc n) ≡ (g 0 && every (λ i. g (suc i)) n)
unfolding every
every_first g zero = by (g 0)
  where
    by : (b : Bool) → b ≡ (b && true)
    by true = refl
    by false = refl
every_first g (suc n) =
    ap (λ (b : Bool). b && g (suc n)) (every_first g n) ∙ and_shift (g 0) (every (λ i. g (suc i)) n) (g (suc n))

none-every : (g : ℕ → Bool) (n : ℕ) → some g n ≡ not (every (λ i. not (g i)) n)
unfolding every some
none-every g zero = refl
none-every g (suc n) = ap (λ (b : Bool). b || g n) (none-every g n) ∙ by (every (λ i. not (g i)) n) (g n)
  where
    by : (a b : Bool) → (not a || b) ≡ not (a && not b)
    by true true = refl
    by true false = refl
    by false b = refl

sum_first : (t : List ℕ) (e n : ℕ) → sum_from t e (suc n) ≡ size_at t e + sum_from t (suc e) n
unfolding sum_from
sum_first t e zero = let z = ap (size_at t) (add-zero e) in omega arith
sum_first t e (suc n) =
    let h = sum_first t e n in
    let k : e + suc n ≡ suc e + n = omega arith in
    let z = ap (size_at t) k in
    omega arith

-- a test of the extents by their number, and of the list of them
every-extents : (g : ℕ → Bool) (test : Extent → Bool) (es : List Extent) →
    ((j : ℕ) → j < length es → g j ≡ test (get_or es j no_extent)) → every g (length es) ≡ all_extents test es
unfolding all_extents every
every-extents g test [] h = refl
every-extents g test (e ∷ es) h =
    every_first g (length es)
    ∙ ap (λ (b : Bool). b && every (λ i. g (suc i)) (length es)) (h 0 (omega arith))
    ∙ ap (λ (b : Bool). test e && b) (every-extents (λ i. g (suc i)) test es (λ j k. h (suc j) (omega arith)))

some-extents : (g : ℕ → Bool) (test : Extent → Bool) (es : List Extent) →
    ((j : ℕ) → j < length es → g j ≡ test (get_or es j no_extent)) →
    some g (length es) ≡ not (all_extents (λ (e : Extent). not (test e)) es)
some-extents g test es h =
    none-every g (length es)
    ∙ ap not (every-extents (λ i. not (g i)) (λ (e : Extent). not (test e)) es (λ j k. ap not (h j k)))

sum_extents : (t : List ℕ) (e : ℕ) (es : List Extent) →
    ((j : ℕ) → j < length es → size_at t (e + j) ≡ (get_or es j no_extent).size) → sum_from t e (length es) ≡ sizes_of es
unfolding sizes_of sum_from
sum_extents t e [] h = refl
sum_extents t e (x ∷ es) h =
    let z = ap (size_at t) (add-zero e) in
    let a = h 0 (omega arith) in
    let b = sum_extents t (suc e) es (λ j k. let q : suc e + j ≡ e + suc j = omega arith in ap (size_at t) q ∙ h (suc j) (omega arith)) in
    let c = sum_first t e (length es) in
    omega arith

-- referred_from: an item without a reference has no targets
unreferred : (ks : List Reference) (id : ℕ) → member id (referring_in ks) ≡ false → referred_from ks id ≡ []
unfolding referred_from
unreferred [] id e = refl
unreferred (k ∷ ks) id e =
    let n = member_neither id k.id (referring_in ks) e in
    both (λ (ts : List ℕ). ts ≡ []) (eqb k.id id) _ _ (λ q. absurd (n.0 (sym (eqb-true k.id id q)))) (λ q. unreferred ks id n.1)

-- extent_mark, by what is named
module _ (f : File) (id : ℕ) (e : Extent) where
  mark_named : (i : ℕ) → named f id e ≡ ok i → extent_mark f.items f.links id e ≡ row_of i f.items
  unfolding extent_mark row_picked
  mark_named i z =
      let w = (named_ok f id e i).0 z in
      both (λ (m : ℕ). m ≡ row_of i f.items) (member id (referring_in f.links)) _ _
      (λ q. pick_yes _ _ (both-and _ _ (lt-ltb 0 e.index w.0) (le-leb e.index (length (links_of f id)) w.1))
      ∙ ap (λ (x : ℕ). row_of x f.items) w.2)
      (λ q. let l = ap (λ (ts : List ℕ). length ts) (unreferred f.links id q) in
      let a = w.0 in let b = w.1 in absurd (omega arith))

  mark_unnamed : (n p : ℕ) → named f id e ≡ refuse n p → 256 ≤ extent_mark f.items f.links id e
  unfolding extent_mark row_picked named
  mark_unnamed n p z =
      both (λ (m : ℕ). 256 ≤ m) (member id (referring_in f.links)) _ _
      (λ q. both (λ (m : ℕ). 256 ≤ m) _ _ _ (λ t. not-refused _ n p (sym (pick_yes _ _ t) ∙ z)) (λ t. omega arith))
      (λ q. omega arith)

-- first_in: two different IDs' extents do not meet
first-here : (l : Location) (ls : List Location) (x n : ℕ) → eqb l.id x ≡ true →
    (first_in x n (located_groups (l ∷ ls)) ≡ n) × (located_at (l ∷ ls) x ≡ l)
unfolding located_at first_in
first-here l ls x n q = (pick_yes _ _ q, pick_yes _ _ q)

first-behind : (l : Location) (ls : List Location) (x n : ℕ) → eqb l.id x ≡ false →
    (first_in x n (located_groups (l ∷ ls)) ≡ first_in x (n + length l.extents) (located_groups ls)) × (located_at (l ∷ ls) x ≡ located_at ls x)
unfolding located_at first_in
first-behind l ls x n q = (pick_no _ _ q, pick_no _ _ q)

first-low : (ls : List Location) (x n : ℕ) → 0 < length (located_at ls x).extents → n ≤ first_in x n (located_groups ls)
unfolding located_at
first-low [] x n h = absurd (not-suc-le-zero h)
first-low (l ∷ ls) x n h =
    by_test (eqb l.id x) (λ q. omega (arith, (first-here l ls x n q).0))
    (λ q. let w = first-behind l ls x n q in
    let k = subst (λ (m : Location). 0 < length m.extents) w.1 h in
    let a = w.0 in
    omega (arith, first-low ls x (n + length l.extents) k))

spans_apart : (ls : List Location) (x y n i j : ℕ) → i < length (located_at ls x).extents → j < length (located_at ls y).extents →
    first_in x n (located_groups ls) + i ≡ first_in y n (located_groups ls) + j → x ≡ y
unfolding located_at
spans_apart [] x y n i j h k e = absurd (not-suc-le-zero h)
spans_apart (l ∷ ls) x y n i j h k e =
    by_test (eqb l.id x)
    (λ p. by_test (eqb l.id y)
    (λ q. sym (eqb-true l.id x p) ∙ eqb-true l.id y q)
    (λ q. absurd (before l ls x y n i j p q h k e)))
    (λ p. by_test (eqb l.id y)
    (λ q. absurd (before l ls y x n j i q p k h (sym e)))
    (λ q. let a = first-behind l ls x n p in let b = first-behind l ls y n q in
    spans_apart ls x y (n + length l.extents) i j
    (subst (λ (m : Location). i < length m.extents) a.1 h) (subst (λ (m : Location). j < length m.extents) b.1 k)
    (ap (λ (c : ℕ). c + i) (sym a.0) ∙ e ∙ ap (λ (c : ℕ). c + j) b.0)))
  where
    before : (l : Location) (ls : List Location) (x y n i j : ℕ) → eqb l.id x ≡ true → eqb l.id y ≡ false →
        i < length (located_at (l ∷ ls) x).extents → j < length (located_at (l ∷ ls) y).extents →
        first_in x n (located_groups (l ∷ ls)) + i ≡ first_in y n (located_groups (l ∷ ls)) + j → ⊥
    before l ls x y n i j p q h k e =
        let a = first-here l ls x n p in
        let b = first-behind l ls y n q in
        let c = subst (λ (m : Location). i < length m.extents) a.1 h in
        let d = subst (λ (m : Location). j < length m.extents) b.1 k in
        let u = a.0 in
        let o = b.0 in
        omega (arith, first-low ls y (n + length l.extents) (omega arith))

-- IDs stand once
pub id-row : (f : File) → Distinct (ids_of f.items) → (id : ℕ) → member id (ids_of f.items) ≡ true → id_of f (row_of id f.items) ≡ id
id-row f d id m =
    let p = member-place (ids_of f.items) id m in
    let e = sym (id-at f.items p.0) ∙ p.2 in
    let l : p.0 < length f.items = subst (λ (k : ℕ). p.0 < k) (ids-long f.items) p.1 in
    ap (id_of f) (row_of_at f.items p.0 id l d e) ∙ e

module _ {t head : List ℕ} {pl : Places} {f : File} (w : TableOf t head pl f) where
  -- methods and lengths
  pub made_lift : (r : ℕ) → r < length f.items → made_of_items t r ≡ file.made_of_items f (id_of f r)
  made_lift r h = ap (λ (m : ℕ). eqb m 2) (w.method r h)

  pub length_lift : (r : ℕ) → r < length f.items → length_sum t r ≡ length_of f (id_of f r)
  length_lift r h =
      ap (sum_from t (first_extent t r)) (w.extent-count r h)
      ∙ sum_extents t (first_extent t r) (location_of f (id_of f r)).extents (λ j k. w.extent-size r j h k)

  pub is-past_lift : (r : ℕ) → r < length f.items → is_past t r ≡ sums_past f (id_of f r)
  is-past_lift r h = ap (leb 18446744073709551616) (length_lift r h)

  -- no two rows have an extent in common
  pub rows_apart : (r q i j : ℕ) → r < length f.items → q < length f.items → i < extents t r → j < extents t q →
      first_extent t r + i ≡ first_extent t q + j → r ≡ q
  rows_apart r q i j h k l m e =
      let a = subst (λ (c : ℕ). i < c) (w.extent-count r h) l in
      let b = subst (λ (c : ℕ). j < c) (w.extent-count q k) m in
      let c = spans_apart f.locations (id_of f r) (id_of f q) 0 i j a b
      (ap (λ (c : ℕ). c + i) (sym (w.extent-first r h (omega arith))) ∙ e ∙ ap (λ (c : ℕ). c + j) (w.extent-first q k (omega arith))) in
      let z = ids-long f.items in
      distinct-place (ids_of f.items) r q w.distinct (omega arith) (omega arith) (id-at f.items r ∙ c ∙ sym (id-at f.items q))

  -- v has what extents name
  module _ (v : List ℕ) (n : NamedIn f v) where
    -- "A link goes from a method 2 item to the target that its extent's index picks"
    module _ (r j : ℕ) (h : r < length f.items) (m : file.made_of_items f (id_of f r) ≡ true)
        (l : j < length (location_of f (id_of f r)).extents) where
      abbrev its : Extent
      its = get_or (location_of f (id_of f r)).extents j no_extent

      named_mark : named_by t v r j ≡ extent_mark f.items f.links (id_of f r) its
      named_mark =
          let b = w.extent-first r h (omega arith) in
          let k : 2304 + (first_extent t r + j) ≡ 2304 + extents_begin f.locations (id_of f r) + j = omega arith in
          ap (λ (i : ℕ). get_or v i 0) k ∙ n (id_of f r) (eqb-true _ 2 m) j l

      pub named-listed : (i : ℕ) → named f (id_of f r) its ≡ ok i → member i (ids_of f.items) ≡ true
      named-listed i e =
          let p = (named_ok f (id_of f r) its i).0 e in
          let a = p.0 in
          let b = p.1 in
          subst (λ (x : ℕ). member x (ids_of f.items) ≡ true) p.2 (w.sound.linked (id_of f r) (its.index - 1) (omega arith))

      pub named_lift : (i : ℕ) → named f (id_of f r) its ≡ ok i → (named_by t v r j ≡ row_of i f.items) × (row_of i f.items < length f.items)
      named_lift i e = (named_mark ∙ mark_named f (id_of f r) its i e, row_listed f.items i (named-listed i e))

      -- and so the row has the item that is named
      pub named-row : (i : ℕ) → named f (id_of f r) its ≡ ok i → (named_by t v r j < length f.items) × (id_of f (named_by t v r j) ≡ i)
      named-row i e =
          let a = named_lift i e in
          (subst (λ (x : ℕ). x < length f.items) (sym a.0) a.1, ap (id_of f) a.0 ∙ id-row f w.distinct i (named-listed i e))

      pub unnamed_lift : (k p : ℕ) → named f (id_of f r) its ≡ refuse k p → 256 ≤ named_by t v r j
      unnamed_lift k p e = subst (λ (x : ℕ). 256 ≤ x) (sym named_mark) (mark_unnamed f (id_of f r) its k p e)

      named-inside : named_by t v r j < 256 → named_by t v r j < length f.items
      named-inside b = by (named f (id_of f r) its) refl
        where
          by : (a : Answer ℕ) → named f (id_of f r) its ≡ a → named_by t v r j < length f.items
          by (ok i) e = (named-row i e).0
          by (refuse k p) e = absurd (omega (arith, unnamed_lift k p e))

      -- a test of what is named
      test_lift : (x y : ℕ → Bool) → ((q : ℕ) → q < length f.items → x q ≡ y (id_of f q)) →
          (ltb (named_by t v r j) 256 && x (named_by t v r j)) ≡ of_named y (named f (id_of f r) its)
      test_lift x y g = by (named f (id_of f r) its) refl
        where
          by : (a : Answer ℕ) → named f (id_of f r) its ≡ a → (ltb (named_by t v r j) 256 && x (named_by t v r j)) ≡ of_named y a
          by (ok i) e =
              let a = named-row i e in
              let b = a.0 in
              let c = w.bounded.few-items in
              ap (λ (z : Bool). z && x (named_by t v r j)) (lt-ltb (named_by t v r j) 256 (omega arith)) ∙ g (named_by t v r j) a.0 ∙ ap y a.1
          by (refuse k p) e = ap (λ (z : Bool). z && x (named_by t v r j)) (le-ltb (named_by t v r j) 256 (unnamed_lift k p e))

    -- what reading makes sure of
    pub links_in : LinksIn t v (length f.items)
    links_in =
        record {
          few = w.bounded.few-items;
          room = links-room t head pl f w;
          inside = λ r j h m l b. named-inside r j h (sym (made_lift r h) ∙ m) (subst (λ (k : ℕ). j < k) (w.extent-count r h) l) b;
        }

    -- 30
    pub chained_lift : (k r : ℕ) → r < length f.items → chained k t v r ≡ file.chained k f (id_of f r)
    unfolding chained file.chained
    chained_lift zero r h = ap not (made_lift r h)
    chained_lift (suc k) r h =
        by_test (file.made_of_items f (id_of f r))
        (λ m. rw (made_lift r h, m) (ap (every _) (w.extent-count r h)
        ∙ every-extents (λ j. ltb (named_by t v r j) 256 && chained k t v (named_by t v r j))
        (λ (e : Extent). of_named (λ i. file.chained k f i) (named f (id_of f r) e)) (location_of f (id_of f r)).extents
        (λ j l. test_lift r j h m l (chained k t v) (λ i. file.chained k f i) (chained_lift k))))
        (λ m. rw (made_lift r h, m) refl)

    -- 14, "at any depth"
    pub past_lift : (k r : ℕ) → r < length f.items → names_past k t v r ≡ file.names_past k f (id_of f r)
    unfolding names_past file.names_past
    past_lift zero r h = refl
    past_lift (suc k) r h =
        by_test (file.made_of_items f (id_of f r))
        (λ m. rw (made_lift r h, m) (ap (some _) (w.extent-count r h)
        ∙ some-extents (λ j. ltb (named_by t v r j) 256 && (is_past t (named_by t v r j) || names_past k t v (named_by t v r j)))
        (λ (e : Extent). of_named (λ i. sums_past f i || file.names_past k f i) (named f (id_of f r) e)) (location_of f (id_of f r)).extents
        (λ j l. test_lift r j h m l (λ q. is_past t q || names_past k t v q) (λ i. sums_past f i || file.names_past k f i)
        (λ q z. ap (λ (b : Bool). b || names_past k t v q) (is-past_lift q z) ∙ ap (λ (b : Bool). sums_past f (id_of f q) || b) (past_lift k q z)))))
        (λ m. rw (made_lift r h, m) refl)
