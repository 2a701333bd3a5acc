-- The items in rising ID order (document 02, Q-6): each place once, IDs that rise, and which word of the file's records each
-- word of the records in that order is. Assumes nothing.
use Prim.Native.Nat.{ℕ, zero, suc, ◌+◌, ◌*◌, ◌-◌, ◌≤◌, ◌<◌}
use native.Mathlib.Nat.{not-suc-le-zero, le_of_suc-le-suc}
use native.Mathlib.Omega.{arith}
use native.Mathlib.Decide.{dec_lt}
use mathlib.Core.Path.{◌≡◌, refl, sym, ap, ◌∙◌, subst}
use mathlib.Core.List.{List, [], ◌∷◌, ◌++◌, map, append_assoc}
use mathlib.Core.Bool.{Bool, true, false}
use mathlib.Core.Logic.{◌⊎◌, inl, inr}
use lib.ListN.{length, get_or, replicate, length-append, length-replicate, get_or-append}
use lib.Seq.{get_or-append-add, get_or_at}
use lib.Dec.{leb, eqb}
use borrow.Author.Tests.{leb-true, leb-false, eqb-false}
use Rattle.fields.specs.Choice.{pick}
use Rattle.fields.specs.Lists.{All, member}
use Rattle.fields.proofs.TestLaws.{or_neither}
use Rattle.fields.proofs.ListLaws.{all_more}
use Rattle.boxes.specs.Answer.{ok}
use Rattle.boxes.specs.Types.{image}
use Rattle.contents.specs.Iinf.{Item, ids_of}
use Rattle.contents.specs.Iloc.{Extent, Location}
use Rattle.contents.specs.Ipma.{Association, IpmaEntry}
use Rattle.contents.specs.Iref.{Reference}
use Rattle.contents.specs.Keeps.{ItemStep, Items}
use Rattle.contents.specs.File.{File, read_file}
use Rattle.contents.proofs.ReadLaws.{read-sound}
use Rattle.contents.proofs.LimitLaws.{through-keeps, infe-new, items-few}
use Rattle.pictures.specs.Scene.{Scene, picture_at, output_of}
use Rattle.pictures.specs.Depth.{depth}
use Rattle.rules.specs.Joined.{no_item, location_of, associations_of, targets_of}
use Rattle.rules.specs.Places.{places_in}
use Rattle.rules.specs.Derivations.{scene_of}
use Rattle.rules.specs.Words.{
  Filed,
  filed_from,
  among_by_id,
  sorted_behind,
  by_id,
  join_all,
  region,
  span,
  named_groups,
  derived_groups,
  located_groups,
  item_words,
  size_words,
  records_from,
  records_by_id,
  properties_from,
  association_word,
  extent_words,
  head_words,
  words_with,
  file_words,
  words_of,
}

abbrev pub no_filed : Filed
no_filed = record { item = no_item; place = 0 }

-- R of each and each that stands behind it
abbrev pub Pairs : {A : Type 0} → (A → A → Type 0) → List A → Type 0
Pairs R [] = Unit {0}
Pairs R (x ∷ xs) = All (R x) xs × Pairs R xs

module _ {A : Type 0} (d : A) where
  -- what stands at a place of a list
  pub all_there : (P : A → Type 0) (l : List A) → All P l → (j : ℕ) → j < length l → P (get_or l j d)
  all_there P [] a j h = absurd (not-suc-le-zero h)
  all_there P (x ∷ l) a zero h = a.0
  all_there P (x ∷ l) a (suc j) h = all_there P l a.1 j (le_of_suc-le-suc h)

  pub pairs_there : (R : A → A → Type 0) (l : List A) → Pairs R l → (j k : ℕ) → j < k → k < length l → R (get_or l j d) (get_or l k d)
  pairs_there R [] a j k m h = absurd (not-suc-le-zero h)
  pairs_there R (x ∷ l) a j zero m h = absurd (not-suc-le-zero m)
  pairs_there R (x ∷ l) a zero (suc k) m h = all_there (R x) l a.0 k (le_of_suc-le-suc h)
  pairs_there R (x ∷ l) a (suc j) (suc k) m h = pairs_there R l a.1 j k (le_of_suc-le-suc m) (le_of_suc-le-suc h)

-- one more at the end
module _ {A : Type 0} (R : A → A → Type 0) where
  all-last : (P : A → Type 0) (l : List A) (x : A) → All P l → P x → All P (l ++ (x ∷ []))
  all-last P [] x a p = (p, tt)
  all-last P (y ∷ l) x a p = (a.0, all-last P l x a.1 p)

  pairs_last : (l : List A) (x : A) → Pairs R l → All (λ (y : A). R y x) l → Pairs R (l ++ (x ∷ []))
  pairs_last [] x a b = (tt, tt)
  pairs_last (y ∷ l) x a b = (all-last (R y) l x a.0 b.0, pairs_last l x a.1 b.1)

-- x stands in l
abbrev Stands : Filed → List Filed → Type 0
Stands p l = (j : ℕ) × (j < length l) × (get_or l j no_filed ≡ p)

stands-more : (p q : Filed) (l : List Filed) → Stands p l → Stands p (q ∷ l)
stands-more p q l s = (suc s.0, omega (arith, s.1), s.2)

-- among_by_id
among-length : (p : Filed) (qs : List Filed) → length (among_by_id p qs) ≡ suc (length qs)
unfolding among_by_id pick
among-length p [] = refl
among-length p (q ∷ qs) = by (among-length p qs) (leb q.item.id p.item.id)
  where
    by : length (among_by_id p qs) ≡ suc (length qs) → (t : Bool) → length (pick t (q ∷ among_by_id p qs) (p ∷ q ∷ qs)) ≡ suc (suc (length qs))
    by e true = ap suc e
    by e false = refl

among-all : (P : Filed → Type 0) (p : Filed) (qs : List Filed) → P p → All P qs → All P (among_by_id p qs)
unfolding among_by_id pick
among-all P p [] h a = (h, tt)
among-all P p (q ∷ qs) h a = by (among-all P p qs h a.1) (leb q.item.id p.item.id)
  where
    by : All P (among_by_id p qs) → (t : Bool) → All P (pick t (q ∷ among_by_id p qs) (p ∷ q ∷ qs))
    by r true = (a.0, r)
    by r false = (h, a)

among_it : (p : Filed) (qs : List Filed) → Stands p (among_by_id p qs)
unfolding among_by_id pick
among_it p [] = (0, omega arith, refl)
among_it p (q ∷ qs) = by (among_it p qs) (leb q.item.id p.item.id)
  where
    by : Stands p (among_by_id p qs) → (t : Bool) → Stands p (pick t (q ∷ among_by_id p qs) (p ∷ q ∷ qs))
    by r true = stands-more p q (among_by_id p qs) r
    by r false = (0, omega arith, refl)

among-kept : (r p : Filed) (qs : List Filed) → Stands r qs → Stands r (among_by_id p qs)
unfolding among_by_id pick
among-kept r p [] s = absurd (not-suc-le-zero s.1)
among-kept r p (q ∷ qs) s = by (among-kept r p qs) (leb q.item.id p.item.id) s.0 s.1 s.2
  where
    by : (Stands r qs → Stands r (among_by_id p qs)) → (t : Bool) (j : ℕ) → j < suc (length qs) →
        get_or (q ∷ qs) j no_filed ≡ r → Stands r (pick t (q ∷ among_by_id p qs) (p ∷ q ∷ qs))
    by more true zero h e = (0, omega arith, e)
    by more true (suc j) h e = stands-more r q (among_by_id p qs) (more (j, le_of_suc-le-suc h, e))
    by more false zero h e = (1, omega arith, e)
    by more false (suc j) h e = (suc (suc j), omega arith, e)

-- no two have one place; IDs never fall
abbrev Apart : List Filed → Type 0
Apart = Pairs (λ (p q : Filed). p.place ≡ q.place → ⊥)

abbrev Rising : List Filed → Type 0
Rising = Pairs (λ (p q : Filed). p.item.id ≤ q.item.id)

among-apart : (p : Filed) (qs : List Filed) → All (λ (q : Filed). p.place ≡ q.place → ⊥) qs → Apart qs → Apart (among_by_id p qs)
unfolding among_by_id pick
among-apart p [] n a = (tt, tt)
among-apart p (q ∷ qs) n a = by (among-apart p qs n.1 a.1) (leb q.item.id p.item.id)
  where
    by : Apart (among_by_id p qs) → (t : Bool) → Apart (pick t (q ∷ among_by_id p qs) (p ∷ q ∷ qs))
    by r true = (among-all (λ (r : Filed). q.place ≡ r.place → ⊥) p qs (λ e. n.0 (sym e)) a.0, r)
    by r false = (n, a)

among-rising : (p : Filed) (qs : List Filed) → Rising qs → Rising (among_by_id p qs)
unfolding among_by_id pick
among-rising p [] a = (tt, tt)
among-rising p (q ∷ qs) a = by (among-rising p qs a.1) (leb q.item.id p.item.id) refl
  where
    by : Rising (among_by_id p qs) → (t : Bool) → leb q.item.id p.item.id ≡ t → Rising (pick t (q ∷ among_by_id p qs) (p ∷ q ∷ qs))
    by r true e = (among-all (λ (r : Filed). q.item.id ≤ r.item.id) p qs (leb-true _ _ e) a.0, r)
    by r false e =
        let l = leb-false q.item.id p.item.id e in
        ((omega arith, all_more (λ (r : Filed). q.item.id ≤ r.item.id) (λ (r : Filed). p.item.id ≤ r.item.id) (λ r m. omega arith) qs a.0), a)

-- sorted_behind, filed_from
sorted_length : (ps qs : List Filed) → length (sorted_behind ps qs) ≡ length ps + length qs
unfolding sorted_behind
sorted_length ps [] = omega arith
sorted_length ps (q ∷ qs) = sorted_length (among_by_id q ps) qs ∙ omega (arith, among-length q ps)

sorted_all : (P : Filed → Type 0) (ps qs : List Filed) → All P ps → All P qs → All P (sorted_behind ps qs)
unfolding sorted_behind
sorted_all P ps [] a b = a
sorted_all P ps (q ∷ qs) a b = sorted_all P (among_by_id q ps) qs (among-all P q ps b.0 a) b.1

sorted_kept : (r : Filed) (ps qs : List Filed) → Stands r ps → Stands r (sorted_behind ps qs)
unfolding sorted_behind
sorted_kept r ps [] s = s
sorted_kept r ps (q ∷ qs) s = sorted_kept r (among_by_id q ps) qs (among-kept r q ps s)

sorted_new : (ps qs : List Filed) (j : ℕ) → j < length qs → Stands (get_or qs j no_filed) (sorted_behind ps qs)
unfolding sorted_behind
sorted_new ps [] j h = absurd (not-suc-le-zero h)
sorted_new ps (q ∷ qs) zero h = sorted_kept q (among_by_id q ps) qs (among_it q ps)
sorted_new ps (q ∷ qs) (suc j) h = sorted_new (among_by_id q ps) qs j (le_of_suc-le-suc h)

sorted_rising : (ps qs : List Filed) → Rising ps → Rising (sorted_behind ps qs)
unfolding sorted_behind
sorted_rising ps [] a = a
sorted_rising ps (q ∷ qs) a = sorted_rising (among_by_id q ps) qs (among-rising q ps a)

sorted_apart : (k : ℕ) (is : List Item) (ps : List Filed) → All (λ (p : Filed). p.place < k) ps → Apart ps → Apart (sorted_behind ps (filed_from k is))
unfolding sorted_behind filed_from
sorted_apart k [] ps b a = a
sorted_apart k (i ∷ is) ps b a =
    let q : Filed = record { item = i; place = k } in
    sorted_apart (suc k) is (among_by_id q ps)
    (among-all (λ (p : Filed). p.place < suc k) q ps (omega arith)
    (all_more (λ (p : Filed). p.place < k) (λ (p : Filed). p.place < suc k) (λ p h. omega arith) ps b))
    (among-apart q ps (all_more (λ (p : Filed). p.place < k) (λ (p : Filed). k ≡ p.place → ⊥) (λ p h e. omega arith) ps b) a)

filed-length : (k : ℕ) (is : List Item) → length (filed_from k is) ≡ length is
unfolding filed_from
filed-length k [] = refl
filed-length k (i ∷ is) = ap suc (filed-length (suc k) is)

filed-there : (k : ℕ) (is : List Item) (j : ℕ) → j < length is → get_or (filed_from k is) j no_filed ≡ record { item = get_or is j no_item; place = k + j }
unfolding filed_from
filed-there k [] j h = absurd (not-suc-le-zero h)
filed-there k (i ∷ is) zero h = let e : k ≡ k + 0 = omega arith in ap (λ (n : ℕ). record { item = i; place = n }) e
filed-there k (i ∷ is) (suc j) h =
    let e : suc k + j ≡ k + suc j = omega arith in
    filed-there (suc k) is j (le_of_suc-le-suc h) ∙ ap (λ (n : ℕ). record { item = get_or is j no_item; place = n }) e

-- p is an item of `is` with its place
abbrev pub Placed : List Item → Filed → Type 0
Placed is p = (p.place < length is) × (p.item ≡ get_or is p.place no_item)

filed-all : (P : Filed → Type 0) (k : ℕ) (is : List Item) → ((j : ℕ) → j < length is → P (record { item = get_or is j no_item; place = k + j })) →
    All P (filed_from k is)
unfolding filed_from
filed-all P k [] h = tt
filed-all P k (i ∷ is) h = (
  subst (λ (n : ℕ). P (record { item = i; place = n })) (omega arith) (h 0 (omega arith)),
  filed-all P (suc k) is (λ j m. subst (λ (n : ℕ). P (record { item = get_or is j no_item; place = n })) (omega arith) (h (suc j) (omega arith))),
)

-- by_id
module _ (is : List Item) where
  -- the k-th in rising ID order, and its place
  abbrev pub row_at : ℕ → Filed
  row_at k = get_or (by_id is) k no_filed

  pub order_length : length (by_id is) ≡ length is
  order_length = sorted_length [] (filed_from 0 is) ∙ omega (arith, filed-length 0 is)

  order_all : All (Placed is) (by_id is)
  order_all =
      sorted_all (Placed is) [] (filed_from 0 is) tt
      (filed-all (Placed is) 0 is (λ j h. subst (λ (n : ℕ). Placed is (record { item = get_or is j no_item; place = n })) (omega arith) (h, refl)))

  -- each is the item at its place
  pub order_placed : (k : ℕ) → k < length is → Placed is (row_at k)
  order_placed k h = all_there no_filed (Placed is) (by_id is) order_all k (rw order_length h)

  -- each place has a row
  pub order_onto : (p : ℕ) → p < length is → (k : ℕ) × (k < length is) × ((row_at k).place ≡ p)
  order_onto p h =
      let s = sorted_new [] (filed_from 0 is) p (rw filed-length h) in
      (s.0, rw order_length at s.1, ap (λ (q : Filed). q.place) (s.2 ∙ filed-there 0 is p h) ∙ omega arith)

  -- and one only
  order_apart : (j k : ℕ) → j < k → k < length is → (row_at j).place ≡ (row_at k).place → ⊥
  order_apart j k m h = pairs_there no_filed _ (by_id is) (sorted_apart 0 is [] tt tt) j k m (rw order_length h)

  pub order_once : (j k : ℕ) → j < length is → k < length is → (row_at j).place ≡ (row_at k).place → j ≡ k
  order_once j k h l e = by (dec_lt j k) (dec_lt k j)
    where
      by : Dec (j < k) → Dec (k < j) → j ≡ k
      by (yes m) b = absurd (order_apart j k m l e)
      by (no n) (yes m) = absurd (order_apart k j m h (sym e))
      by (no n) (no m) = omega arith

  -- IDs never fall, and rise where no two are the same
  pub order_rises : (j k : ℕ) → j < k → k < length is → (row_at j).item.id ≤ (row_at k).item.id
  order_rises j k m h = pairs_there no_filed _ (by_id is) (sorted_rising [] (filed_from 0 is) tt) j k m (rw order_length h)

  module _ (distinct : (j k : ℕ) → j < length is → k < length is → (get_or is j no_item).id ≡ (get_or is k no_item).id → j ≡ k) where
    pub order_strict : (j k : ℕ) → j < k → k < length is → (row_at j).item.id < (row_at k).item.id
    order_strict j k m h = by (dec_lt (row_at j).item.id (row_at k).item.id)
      where
        by : Dec ((row_at j).item.id < (row_at k).item.id) → (row_at j).item.id < (row_at k).item.id
        by (yes l) = l
        by (no n) =
            let r = order_rises j k m h in
            let a = order_placed j (omega arith) in
            let b = order_placed k h in
            let e : (row_at j).item.id ≡ (row_at k).item.id = omega arith in
            absurd (order_apart j k m h
            (distinct (row_at j).place (row_at k).place a.0 b.0
            (ap (λ (i : Item). i.id) (sym a.1) ∙ e ∙ ap (λ (i : Item). i.id) b.1)))

-- read_file: the items of a file are few, and no two have one ID
abbrev Differ : Item → Item → Type 0
Differ i j = i.id ≡ j.id → ⊥

differ_all : (y : ℕ) (l : List Item) → member y (ids_of l) ≡ false → All (λ (i : Item). i.id ≡ y → ⊥) l
differ_all y [] e = tt
differ_all y (i ∷ l) e =
    let b = or_neither (eqb y i.id) (member y (ids_of l)) e in
    ((λ q. eqb-false y i.id b.0 (sym q)), differ_all y l b.1)

items_differ : (s : List ℕ) (is : List Item) → Items s is → Pairs Differ is
items_differ s is h =
    through-keeps (Pairs Differ) ItemStep
    (λ before b after d r. rw r.kept
    (pairs_last Differ before r.item d (differ_all r.item.id before (infe-new before _ r.item r.spells.spells))))
    [] h.then.boxes is tt h.then.through

pub read-few : (total : ℕ) (head : List ℕ) (f : File) → read_file total head ≡ ok f → length f.items ≤ 256
read-few total head f e = items-few _ _ (read-sound total head f e).keeps.then.spelled.in_iinf

pub read-distinct : (total : ℕ) (head : List ℕ) (f : File) → read_file total head ≡ ok f →
    (j k : ℕ) → j < length f.items → k < length f.items → (get_or f.items j no_item).id ≡ (get_or f.items k no_item).id → j ≡ k
read-distinct total head f e j k h l q = by (dec_lt j k) (dec_lt k j)
  where
    apart : Pairs Differ f.items
    apart = items_differ _ _ (read-sound total head f e).keeps.then.spelled.in_iinf

    by : Dec (j < k) → Dec (k < j) → j ≡ k
    by (yes m) b = absurd (pairs_there no_item Differ f.items apart j k m l q)
    by (no n) (yes m) = absurd (pairs_there no_item Differ f.items apart k j m h (sym q))
    by (no n) (no m) = omega arith

-- join_all: lists of 16 words, one after another
module _ {A : Type 0} (g : A → List ℕ) (sized : (a : A) → length (g a) ≡ 16) where
  sixteens_length : (l : List A) → length (join_all g l) ≡ 16 * length l
  unfolding join_all
  sixteens_length [] = refl
  sixteens_length (a ∷ l) = rw (length-append, sized a, sixteens_length l) (omega arith)

  sixteens_word : (d : A) (l : List A) (k c : ℕ) → k < length l → c < 16 → get_or (join_all g l) (16 * k + c) 0 ≡ get_or (g (get_or l k d)) c 0
  unfolding join_all
  sixteens_word d [] k c h m = absurd (not-suc-le-zero h)
  sixteens_word d (a ∷ l) zero c h m =
      let e : 16 * 0 + c ≡ c = omega arith in
      ap (λ (i : ℕ). get_or (g a ++ join_all g l) i 0) e ∙ get_or-append (g a) (join_all g l) 0 c (rw (sized a) m)
  sixteens_word d (a ∷ l) (suc k) c h m =
      let e : 16 * suc k + c ≡ length (g a) + (16 * k + c) = rw (sized a) (omega arith) in
      ap (λ (i : ℕ). get_or (g a ++ join_all g l) i 0) e
      ∙ get_or-append-add (g a) (join_all g l) (16 * k + c) 0
      ∙ sixteens_word d l k c (le_of_suc-le-suc h) m

-- item_words: fifteen words, and the sixteenth
abbrev front_words : File → Scene → ℕ → Item → List ℕ
front_words f s r i =
    (i.id ∷ i.type ∷ i.hidden ∷ [])
    ++ (span i.id (named_groups f.associations) (length (associations_of f i.id))
    ++ (span i.id (derived_groups f.derivations) (length (targets_of f i.id))
    ++ (span i.id (located_groups f.locations) (length (location_of f i.id).extents)
    ++ (((location_of f i.id).method ∷ []) ++ size_words s r i))))

sizes-length : (s : Scene) (r : ℕ) (i : Item) → length (size_words s r i) ≡ 5
unfolding size_words pick
sizes-length s r i = by (image i.type)
  where
    by : (t : Bool) → length (pick t ((picture_at s r).declared.wide ∷ (picture_at s r).declared.high ∷ (output_of (picture_at s r)).wide ∷
        (output_of (picture_at s r)).high ∷ depth s r ∷ []) (replicate 5 0)) ≡ 5
    by true = refl
    by false = refl

module _ (f : File) (s : Scene) (r : ℕ) (i : Item) where
  front_length : length (front_words f s r i) ≡ 15
  front_length = omega (arith, sizes-length s r i)

  item_parts : (w : ℕ) → item_words w f s r i ≡ front_words f s r i ++ (w ∷ [])
  unfolding item_words
  item_parts w = refl

  item-length : (w : ℕ) → length (item_words w f s r i) ≡ 16
  item-length w = ap length (item_parts w) ∙ length-append (front_words f s r i) (w ∷ []) ∙ omega (arith, front_length)

  item_word : (v w c : ℕ) → c < 15 → get_or (item_words v f s r i) c 0 ≡ get_or (item_words w f s r i) c 0
  item_word v w c h = one v ∙ sym (one w)
    where
      one : (u : ℕ) → get_or (item_words u f s r i) c 0 ≡ get_or (front_words f s r i) c 0
      one u = ap (λ (l : List ℕ). get_or l c 0) (item_parts u) ∙ get_or-append (front_words f s r i) (u ∷ []) 0 c (rw front_length h)

  item-last : (w : ℕ) → get_or (item_words w f s r i) 15 0 ≡ w
  item-last w =
      ap (λ (l : List ℕ). get_or l 15 0) (item_parts w)
      ∙ get_or_at (front_words f s r i) w [] 0 15 front_length

  item-first : (w : ℕ) → get_or (item_words w f s r i) 0 0 ≡ i.id
  unfolding item_words
  item-first w = refl

-- records_from, as records of items with their places
module _ (f : File) (s : Scene) where
  abbrev file_record : Filed → List ℕ
  file_record p = item_words 0 f s p.place p.item

  abbrev id_record : Filed → List ℕ
  id_record p = item_words p.place f s p.place p.item

  records_filed : (k : ℕ) (is : List Item) → records_from f s k is ≡ join_all file_record (filed_from k is)
  unfolding records_from join_all filed_from
  records_filed k [] = refl
  records_filed k (i ∷ is) = rw (records_filed (suc k) is)

  records_length : (is : List Item) → length (records_from f s 0 is) ≡ 16 * length is
  records_length is =
      ap length (records_filed 0 is) ∙ sixteens_length file_record (λ p. item-length f s p.place p.item 0) (filed_from 0 is)
      ∙ omega (arith, filed-length 0 is)

  by-id-length : (is : List Item) → length (records_by_id f s (by_id is)) ≡ 16 * length is
  by-id-length is = sixteens_length id_record (λ p. item-length f s p.place p.item p.place) (by_id is) ∙ omega (arith, order_length is)

  file_word : (is : List Item) (k c : ℕ) → k < length is → c < 16 →
      get_or (records_from f s 0 is) (16 * k + c) 0 ≡ get_or (item_words 0 f s k (get_or is k no_item)) c 0
  file_word is k c h m =
      ap (λ (l : List ℕ). get_or l (16 * k + c) 0) (records_filed 0 is)
      ∙ sixteens_word file_record (λ p. item-length f s p.place p.item 0) no_filed (filed_from 0 is) k c (rw filed-length h) m
      ∙ ap (λ (p : Filed). get_or (file_record p) c 0) (filed-there 0 is k h)
      ∙ (let e : 0 + k ≡ k = omega arith in ap (λ (n : ℕ). get_or (item_words 0 f s n (get_or is k no_item)) c 0) e)

  by-id_word : (is : List Item) (k c : ℕ) → k < length is → c < 16 →
      get_or (records_by_id f s (by_id is)) (16 * k + c) 0 ≡ get_or (id_record (row_at is k)) c 0
  by-id_word is k c h m =
      sixteens_word id_record (λ p. item-length f s p.place p.item p.place) no_filed (by_id is) k c (rw order_length h) m

  -- a word of a record in rising ID order is the word of the record in the row of its place
  moved_word : (is : List Item) (k c : ℕ) → k < length is → c < 15 →
      get_or (records_by_id f s (by_id is)) (16 * k + c) 0 ≡ get_or (records_from f s 0 is) (16 * (row_at is k).place + c) 0
  moved_word is k c h m =
      let p = order_placed is k h in
      by-id_word is k c h (omega arith)
      ∙ item_word f s (row_at is k).place (row_at is k).item (row_at is k).place 0 c m
      ∙ ap (λ (i : Item). get_or (item_words 0 f s (row_at is k).place i) c 0) p.1
      ∙ sym (file_word is (row_at is k).place c p.0 (omega arith))

-- words_with: the first sixteen words, the records, and what follows them
module _ (total : ℕ) (head : List ℕ) (f : File) (x : List ℕ) where
  abbrev tail_words : List ℕ
  tail_words =
      region 1024 (properties_from (places_in total head).properties f.properties)
      ++ (region 2048 (join_all (λ (n : IpmaEntry). map (λ (a : Association). association_word a) n.list) f.associations)
      ++ (region 2048 (join_all (λ (d : Reference). d.targets) f.derivations)
      ++ region 2048 (join_all (λ (l : Location). join_all (λ (e : Extent). extent_words (places_in total head) l e) l.extents) f.locations)))

  abbrev rest_words : List ℕ → List ℕ
  rest_words r = replicate (4096 - length r) 0 ++ (tail_words ++ x)

  words_parts : (r : List ℕ) → words_with r total head f ++ x ≡ region 16 (head_words total f) ++ (r ++ rest_words r)
  unfolding words_with region
  words_parts r = simp append_assoc

-- three lists one after another, the middle one exchanged for another of the same length
module _ (h r z : List ℕ) (sixteen : length h ≡ 16) where
  part-first : (i : ℕ) → i < 16 → get_or (h ++ (r ++ z)) i 0 ≡ get_or h i 0
  part-first i m = get_or-append h (r ++ z) 0 i (rw sixteen m)

  part_middle : (i j : ℕ) → j ≡ 16 + i → i < length r → get_or (h ++ (r ++ z)) j 0 ≡ get_or r i 0
  part_middle i j e m =
      let q : j ≡ length h + i = omega arith in
      ap (λ (n : ℕ). get_or (h ++ (r ++ z)) n 0) q ∙ get_or-append-add h (r ++ z) i 0 ∙ get_or-append r z 0 i m

  part-last : (i j : ℕ) → j ≡ 16 + (length r + i) → get_or (h ++ (r ++ z)) j 0 ≡ get_or z i 0
  part-last i j e =
      let q : j ≡ length h + (length r + i) = omega arith in
      ap (λ (n : ℕ). get_or (h ++ (r ++ z)) n 0) q ∙ get_or-append-add h (r ++ z) (length r + i) 0 ∙ get_or-append-add r z i 0

region-long : (n : ℕ) (ws : List ℕ) → n ≤ length (region n ws)
unfolding region
region-long n ws = rw (length-append, length-replicate) (omega arith)

-- file_words, words_of: the words of a file before and after Q-6, with anything behind them
module _ (total : ℕ) (head : List ℕ) (f : File) (x : List ℕ) where
  abbrev scene : Scene
  scene = scene_of total head f

  abbrev head_of : List ℕ
  head_of = region 16 (head_words total f)

  abbrev old_records : List ℕ
  old_records = records_from f scene 0 f.items

  abbrev new_records : List ℕ
  new_records = records_by_id f scene (by_id f.items)

  head_sixteen : length head_of ≡ 16
  unfolding region
  head_sixteen = refl

  old_parts : file_words total head f ++ x ≡ head_of ++ (old_records ++ rest_words total head f x old_records)
  old_parts = words_parts total head f x old_records

  new_parts : words_of total head f ++ x ≡ head_of ++ (new_records ++ rest_words total head f x old_records)
  new_parts =
      words_parts total head f x new_records
      ∙ (let e : length new_records ≡ length old_records = by-id-length f scene f.items ∙ sym (records_length f scene f.items) in
      ap (λ (n : ℕ). head_of ++ (new_records ++ (replicate (4096 - n) 0 ++ (tail_words total head f x ++ x)))) e)

  old_at : (j : ℕ) → get_or (file_words total head f ++ x) j 0 ≡ get_or (head_of ++ (old_records ++ rest_words total head f x old_records)) j 0
  old_at j = ap (λ (l : List ℕ). get_or l j 0) old_parts

  new-at : (j : ℕ) → get_or (words_of total head f ++ x) j 0 ≡ get_or (head_of ++ (new_records ++ rest_words total head f x old_records)) j 0
  new-at j = ap (λ (l : List ℕ). get_or l j 0) new_parts

  -- how many words there are
  pub words_long : 11280 ≤ length (file_words total head f ++ x)
  words_long =
      rw (old_parts, length-append, head_sixteen, length-append, length-append, length-replicate, length-append, length-append, length-append, length-append)
      (omega (
        arith,
        region-long 1024 (properties_from (places_in total head).properties f.properties),
        region-long 2048 (join_all (λ (n : IpmaEntry). map (λ (a : Association). association_word a) n.list) f.associations),
        region-long 2048 (join_all (λ (d : Reference). d.targets) f.derivations),
        region-long 2048 (join_all (λ (l : Location). join_all (λ (e : Extent). extent_words (places_in total head) l e) l.extents) f.locations),
      ))

  pub words-same-length : length (words_of total head f ++ x) ≡ length (file_words total head f ++ x)
  words-same-length =
      let z = rest_words total head f x old_records in
      rw (
        new_parts,
        old_parts,
        length-append head_of (new_records ++ z),
        length-append new_records z,
        length-append head_of (old_records ++ z),
        length-append old_records z,
      )
      (omega (arith, by-id-length f scene f.items, records_length f scene f.items))

  -- the first word is the number of items
  pub words_count : get_or (file_words total head f ++ x) 0 0 ≡ length f.items
  unfolding region
  words_count = old_at 0

  -- the first fifteen words of a record are those of the record in the row of its place
  pub words-moved : (k c : ℕ) → k < length f.items → c < 15 →
      get_or (words_of total head f ++ x) (16 + 16 * k + c) 0 ≡ get_or (file_words total head f ++ x) (16 + 16 * (row_at f.items k).place + c) 0
  words-moved k c h m =
      let p = order_placed f.items k h in
      new-at (16 + 16 * k + c)
      ∙ part_middle head_of new_records _ head_sixteen (16 * k + c) (16 + 16 * k + c) (omega arith) (omega (arith, by-id-length f scene f.items))
      ∙ moved_word f scene f.items k c h m
      ∙ sym (old_at (16 + 16 * (row_at f.items k).place + c)
      ∙ part_middle head_of old_records _ head_sixteen (16 * (row_at f.items k).place + c) (16 + 16 * (row_at f.items k).place + c) (omega arith)
      (omega (arith, records_length f scene f.items, p.0)))

  -- the sixteenth is that place
  pub words_placed : (k : ℕ) → k < length f.items → get_or (words_of total head f ++ x) (16 + 16 * k + 15) 0 ≡ (row_at f.items k).place
  words_placed k h =
      new-at (16 + 16 * k + 15)
      ∙ part_middle head_of new_records _ head_sixteen (16 * k + 15) (16 + 16 * k + 15) (omega arith) (omega (arith, by-id-length f scene f.items))
      ∙ by-id_word f scene f.items k 15 h (omega arith)
      ∙ item-last f scene (row_at f.items k).place (row_at f.items k).item (row_at f.items k).place

  -- the first is the ID
  pub words-id : (k : ℕ) → k < length f.items → get_or (words_of total head f ++ x) (16 + 16 * k) 0 ≡ (row_at f.items k).item.id
  words-id k h =
      new-at (16 + 16 * k)
      ∙ part_middle head_of new_records _ head_sixteen (16 * k + 0) (16 + 16 * k) (omega arith) (omega (arith, by-id-length f scene f.items))
      ∙ by-id_word f scene f.items k 0 h (omega arith)
      ∙ item-first f scene (row_at f.items k).place (row_at f.items k).item (row_at f.items k).place

  -- every other word is the same
  pub words-other : (j : ℕ) → (j < 16) ⊎ (16 + 16 * length f.items ≤ j) →
      get_or (words_of total head f ++ x) j 0 ≡ get_or (file_words total head f ++ x) j 0
  words-other j (inl m) = new-at j ∙ part-first head_of new_records _ head_sixteen j m ∙ sym (old_at j ∙ part-first head_of old_records _ head_sixteen j m)
  words-other j (inr m) =
      let i = j - (16 + 16 * length f.items) in
      new-at j
      ∙ part-last head_of new_records _ head_sixteen i j (omega (arith, by-id-length f scene f.items))
      ∙ sym (old_at j ∙ part-last head_of old_records _ head_sixteen i j (omega (arith, records_length f scene f.items)))
