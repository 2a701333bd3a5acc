-- The table of a file as far as it is read: its length, what one more item, location, property, association list or
-- derivation changes in it, and what is read from it. Assumes nothing.
--   hw    the first words of the table, at most 16
--   x     the caller's words past the table
use Prim.Native.Nat.{ℕ, zero, suc, ◌+◌, ◌*◌, ◌<◌, ◌≤◌}
use native.Mathlib.Nat.{not-suc-le-zero, le_of_suc-le-suc}
use native.Mathlib.Omega.{arith}
use mathlib.Core.Path.{◌≡◌, refl, sym, ap, ◌∙◌}
use mathlib.Core.List.{List, [], ◌∷◌, ◌++◌, map, append_assoc}
use mathlib.Core.Bool.{true, false}
use lib.ListN.{length, get_or, set, length-append, length-map, get_or-map}
use lib.Seq.{sets}
use lib.Dec.{eqb}
use borrow.Author.Tests.{eq-eqb, ne_eqb}
use Rattle.fields.specs.Choice.{pick}
use Rattle.fields.specs.Lists.{member}
use Rattle.boxes.specs.Box.{kind_of, flat}
use Rattle.contents.specs.Iinf.{Item, ids_of}
use Rattle.contents.specs.Iloc.{Extent, Location, located_in, extents_in}
use Rattle.contents.specs.Ipma.{Association, IpmaEntry, associations_in}
use Rattle.contents.specs.Iref.{Reference, referring_in, targets_in}
use Rattle.contents.specs.File.{File}
use Rattle.rules.specs.Joined.{referred_from, row_of, no_item, item_at}
use Rattle.rules.specs.Places.{Places}
use Rattle.rules.specs.Words.{join_all, region, properties_from, association_word}
use Rattle.fields.proofs.TestLaws.{member-at}
use Rattle.records.specs.inner.Raw.{
  add_item,
  add_location,
  add_property,
  add_named,
  add_derivation,
  Bounded,
  named_words,
  derived_words,
  place_words,
  record_of,
  records_by,
  extent_row,
  extent_rows,
  association_rows,
  target_rows,
  raw_of,
}
use Rattle.records.specs.inner.Rows.{id_at, Distinct, FoundIs}
use Rattle.std.specs.Prelude.{Some, None}
use Rattle.table.specs.declared.ItemRow.{ItemRow}
use Rattle.records.proofs.JoinLaws.{join_snoc, join-length, join-get_or, join-sets}
use Rattle.records.proofs.MemberLaws.{member-none, none-member, distinct-place}
use Rattle.records.proofs.SaidLaws.{
  named_in,
  named_none,
  derived-none,
  place_none,
  named-last,
  named_other,
  derived-last,
  derived-other,
  place-last,
  place_other,
}
use Rattle.records.proofs.SetsLaws.{
  sets_first,
  sets-from,
  sets_over,
  get_or-from,
  zeros,
  region-length,
  region-sets,
  region_add,
  region_zeros,
  region-set-past,
  region-front,
}

-- record_of: each part of a record stored over the same part of another
module _ (i : Item) (a t l vs : List ℕ) where
  pub record_named : length a ≡ length vs → record_of i vs t l ≡ sets (record_of i a t l) 3 vs
  unfolding record_of
  record_named e = sym (sets_over vs (i.id ∷ i.type ∷ i.hidden ∷ []) a (t ++ (l ++ (i.protection ∷ 0 ∷ 0 ∷ 0 ∷ []))) 3 refl e)

  pub record_derived : length a ≡ 2 → length t ≡ length vs → record_of i a vs l ≡ sets (record_of i a t l) 5 vs
  unfolding record_of
  record_derived e q = sym (sets_over vs (i.id ∷ i.type ∷ i.hidden ∷ a) t (l ++ (i.protection ∷ 0 ∷ 0 ∷ 0 ∷ [])) 5 (omega arith) q)

  pub record_place : length a ≡ 2 → length t ≡ 2 → length l ≡ length vs → record_of i a t vs ≡ sets (record_of i a t l) 7 vs
  unfolding record_of
  record_place e q z =
      rw (← append_assoc a t (vs ++ (i.protection ∷ 0 ∷ 0 ∷ 0 ∷ [])), ← append_assoc a t (l ++ (i.protection ∷ 0 ∷ 0 ∷ 0 ∷ [])))
      (sym (sets_over vs (i.id ∷ i.type ∷ i.hidden ∷ (a ++ t)) l (i.protection ∷ 0 ∷ 0 ∷ 0 ∷ []) 7 (rw length-append (omega arith)) z))

-- what is said of an item: its record in the table of f
abbrev pub row_words : File → Item → List ℕ
row_words f i = record_of i (named_words f.associations i.id) (derived_words f.derivations i.id) (place_words f.locations i.id)

pub row-length : (f : File) (i : Item) → length (row_words f i) ≡ 16
unfolding record_of named_words derived_words place_words
row-length f i = refl

named-length : (ns : List IpmaEntry) (y : ℕ) → length (named_words ns y) ≡ 2
unfolding named_words
named-length ns y = refl

derived-length : (ds : List Reference) (y : ℕ) → length (derived_words ds y) ≡ 2
unfolding derived_words
derived-length ds y = refl

place-length : (ls : List Location) (y : ℕ) → length (place_words ls y) ≡ 5
unfolding place_words
place-length ls y = refl

-- records_by
abbrev pub records_in : File → List ℕ
records_in f = records_by (named_words f.associations) (derived_words f.derivations) (place_words f.locations) f.items

pub records_joined : (f : File) → records_in f ≡ join_all (row_words f) f.items
unfolding records_by
records_joined f = refl

pub records_length : (f : File) → length (records_in f) ≡ 16 * length f.items
records_length f = rw (records_joined f) (join-length (row_words f) 16 (row-length f) f.items)

-- properties_from
pub properties-length : (at : ℕ) (bs : List (List ℕ)) → length (properties_from at bs) ≡ 4 * length bs
unfolding properties_from
properties-length at [] = refl
properties-length at (b ∷ bs) = omega (arith, properties-length (at + length b) bs)

pub properties_snoc : (at : ℕ) (bs : List (List ℕ)) (b : List ℕ)
    → properties_from at (bs ++ (b ∷ [])) ≡ properties_from at bs ++ (kind_of b ∷ (at + length (flat bs)) ∷ length b ∷ 0 ∷ [])
unfolding properties_from flat
properties_snoc at [] b = let e : at ≡ at + 0 = omega arith in ap (λ (k : ℕ). kind_of b ∷ k ∷ length b ∷ 0 ∷ []) e
properties_snoc at (c ∷ bs) b =
    let e : at + length c + length (flat bs) ≡ at + length (c ++ flat bs) = rw length-append (omega arith) in
    rw (properties_snoc (at + length c) bs b, e)

-- association_rows
pub associations-length : (ns : List IpmaEntry) → length (association_rows ns) ≡ associations_in ns
unfolding association_rows associations_in join_all
associations-length [] = refl
associations-length (n ∷ ns) = rw (length-append, length-map, associations-length ns)

-- target_rows
pub targets-length : (ds : List Reference) → length (target_rows ds) ≡ targets_in ds
unfolding target_rows targets_in join_all
targets-length [] = refl
targets-length (d ∷ ds) = rw (length-append, targets-length ds)

-- extent_row, extent_rows
pub extent-length : (pl : Places) (l : Location) (es : List Extent) → length (join_all (λ (e : Extent). extent_row pl l e) es) ≡ 4 * length es
unfolding extent_row
extent-length pl l es = join-length (λ (e : Extent). extent_row pl l e) 4 (λ e. refl) es

pub extents-length : (pl : Places) (ls : List Location) → length (extent_rows pl ls) ≡ 4 * extents_in ls
unfolding extent_rows extents_in join_all
extents-length pl [] = refl
extents-length pl (l ∷ ls) = rw (length-append, extent-length pl l l.extents, extents-length pl ls) (omega arith)

-- runs of stores into the regions of a table: h the first 16 words, then r the records, p the properties, a the associations, t the targets and e the extents
module _ (h r : List ℕ) (lh : length h ≡ 16) (lr : length r ≡ 4096) where
  in_records : (x vs : List ℕ) (i k : ℕ) → k ≡ 16 + i → i + length vs ≤ 4096 → sets (h ++ (r ++ x)) k vs ≡ h ++ (sets r i vs ++ x)
  in_records x vs i k e l = sets-from vs h (r ++ x) 16 i k lh e ∙ ap (λ (w : List ℕ). h ++ w) (sets_first vs r x i (omega arith))

  past_records : (x vs : List ℕ) (i : ℕ) → sets (h ++ (r ++ x)) (4112 + i) vs ≡ h ++ (r ++ sets x i vs)
  past_records x vs i =
      sets-from vs h (r ++ x) 16 (4096 + i) (4112 + i) lh (omega arith) ∙ ap (λ (w : List ℕ). h ++ w) (sets-from vs r x 4096 i (4096 + i) lr refl)

  module _ (p : List ℕ) (lp : length p ≡ 1024) where
    in_properties : (x vs : List ℕ) (i : ℕ) → i + length vs ≤ 1024 → sets (h ++ (r ++ (p ++ x))) (4112 + i) vs ≡ h ++ (r ++ (sets p i vs ++ x))
    in_properties x vs i l = past_records (p ++ x) vs i ∙ ap (λ (w : List ℕ). h ++ (r ++ w)) (sets_first vs p x i (omega arith))

    past-properties : (x vs : List ℕ) (i : ℕ) → sets (h ++ (r ++ (p ++ x))) (5136 + i) vs ≡ h ++ (r ++ (p ++ sets x i vs))
    past-properties x vs i =
        let z : 5136 + i ≡ 4112 + (1024 + i) = omega arith in
        ap (λ (k : ℕ). sets (h ++ (r ++ (p ++ x))) k vs) z
        ∙ past_records (p ++ x) vs (1024 + i)
        ∙ ap (λ (w : List ℕ). h ++ (r ++ w)) (sets-from vs p x 1024 i (1024 + i) lp refl)

    module _ (a : List ℕ) (la : length a ≡ 2048) where
      in_associations : (x vs : List ℕ) (i : ℕ) → i + length vs ≤ 2048 →
          sets (h ++ (r ++ (p ++ (a ++ x)))) (5136 + i) vs ≡ h ++ (r ++ (p ++ (sets a i vs ++ x)))
      in_associations x vs i l = past-properties (a ++ x) vs i ∙ ap (λ (w : List ℕ). h ++ (r ++ (p ++ w))) (sets_first vs a x i (omega arith))

      past-associations : (x vs : List ℕ) (i : ℕ) → sets (h ++ (r ++ (p ++ (a ++ x)))) (7184 + i) vs ≡ h ++ (r ++ (p ++ (a ++ sets x i vs)))
      past-associations x vs i =
          let z : 7184 + i ≡ 5136 + (2048 + i) = omega arith in
          ap (λ (k : ℕ). sets (h ++ (r ++ (p ++ (a ++ x)))) k vs) z
          ∙ past-properties (a ++ x) vs (2048 + i)
          ∙ ap (λ (w : List ℕ). h ++ (r ++ (p ++ w))) (sets-from vs a x 2048 i (2048 + i) la refl)

      module _ (t : List ℕ) (lt : length t ≡ 2048) where
        in_targets : (x vs : List ℕ) (i : ℕ) → i + length vs ≤ 2048 →
            sets (h ++ (r ++ (p ++ (a ++ (t ++ x))))) (7184 + i) vs ≡ h ++ (r ++ (p ++ (a ++ (sets t i vs ++ x))))
        in_targets x vs i l = past-associations (t ++ x) vs i ∙ ap (λ (w : List ℕ). h ++ (r ++ (p ++ (a ++ w)))) (sets_first vs t x i (omega arith))

        in_extents : (e x vs : List ℕ) (i : ℕ) → length e ≡ 2048 → i + length vs ≤ 2048
            → sets (h ++ (r ++ (p ++ (a ++ (t ++ (e ++ x)))))) (9232 + i) vs ≡ h ++ (r ++ (p ++ (a ++ (t ++ (sets e i vs ++ x)))))
        in_extents e x vs i le l =
            let z : 9232 + i ≡ 7184 + (2048 + i) = omega arith in
            ap (λ (k : ℕ). sets (h ++ (r ++ (p ++ (a ++ (t ++ (e ++ x)))))) k vs) z
            ∙ past-associations (t ++ (e ++ x)) vs (2048 + i)
            ∙ ap (λ (w : List ℕ). h ++ (r ++ (p ++ (a ++ w))))
            (sets-from vs t (e ++ x) 2048 i (2048 + i) lt refl ∙ ap (λ (w : List ℕ). t ++ w) (sets_first vs e x i (omega arith)))

-- raw_of: its regions, and how long they are
abbrev record_region : File → List ℕ
record_region f = region 4096 (records_in f)

abbrev property_region : Places → File → List ℕ
property_region pl f = region 1024 (properties_from pl.properties f.properties)

abbrev association_region : File → List ℕ
association_region f = region 2048 (association_rows f.associations)

abbrev target_region : File → List ℕ
target_region f = region 2048 (target_rows f.derivations)

abbrev extent_region : Places → File → List ℕ
extent_region pl f = region 2048 (extent_rows pl f.locations)

raw_parts : (hw : List ℕ) (pl : Places) (x : List ℕ) (f : File) → raw_of hw pl f ++ x
    ≡ region 16 hw ++ (record_region f ++ (property_region pl f ++ (association_region f ++ (target_region f ++ (extent_region pl f ++ x)))))
unfolding raw_of
raw_parts hw pl x f = simp append_assoc

module _ (pl : Places) (f : File) (b : Bounded f) where
  records_fill : length (record_region f) ≡ 4096
  records_fill = region-length 4096 (records_in f) (rw (records_length f) (omega arith))

  properties-fill : length (property_region pl f) ≡ 1024
  properties-fill = region-length 1024 _ (rw (properties-length pl.properties f.properties) (omega arith))

  associations-fill : length (association_region f) ≡ 2048
  associations-fill = region-length 2048 _ (rw (associations-length f.associations) b.few-associations)

  targets-fill : length (target_region f) ≡ 2048
  targets-fill = region-length 2048 _ (rw (targets-length f.derivations) b.few-targets)

  extents-fill : length (extent_region pl f) ≡ 2048
  extents-fill = region-length 2048 _ (rw (extents-length pl f.locations) (omega arith))

pub raw-length : (hw : List ℕ) (pl : Places) (f : File) → length hw ≤ 16 → Bounded f → length (raw_of hw pl f) ≡ 11280
unfolding raw_of
raw-length hw pl f small b =
    let l0 = region-length 16 hw small in
    let l1 = records_fill pl f b in
    let l2 = properties-fill pl f b in
    let l3 = associations-fill pl f b in
    let l4 = targets-fill pl f b in
    let l5 = extents-fill pl f b in
    rw (length-append, length-append, length-append, length-append, length-append) (omega arith)

-- raw_of: one more item
row-none : (f : File) (i : Item) → f.locations ≡ [] → f.associations ≡ [] → f.derivations ≡ []
    → row_words f i ≡ set (set (set (set (zeros 16) 0 i.id) 1 i.type) 2 i.hidden) 12 i.protection
unfolding record_of
row-none f i el ea ed = rw (el, ea, ed, named_none i.id, derived-none i.id, place_none i.id)

records_snoc : (f : File) (i : Item) → records_in (add_item f i) ≡ records_in f ++ row_words f i
unfolding records_by
records_snoc f i = join_snoc (row_words f) f.items i

module _ (hw : List ℕ) (pl : Places) (x : List ℕ) (small : length hw ≤ 16) (f : File) where
  item-set : (w z y : List ℕ) (k v b : ℕ) → length w + length z ≤ 4096 → k < length z → b ≡ 16 + (length w + k)
      → set (region 16 hw ++ (region 4096 (w ++ z) ++ y)) b v ≡ region 16 hw ++ (region 4096 (w ++ set z k v) ++ y)
  item-set w z y k v b l m e =
      let q : length (w ++ z) ≤ 4096 = rw length-append l in
      in_records (region 16 hw) (region 4096 (w ++ z)) (region-length 16 hw small) (region-length 4096 (w ++ z) q) y (v ∷ []) (length w + k) b e (omega arith)
      ∙ ap (λ (r : List ℕ). region 16 hw ++ (r ++ y)) (region-set-past 4096 w z k v m)

  item-sets : (w y : List ℕ) (n a b c d : ℕ) → length w ≡ n → n + 16 ≤ 4096
      → set (set (set (set (region 16 hw ++ (region 4096 w ++ y)) (16 + n) a) (16 + n + 1) b) (16 + n + 2) c) (16 + n + 12) d
      ≡ region 16 hw ++ (region 4096 (w ++ set (set (set (set (zeros 16) 0 a) 1 b) 2 c) 12 d) ++ y)
  item-sets w y n a b c d e l =
      ap (λ (r : List ℕ). set (set (set (set (region 16 hw ++ (r ++ y)) (16 + n) a) (16 + n + 1) b) (16 + n + 2) c)
      (16 + n + 12) d) (sym (region_zeros 4096 w 16 (omega arith)))
      ∙ ap (λ (r : List ℕ). set (set (set r (16 + n + 1) b) (16 + n + 2) c) (16 + n + 12) d)
      (item-set w (zeros 16) y 0 a (16 + n) (omega arith) (omega arith) (omega arith))
      ∙ ap (λ (r : List ℕ). set (set r (16 + n + 2) c) (16 + n + 12) d)
      (item-set w (set (zeros 16) 0 a) y 1 b (16 + n + 1) (omega arith) (omega arith) (omega arith))
      ∙ ap (λ (r : List ℕ). set r (16 + n + 12) d) (item-set w (set (set (zeros 16) 0 a) 1 b) y 2 c (16 + n + 2) (omega arith) (omega arith) (omega arith))
      ∙ item-set w (set (set (set (zeros 16) 0 a) 1 b) 2 c) y 12 d (16 + n + 12) (omega arith) (omega arith) (omega arith)

  pub raw-item : (i : Item) → f.locations ≡ [] → f.associations ≡ [] → f.derivations ≡ [] → length f.items < 256
      → raw_of hw pl (add_item f i) ++ x
      ≡ set (set (set (set (raw_of hw pl f ++ x) (16 + 16 * length f.items) i.id) (16 + 16 * length f.items + 1)
      i.type) (16 + 16 * length f.items + 2) i.hidden) (16 + 16 * length f.items + 12) i.protection
  raw-item i el ea ed few =
      let n = 16 * length f.items in
      let y = property_region pl f ++ (association_region f ++ (target_region f ++ (extent_region pl f ++ x))) in
      raw_parts hw pl x (add_item f i)
      ∙ ap (λ (w : List ℕ). region 16 hw ++ (region 4096 w ++ y)) (records_snoc f i ∙ ap (λ (w : List ℕ). records_in f ++ w) (row-none f i el ea ed))
      ∙ sym
      (ap (λ (t : List ℕ). set (set (set (set t (16 + n) i.id) (16 + n + 1) i.type) (16 + n + 2) i.hidden)
      (16 + n + 12) i.protection) (raw_parts hw pl x f)
      ∙ item-sets (records_in f) y n i.id i.type i.hidden i.protection (records_length f) (omega arith))

-- raw_of: one more property
module _ (hw : List ℕ) (pl : Places) (x : List ℕ) (small : length hw ≤ 16) (f : File) (bd : Bounded f) where
  pub raw-property : (b : List ℕ) → length f.properties < 256
      → raw_of hw pl (add_property f b) ++ x
      ≡ sets (raw_of hw pl f ++ x) (4112 + 4 * length f.properties) (kind_of b ∷ (pl.properties + length (flat f.properties)) ∷ length b ∷ 0 ∷ [])
  raw-property b few =
      let n = 4 * length f.properties in
      let vs = kind_of b ∷ (pl.properties + length (flat f.properties)) ∷ length b ∷ 0 ∷ [] in
      let y = association_region f ++ (target_region f ++ (extent_region pl f ++ x)) in
      raw_parts hw pl x (add_property f b)
      ∙ ap (λ (w : List ℕ). region 16 hw ++ (record_region f ++ (w ++ y)))
      (ap (region 1024) (properties_snoc pl.properties f.properties b) ∙
      region_add 1024 _ vs n (properties-length pl.properties f.properties) (omega arith))
      ∙ sym
      (ap (λ (t : List ℕ). sets t (4112 + n) vs) (raw_parts hw pl x f)
      ∙ in_properties (region 16 hw) (record_region f) (region-length 16 hw small) (records_fill pl f bd)
      (property_region pl f) (properties-fill pl f bd) y vs n (omega arith))

-- ids_of
pub id-at : (is : List Item) (r : ℕ) → get_or (ids_of is) r 0 ≡ (get_or is r no_item).id
id-at is r = get_or-map (λ (i : Item). i.id) is r no_item

pub ids-long : (is : List Item) → length (ids_of is) ≡ length is
ids-long is = length-map is (λ (i : Item). i.id)

-- records_by: where what is said of one ID, y, changes from F to G, the change is a run of stores in the one row that has it
pub records_change : (F G : Item → List ℕ) → ((i : Item) → length (F i) ≡ 16) → (y k : ℕ) (vs : List ℕ)
    → ((i : Item) → i.id ≡ y → G i ≡ sets (F i) k vs) → ((i : Item) → (i.id ≡ y → ⊥) → F i ≡ G i) → k + length vs ≤ 16
    → (is : List Item) (r : ℕ) → Distinct (ids_of is) → r < length is → get_or (ids_of is) r 0 ≡ y
    → join_all G is ≡ sets (join_all F is) (16 * r + k) vs
records_change F G sized y k vs here other l is r d h e =
    let n = ids-long is in
    join-sets F 16 sized G no_item is r k vs h l (here (get_or is r no_item) (sym (id-at is r) ∙ e))
    (λ j m apart. other (get_or is j no_item) (λ q. apart (distinct-place (ids_of is) j r d (omega arith) (omega arith) (id-at is j ∙ q ∙ sym e))))

-- record_region: the same for two files with the same items, f before and g after
module _ (f g : File) (same : g.items ≡ f.items) (y k : ℕ) (vs : List ℕ) (r : ℕ) (d : Distinct (ids_of f.items))
    (h : r < length f.items) (e : get_or (ids_of f.items) r 0 ≡ y) where
  region_change : ((i : Item) → i.id ≡ y → row_words g i ≡ sets (row_words f i) k vs) → ((i : Item) → (i.id ≡ y → ⊥) → row_words f i ≡ row_words g i)
      → k + length vs ≤ 16 → record_region g ≡ sets (record_region f) (16 * r + k) vs
  region_change here other l =
      ap (region 4096)
      (records_joined g
      ∙ ap (join_all (row_words g)) same
      ∙ records_change (row_words f) (row_words g) (row-length f) y k vs here other l f.items r d h e
      ∙ ap (λ (w : List ℕ). sets w (16 * r + k) vs) (sym (records_joined f)))
      ∙ sym (region-sets 4096 (records_in f) vs (16 * r + k) (rw (records_length f) (omega arith)))

-- row_words: what one more entry changes in the record of the item with its ID
module _ (f : File) (i : Item) where
  named-row : (n : IpmaEntry) → member n.id (named_in f.associations) ≡ false → i.id ≡ n.id
      → row_words (add_named f n) i ≡ sets (row_words f i) 3 (pick (eqb (length n.list) 0) 0 (associations_in f.associations) ∷ length n.list ∷ [])
  named-row n new e =
      let a = named_words f.associations i.id in
      let t = derived_words f.derivations i.id in
      let l = place_words f.locations i.id in
      ap (λ (w : List ℕ). record_of i w t l) (ap (named_words (f.associations ++ (n ∷ []))) e ∙ named-last f.associations n new)
      ∙ record_named i a t l _ (named-length f.associations i.id)

  named-apart : (n : IpmaEntry) → (i.id ≡ n.id → ⊥) → row_words f i ≡ row_words (add_named f n) i
  named-apart n h =
      ap (λ (w : List ℕ). record_of i w (derived_words f.derivations i.id) (place_words f.locations i.id))
      (sym (named_other f.associations n i.id h))

  derived-row : (d : Reference) → member d.id (referring_in f.derivations) ≡ false → i.id ≡ d.id
      → row_words (add_derivation f d) i ≡ sets (row_words f i) 5 (pick (eqb (length d.targets) 0) 0 (targets_in f.derivations) ∷ length d.targets ∷ [])
  derived-row d new e =
      let a = named_words f.associations i.id in
      let t = derived_words f.derivations i.id in
      let l = place_words f.locations i.id in
      ap (λ (w : List ℕ). record_of i a w l) (ap (derived_words (f.derivations ++ (d ∷ []))) e ∙ derived-last f.derivations d new)
      ∙ record_derived i a t l _ (named-length f.associations i.id) (derived-length f.derivations i.id)

  derived-apart : (d : Reference) → (i.id ≡ d.id → ⊥) → row_words f i ≡ row_words (add_derivation f d) i
  derived-apart d h =
      ap (λ (w : List ℕ). record_of i (named_words f.associations i.id) w (place_words f.locations i.id))
      (sym (derived-other f.derivations d i.id h))

  place-row : (l : Location) → member l.id (located_in f.locations) ≡ false → i.id ≡ l.id
      → row_words (add_location f l) i
      ≡ sets (row_words f i) 7 (pick (eqb (length l.extents) 0) 0 (extents_in f.locations) ∷ length l.extents ∷ l.method ∷ l.reference ∷ 1 ∷ [])
  place-row l new e =
      let a = named_words f.associations i.id in
      let t = derived_words f.derivations i.id in
      ap (λ (w : List ℕ). record_of i a t w) (ap (place_words (f.locations ++ (l ∷ []))) e ∙ place-last f.locations l new)
      ∙ record_place i a t (place_words f.locations i.id) _ (named-length f.associations i.id)
      (derived-length f.derivations i.id) (place-length f.locations i.id)

  place-apart : (l : Location) → (i.id ≡ l.id → ⊥) → row_words f i ≡ row_words (add_location f l) i
  place-apart l h =
      ap (λ (w : List ℕ). record_of i (named_words f.associations i.id) (derived_words f.derivations i.id) w)
      (sym (place_other f.locations l i.id h))

-- association_rows, target_rows, extent_rows
associations_snoc : (ns : List IpmaEntry) (n : IpmaEntry) → association_rows (ns ++ (n ∷ [])) ≡ association_rows ns ++
    map (λ (a : Association). association_word a) n.list
unfolding association_rows
associations_snoc ns n = join_snoc (λ (m : IpmaEntry). map (λ (a : Association). association_word a) m.list) ns n

targets_snoc : (ds : List Reference) (d : Reference) → target_rows (ds ++ (d ∷ [])) ≡ target_rows ds ++ d.targets
unfolding target_rows
targets_snoc ds d = join_snoc (λ (e : Reference). e.targets) ds d

extents_snoc : (pl : Places) (ls : List Location) (l : Location) → extent_rows pl (ls ++ (l ∷ [])) ≡ extent_rows pl ls ++
    join_all (λ (e : Extent). extent_row pl l e) l.extents
unfolding extent_rows
extents_snoc pl ls l = join_snoc (λ (m : Location). join_all (λ (e : Extent). extent_row pl m e) m.extents) ls l

-- a run of stores past the records and then one into the records, from the table t to the table u
two_runs : (t u h r q y z ws vs : List ℕ) (m i k : ℕ) → t ≡ h ++ (r ++ y) → u ≡ h ++ (q ++ z) → sets (h ++ (r ++ y)) m ws ≡ h ++ (r ++ z) → q ≡ sets r i vs
    → length h ≡ 16 → length r ≡ 4096 → i + length vs ≤ 4096 → k ≡ 16 + i → u ≡ sets (sets t m ws) k vs
two_runs t u h r q y z ws vs m i k et eu ez eq lh lr l ek =
    eu
    ∙ ap (λ (w : List ℕ). h ++ (w ++ z)) eq
    ∙ sym (in_records h r lh lr z vs i k ek l)
    ∙ ap (λ (w : List ℕ). sets w k vs) (sym ez ∙ ap (λ (w : List ℕ). sets w m ws) (sym et))

-- raw_of: one more list of associations, derivation or location of an item in row r, of which nothing was said yet
module _ (hw : List ℕ) (pl : Places) (x : List ℕ) (small : length hw ≤ 16) (f : File) (bd : Bounded f) (r : ℕ)
    (ds : Distinct (ids_of f.items)) (h : r < length f.items) where
  pub raw-named : (n : IpmaEntry) → get_or (ids_of f.items) r 0 ≡ n.id → member n.id (named_in f.associations) ≡ false
      → associations_in f.associations + length n.list ≤ 2048
      → raw_of hw pl (add_named f n) ++ x
      ≡ sets
      (sets (raw_of hw pl f ++ x) (5136 + associations_in f.associations) (map (λ (a : Association). association_word a) n.list))
      (16 + 16 * r + 3)
      (pick (eqb (length n.list) 0) 0 (associations_in f.associations) ∷ length n.list ∷ [])
  raw-named n e new few =
      let c = associations_in f.associations in
      let ws = map (λ (a : Association). association_word a) n.list in
      let vs = pick (eqb (length n.list) 0) 0 c ∷ length n.list ∷ [] in
      let y = target_region f ++ (extent_region pl f ++ x) in
      let fits : c + length ws ≤ 2048 = rw length-map few in
      two_runs _ _ (region 16 hw) (record_region f) (record_region (add_named f n)) _ _ ws vs (5136 + c) (16 * r + 3) (16 + 16 * r + 3)
      (raw_parts hw pl x f) (raw_parts hw pl x (add_named f n))
      (in_associations (region 16 hw) (record_region f) (region-length 16 hw small) (records_fill pl f bd)
      (property_region pl f) (properties-fill pl f bd) (association_region f) (associations-fill pl f bd) y ws c fits
      ∙ ap (λ (w : List ℕ). region 16 hw ++ (record_region f ++ (property_region pl f ++ (w ++ y))))
      (sym (ap (region 2048) (associations_snoc f.associations n) ∙
      region_add 2048 (association_rows f.associations) ws c (associations-length f.associations) fits)))
      (region_change f (add_named f n) refl n.id 3 vs r ds h e (λ i q. named-row f i n new q) (λ i q. named-apart f i n q) (omega arith))
      (region-length 16 hw small) (records_fill pl f bd) (omega arith) (omega arith)

  pub raw_derivation : (d : Reference) → get_or (ids_of f.items) r 0 ≡ d.id → member d.id (referring_in f.derivations) ≡ false
      → targets_in f.derivations + length d.targets ≤ 2048
      → raw_of hw pl (add_derivation f d) ++ x
      ≡ sets
      (sets (raw_of hw pl f ++ x) (7184 + targets_in f.derivations) d.targets)
      (16 + 16 * r + 5)
      (pick (eqb (length d.targets) 0) 0 (targets_in f.derivations) ∷ length d.targets ∷ [])
  raw_derivation d e new few =
      let c = targets_in f.derivations in
      let vs = pick (eqb (length d.targets) 0) 0 c ∷ length d.targets ∷ [] in
      let y = extent_region pl f ++ x in
      two_runs _ _ (region 16 hw) (record_region f) (record_region (add_derivation f d)) _ _ d.targets vs (7184 + c) (16 * r + 5) (16 + 16 * r + 5)
      (raw_parts hw pl x f) (raw_parts hw pl x (add_derivation f d))
      (in_targets (region 16 hw) (record_region f) (region-length 16 hw small) (records_fill pl f bd)
      (property_region pl f) (properties-fill pl f bd) (association_region f) (associations-fill pl f bd)
      (target_region f) (targets-fill pl f bd) y d.targets c few
      ∙ ap (λ (w : List ℕ). region 16 hw ++ (record_region f ++ (property_region pl f ++ (association_region f ++ (w ++ y)))))
      (sym (ap (region 2048) (targets_snoc f.derivations d) ∙
      region_add 2048 (target_rows f.derivations) d.targets c (targets-length f.derivations) few)))
      (region_change f (add_derivation f d) refl d.id 5 vs r ds h e (λ i q. derived-row f i d new q) (λ i q. derived-apart f i d q) (omega arith))
      (region-length 16 hw small) (records_fill pl f bd) (omega arith) (omega arith)

  pub raw-location : (l : Location) → get_or (ids_of f.items) r 0 ≡ l.id → member l.id (located_in f.locations) ≡ false
      → extents_in f.locations + length l.extents ≤ 512
      → raw_of hw pl (add_location f l) ++ x
      ≡ sets
      (sets (raw_of hw pl f ++ x) (9232 + 4 * extents_in f.locations) (join_all (λ (e : Extent). extent_row pl l e) l.extents))
      (16 + 16 * r + 7)
      (pick (eqb (length l.extents) 0) 0 (extents_in f.locations) ∷ length l.extents ∷ l.method ∷ l.reference ∷ 1 ∷ [])
  raw-location l e new few =
      let c = 4 * extents_in f.locations in
      let ws = join_all (λ (e : Extent). extent_row pl l e) l.extents in
      let vs = pick (eqb (length l.extents) 0) 0 (extents_in f.locations) ∷ length l.extents ∷ l.method ∷ l.reference ∷ 1 ∷ [] in
      let fits : c + length ws ≤ 2048 = rw (extent-length pl l l.extents) (omega arith) in
      two_runs _ _ (region 16 hw) (record_region f) (record_region (add_location f l)) _ _ ws vs (9232 + c) (16 * r + 7) (16 + 16 * r + 7)
      (raw_parts hw pl x f) (raw_parts hw pl x (add_location f l))
      (in_extents (region 16 hw) (record_region f) (region-length 16 hw small) (records_fill pl f bd)
      (property_region pl f) (properties-fill pl f bd) (association_region f) (associations-fill pl f bd)
      (target_region f) (targets-fill pl f bd) (extent_region pl f) x ws c (extents-fill pl f bd) fits
      ∙ ap (λ (w : List ℕ). region 16 hw ++ (record_region f ++ (property_region pl f ++ (association_region f ++ (target_region f ++ (w ++ x))))))
      (sym (ap (region 2048) (extents_snoc pl f.locations l) ∙ region_add 2048 (extent_rows pl f.locations) ws c (extents-length pl f.locations) fits)))
      (region_change f (add_location f l) refl l.id 7 vs r ds h e (λ i q. place-row f i l new q) (λ i q. place-apart f i l q) (omega arith))
      (region-length 16 hw small) (records_fill pl f bd) (omega arith) (omega arith)

-- raw_of: what is read from it
module _ (hw : List ℕ) (pl : Places) (x : List ℕ) (small : length hw ≤ 16) (f : File) where
  pub raw_record : (r k : ℕ) → r < length f.items → k < 16 → get_or (raw_of hw pl f ++ x) (16 + 16 * r + k) 0 ≡ get_or (row_words f (item_at f r)) k 0
  raw_record r k h l =
      ap (λ (t : List ℕ). get_or t (16 + 16 * r + k) 0) (raw_parts hw pl x f)
      ∙ get_or-from (region 16 hw) _ 16 (16 * r + k) (16 + 16 * r + k) (region-length 16 hw small) (omega arith)
      ∙ region-front 4096 (records_in f) _ (16 * r + k) (rw (records_length f) (omega arith))
      ∙ ap (λ (t : List ℕ). get_or t (16 * r + k) 0) (records_joined f)
      ∙ join-get_or (row_words f) 16 (row-length f) no_item f.items r k h l

  pub raw-id : (r : ℕ) → r < length f.items → id_at (raw_of hw pl f ++ x) r ≡ get_or (ids_of f.items) r 0
  unfolding record_of
  raw-id r h =
      let e : 16 + 16 * r ≡ 16 + 16 * r + 0 = omega arith in
      ap (λ (k : ℕ). get_or (raw_of hw pl f ++ x) k 0) e ∙ raw_record r 0 h (omega arith) ∙ sym (id-at f.items r)

  pub raw-derived : (r : ℕ) → r < length f.items → get_or (raw_of hw pl f ++ x) (16 + 16 * r + 6) 0 ≡ length
      (referred_from f.derivations (get_or (ids_of f.items) r 0))
  unfolding record_of named_words derived_words
  raw-derived r h = raw_record r 6 h (omega arith) ∙ ap (λ (y : ℕ). length (referred_from f.derivations y)) (sym (id-at f.items r))

  pub raw-located : (r : ℕ) → r < length f.items → get_or (raw_of hw pl f ++ x) (16 + 16 * r + 11) 0 ≡ pick
      (member (get_or (ids_of f.items) r 0) (located_in f.locations)) 1 0
  unfolding record_of named_words derived_words place_words
  raw-located r h = raw_record r 11 h (omega arith) ∙ ap (λ (y : ℕ). pick (member y (located_in f.locations)) 1 0) (sym (id-at f.items r))

  -- FoundIs
  pub found-listed : (id : ℕ) (row : ItemRow) → FoundIs (raw_of hw pl f ++ x) (length f.items) id (Some row)
      → (member id (ids_of f.items) ≡ true) × (get_or (ids_of f.items) row.0 0 ≡ id)
  found-listed id row g =
      let e : get_or (ids_of f.items) row.0 0 ≡ id = sym (raw-id row.0 g.0) ∙ g.1 in
      let n = ids-long f.items in
      (member-at id (ids_of f.items) row.0 (omega arith) e, e)

  pub found_nothing : (id : ℕ) → FoundIs (raw_of hw pl f ++ x) (length f.items) id None → member id (ids_of f.items) ≡ false
  found_nothing id g =
      let n = ids-long f.items in
      member-none id (ids_of f.items) (λ k l q. let m : k < length f.items = omega arith in g k m (raw-id k m ∙ q))

-- row_of
pub distinct-row : (is : List Item) (r id : ℕ) → Distinct (ids_of is) → get_or (ids_of is) r 0 ≡ id → r < length is → row_of id is ≡ r
unfolding row_of pick
distinct-row [] r id d e h = absurd (not-suc-le-zero h)
distinct-row (i ∷ is) zero id d e h = rw (eq-eqb i.id id e)
distinct-row (i ∷ is) (suc r) id d e h =
    let n = ids-long is in
    rw (ne_eqb i.id id (λ q. none-member i.id (ids_of is) d.0 r (omega arith) (e ∙ sym q)), distinct-row is r id d.1 e (le_of_suc-le-suc h))
