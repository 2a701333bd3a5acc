-- A table whose regions say what a file says is that file's. Assumes nothing.
use Prim.Native.Nat.{ℕ, zero, suc, ◌+◌, ◌*◌, ◌<◌}
use native.Mathlib.Nat.{add-zero, div-add-mod', not-suc-le-zero, le_of_suc-le-suc}
use native.Mathlib.Omega.{arith}
use mathlib.Core.Path.{◌≡◌, refl, ap, ◌∙◌}
use mathlib.Core.List.{List, [], ◌∷◌, ◌++◌}
use lib.ListN.{length, get_or, take, length-append}
use Rattle.boxes.specs.Box.{kind_of, flat}
use Rattle.contents.specs.Iinf.{ids_of}
use Rattle.contents.specs.Iloc.{Extent, Location}
use Rattle.contents.specs.File.{File}
use Rattle.rules.specs.Joined.{no_extent, location_of, associations_of, targets_of, item_at, no_association}
use Rattle.rules.specs.Places.{Places, file_offset}
use Rattle.rules.specs.Words.{head_words, properties_from, association_word, named_groups, derived_groups, located_groups}
use Rattle.records.specs.inner.Raw.{Bounded, named_words, derived_words, place_words, record_of, capped, extent_row, association_rows, target_rows}
use Rattle.records.specs.inner.Rows.{Distinct}
use Rattle.records.proofs.RawLaws.{row_words, properties-length, associations-length, targets-length}
use Rattle.records.proofs.SaidLaws.{derived_total}
use Rattle.records.proofs.SetsLaws.{get_or-from}
use borrow.Author.Tests.{ne_eqb}
use Rattle.fields.proofs.FieldLaws.{pick_no}
use Rattle.views.specs.inner.View.{Sound, TableOf, record_word, wide, id_of}
use Rattle.views.proofs.LieLaws.{PartIn}
use Rattle.views.proofs.SpanLaws.{first_of, named-room, named-span, target_room, target-span, extent-room, extent-span, extents_by, extents-by-length}
use Rattle.views.proofs.RegionLaws.{table_by, Fill, table_length, head_word, record_word_lem, property_word, association_word_lem, target_word, extent_word}

-- properties_from: the three words of a property
pub record PropertyWords (at : ℕ) (bs : List (List ℕ)) (k : ℕ) : Type 0 where
  pub kind : get_or (properties_from at bs) (4 * k) 0 ≡ kind_of (get_or bs k [])
  pub offset : get_or (properties_from at bs) (4 * k + 1) 0 ≡ at + length (flat (take k bs))
  pub size : get_or (properties_from at bs) (4 * k + 2) 0 ≡ length (get_or bs k [])

pub property-words : (at : ℕ) (bs : List (List ℕ)) (k : ℕ) → k < length bs → PropertyWords at bs k
unfolding properties_from flat
property-words at [] k h = absurd (not-suc-le-zero h)
property-words at (b ∷ bs) zero h = record { kind = refl; offset = omega arith; size = refl }
property-words at (b ∷ bs) (suc k) h =
    let w = property-words (at + length b) bs k (le_of_suc-le-suc h) in
    let past : (i j : ℕ) → j ≡ 4 + i → get_or (properties_from at (b ∷ bs)) j 0 ≡ get_or (properties_from (at + length b) bs) i 0 =
    λ i j e. get_or-from (kind_of b ∷ at ∷ length b ∷ 0 ∷ []) (properties_from (at + length b) bs) 4 i j refl e in
    record {
      kind = past (4 * k) (4 * suc k) (omega arith) ∙ w.kind;
      offset = past (4 * k + 1) (4 * suc k + 1) (omega arith) ∙ w.offset ∙ rw length-append (omega arith);
      size = past (4 * k + 2) (4 * suc k + 2) (omega arith) ∙ w.size;
    }

-- every property stands in the head where the places say
abbrev pub PartsIn : List ℕ → Places → File → Type 0
PartsIn head pl f = (k : ℕ) → k < length f.properties → PartIn head (pl.properties + length (flat (take k f.properties))) (get_or f.properties k [])

-- the records rs of the items say in their first ten words what is said of the items
pub record Rows (rs : List ℕ) (f : File) : Type 0 where
  pub long : length rs ≡ 16 * length f.items
  pub word : (r k : ℕ) → r < length f.items → k < 10 → get_or rs (16 * r + k) 0 ≡ get_or (row_words f (item_at f r)) k 0

-- g spells an extent of an item of f: its offset and its size
abbrev pub Spells : (Location → Extent → List ℕ) → Places → File → Type 0
Spells g pl f =
    (r j : ℕ) → r < length f.items → j < length (location_of f (id_of f r)).extents
    → g (location_of f (id_of f r)) (get_or (location_of f (id_of f r)).extents j no_extent) ≡ extent_row pl
    (location_of f (id_of f r)) (get_or (location_of f (id_of f r)).extents j no_extent)

-- the table with the records rs and the extents as g spells them
abbrev pub table_with : ℕ → Places → File → List ℕ → (Location → Extent → List ℕ) → List ℕ
table_with total pl f rs g =
    table_by (head_words total f) rs (properties_from pl.properties f.properties) (association_rows f.associations)
    (target_rows f.derivations) (extents_by g f.locations)

module _ (total : ℕ) (head : List ℕ) (pl : Places) (f : File) (g : Location → Extent → List ℕ) (rs x : List ℕ)
    (four : (l : Location) (e : Extent) → length (g l e) ≡ 4)
    (b : Bounded f) (rows : Rows rs f) where
  abbrev t : List ℕ
  t = table_with total pl f rs g ++ x

  pub fill : Fill (head_words total f) rs (properties_from pl.properties f.properties)
      (association_rows f.associations) (target_rows f.derivations) (extents_by g f.locations)
  fill =
      record {
        in_head = omega arith;
        in_records = omega (arith, rows.long, b.few-items);
        in_properties = omega (arith, properties-length pl.properties f.properties, b.few-properties);
        in_associations = omega (arith, associations-length f.associations, b.few-associations);
        in_targets = omega (arith, targets-length f.derivations, b.few-targets);
        in_extents = omega (arith, extents-by-length g four f.locations, b.few-extents);
      }

  -- the records
  row_word : (r k : ℕ) → r < length f.items → k < 10 → record_word t r k ≡ get_or (row_words f (item_at f r)) k 0
  row_word r k h l = record_word_lem _ _ _ _ _ _ x fill (16 * r + k) (16 + 16 * r + k) (omega arith) (omega (arith, rows.long)) ∙ rows.word r k h l

  row-id : (r : ℕ) → r < length f.items → record_word t r 0 ≡ id_of f r
  unfolding record_of
  row-id r h = row_word r 0 h (omega arith)

  row_type : (r : ℕ) → r < length f.items → record_word t r 1 ≡ (item_at f r).type
  unfolding record_of
  row_type r h = row_word r 1 h (omega arith)

  row-hidden : (r : ℕ) → r < length f.items → record_word t r 2 ≡ (item_at f r).hidden
  unfolding record_of
  row-hidden r h = row_word r 2 h (omega arith)

  named-first : (r : ℕ) → r < length f.items → record_word t r 3 ≡ first_of (id_of f r) (named_groups f.associations) (length (associations_of f (id_of f r)))
  unfolding record_of named_words
  named-first r h = row_word r 3 h (omega arith)

  named-many : (r : ℕ) → r < length f.items → record_word t r 4 ≡ length (associations_of f (id_of f r))
  unfolding record_of named_words
  named-many r h = row_word r 4 h (omega arith)

  target_first : (r : ℕ) → r < length f.items → record_word t r 5 ≡ first_of (id_of f r) (derived_groups f.derivations) (length (targets_of f (id_of f r)))
  unfolding record_of named_words derived_words
  target_first r h = row_word r 5 h (omega arith)

  target-many : (r : ℕ) → r < length f.items → record_word t r 6 ≡ length (targets_of f (id_of f r))
  unfolding record_of named_words derived_words
  target-many r h = row_word r 6 h (omega arith)

  extent-first : (r : ℕ) → r < length f.items →
      record_word t r 7 ≡ first_of (id_of f r) (located_groups f.locations) (length (location_of f (id_of f r)).extents)
  unfolding record_of named_words derived_words place_words
  extent-first r h = row_word r 7 h (omega arith)

  extent-many : (r : ℕ) → r < length f.items → record_word t r 8 ≡ length (location_of f (id_of f r)).extents
  unfolding record_of named_words derived_words place_words
  extent-many r h = row_word r 8 h (omega arith)

  row-method : (r : ℕ) → r < length f.items → record_word t r 9 ≡ (location_of f (id_of f r)).method
  unfolding record_of named_words derived_words place_words
  row-method r h = row_word r 9 h (omega arith)

  -- the spans
  named-at : (r j : ℕ) → r < length f.items → j < length (associations_of f (id_of f r))
      → get_or t (5136 + (record_word t r 3 + j)) 0 ≡ association_word (get_or (associations_of f (id_of f r)) j no_association)
  named-at r j h l =
      let i = first_of (id_of f r) (named_groups f.associations) (length (associations_of f (id_of f r))) + j in
      association_word_lem _ _ _ _ _ _ x fill i (5136 + (record_word t r 3 + j)) (omega (arith, named-first r h))
      (omega (arith, associations-length f.associations, named-room f.associations (id_of f r)))
      ∙ named-span f.associations (id_of f r) j l

  target_at : (r j : ℕ) → r < length f.items → j < length (targets_of f (id_of f r)) →
      get_or t (7184 + (record_word t r 5 + j)) 0 ≡ get_or (targets_of f (id_of f r)) j 0
  target_at r j h l =
      let i = first_of (id_of f r) (derived_groups f.derivations) (length (targets_of f (id_of f r))) + j in
      target_word _ _ _ _ _ _ x fill i (7184 + (record_word t r 5 + j)) (omega (arith, target_first r h))
      (omega (arith, targets-length f.derivations, target_room f.derivations (id_of f r)))
      ∙ target-span f.derivations (id_of f r) j l

  module _ (spelled : Spells g pl f) where
    extent-at : (r j k c : ℕ) → r < length f.items → j < length (location_of f (id_of f r)).extents → k < 4 → c ≡ 9232 + 4 * (record_word t r 7 + j) + k
        → get_or t c 0 ≡ get_or (extent_row pl (location_of f (id_of f r)) (get_or (location_of f (id_of f r)).extents j no_extent)) k 0
    extent-at r j k c h l m e =
        let i = 4 * (first_of (id_of f r) (located_groups f.locations) (length (location_of f (id_of f r)).extents) + j) + k in
        extent_word _ _ _ _ _ _ x fill i c (omega (arith, extent-first r h))
        (omega (arith, extents-by-length g four f.locations, extent-room f.locations (id_of f r)))
        ∙ extent-span g four f.locations (id_of f r) j k l m
        ∙ ap (λ (w : List ℕ). get_or w k 0) (spelled r j h l)

    offset_at : (r j : ℕ) → r < length f.items → j < length (location_of f (id_of f r)).extents
        → wide t (9232 + 4 * (record_word t r 7 + j)) ≡ capped
        (file_offset pl (location_of f (id_of f r)) (get_or (location_of f (id_of f r)).extents j no_extent))
    unfolding extent_row
    offset_at r j h l =
        let c = 9232 + 4 * (record_word t r 7 + j) in
        rw (extent-at r j 0 c h l (omega arith) (omega arith), extent-at r j 1 (c + 1) h l (omega arith) refl) (div-add-mod' _ 4294967296)

    size-at : (r j : ℕ) → r < length f.items → j < length (location_of f (id_of f r)).extents
        → wide t (9232 + 4 * (record_word t r 7 + j) + 2) ≡ (get_or (location_of f (id_of f r)).extents j no_extent).size
    unfolding extent_row
    size-at r j h l =
        let c = 9232 + 4 * (record_word t r 7 + j) + 2 in
        rw (extent-at r j 2 c h l (omega arith) refl, extent-at r j 3 (c + 1) h l (omega arith) (omega arith)) (div-add-mod' _ 4294967296)

  -- the properties
  module _ (k : ℕ) (h : k < length f.properties) where
    property-at : (i c : ℕ) → i < 3 → c ≡ 4112 + 4 * k + i → get_or t c 0 ≡ get_or (properties_from pl.properties f.properties) (4 * k + i) 0
    property-at i c l e = property_word _ _ _ _ _ _ x fill (4 * k + i) c (omega arith) (omega (arith, properties-length pl.properties f.properties))

    kind_at : get_or t (4112 + 4 * k) 0 ≡ kind_of (get_or f.properties k [])
    kind_at =
        property-at 0 (4112 + 4 * k) (omega arith) (omega arith)
        ∙ rw add-zero (property-words pl.properties f.properties k h).kind

    pub place_at : get_or t (4112 + 4 * k + 1) 0 ≡ pl.properties + length (flat (take k f.properties))
    place_at = property-at 1 (4112 + 4 * k + 1) (omega arith) refl ∙ (property-words pl.properties f.properties k h).offset

    length_at : get_or t (4112 + 4 * k + 2) 0 ≡ length (get_or f.properties k [])
    length_at = property-at 2 (4112 + 4 * k + 2) (omega arith) refl ∙ (property-words pl.properties f.properties k h).size

  -- the table is the file's
  pub view : Distinct (ids_of f.items) → Sound head pl f → Spells g pl f → PartsIn head pl f → TableOf t head pl f
  view d sound spelled parts =
      record {
        enough = rw (length-append, table_length _ _ _ _ _ _ fill) (omega arith);
        items = head_word _ _ _ _ _ _ x fill 0 (omega arith);
        properties = head_word _ _ _ _ _ _ x fill 1 (omega arith);
        targets = head_word _ _ _ _ _ _ x fill 3 (omega arith) ∙ derived_total f.derivations;
        primary = head_word _ _ _ _ _ _ x fill 5 (omega arith);
        bounded = b;
        distinct = d;
        sound = sound;
        id = row-id;
        type = row_type;
        hidden = row-hidden;
        named-room = λ r h. omega (arith, named-first r h, named-room f.associations (id_of f r), b.few-associations);
        named_count = named-many;
        named = named-at;
        target_room = λ r h. omega (arith, target_first r h, target_room f.derivations (id_of f r));
        target-count = target-many;
        target = target_at;
        extent-room = λ r h. omega (arith, extent-first r h, extent-room f.locations (id_of f r), b.few-extents);
        extent-first = λ r h l. extent-first r h ∙ pick_no 0 _ (ne_eqb (length (location_of f (id_of f r)).extents) 0 (λ z. omega arith));
        extent-count = extent-many;
        extent-size = size-at spelled;
        extent-offset = offset_at spelled;
        method = row-method;
        property-kind = kind_at;
        property-room = λ k h. omega (arith, place_at k h, length_at k h, (parts k h).room);
        property-part = λ k h. rw (place_at k h, length_at k h) (parts k h).part;
      }
