-- The table of a file while it is judged, and that of an accepted file, are the file's. Assumes nothing.
use Prim.Native.Nat.{ℕ, zero, suc, ◌+◌, ◌*◌, ◌-◌, ◌<◌, ◌≤◌}
use native.Mathlib.Nat.{zero-add, add-zero, not-suc-le-zero, le_of_suc-le-suc}
use native.Mathlib.Omega.{arith}
use mathlib.Core.Path.{◌≡◌, refl, sym, ap, ◌∙◌, subst}
use mathlib.Core.List.{List, [], ◌∷◌, ◌++◌}
use mathlib.Core.Bool.{Bool, true, false}
use lib.ListN.{length, get_or, take, length-append, get_or-append}
use lib.Seq.{get_or-take}
use lib.Dec.{eqb}
use borrow.Author.Tests.{eqb-true, le-leb, ne_eqb}
use Rattle.fields.specs.Choice.{pick}
use Rattle.fields.proofs.FieldLaws.{pick_yes, both}
use Rattle.boxes.specs.Answer.{ok}
use Rattle.boxes.specs.Types.{image}
use Rattle.contents.specs.Iinf.{Item, ids_of}
use Rattle.contents.specs.Iloc.{Extent, Location}
use Rattle.contents.specs.File.{File, read_file}
use Rattle.contents.proofs.ReadLaws.{read-sound}
use Rattle.pictures.specs.Scene.{Scene}
use Rattle.rules.specs.Bytes.{made_of_items, Source, known, file_source}
use Rattle.rules.proofs.PlacedLaws.{Placed, placed_of, in_file, in_item}
use Rattle.rules.specs.Derivations.{scene_of}
use Rattle.rules.specs.Joined.{no_extent, location_of, no_item, item_at}
use Rattle.rules.specs.Places.{Places, places_in, property_offset, file_offset}
use Rattle.rules.specs.Opening.{accepted}
use Rattle.rules.specs.Words.{head_words, extent_words, size_words, item_words, records_from, words_with, file_words}
use Rattle.rules.proofs.RuleLaws.{judged-each, accepted-both}
use Rattle.records.specs.inner.Raw.{
  Bounded,
  named_words,
  derived_words,
  place_words,
  record_of,
  capped,
  extent_row,
  extent_rows,
  association_rows,
  target_rows,
  raw_of,
}
use Rattle.records.specs.inner.Rows.{Distinct}
use Rattle.records.proofs.JoinLaws.{join-get_or}
use Rattle.records.proofs.RawLaws.{row_words, row-length, records_in, records_joined, records_length, raw_record}
use Rattle.records.proofs.SetsLaws.{get_or-from}
use Rattle.records.proofs.BoundLaws.{read_bounds}
use Rattle.views.specs.inner.View.{TableOf, Judging, AllPlaced, record_word, id_of}
use Rattle.views.proofs.LieLaws.{PartIn}
use Rattle.views.proofs.RegionLaws.{table_by, record_word_lem}
use Rattle.views.proofs.WordLaws.{Rows, Spells, table_with, fill, place_at, view}
use Rattle.views.proofs.PartLaws.{property_parts, idat-part}
use Rattle.views.proofs.SoundLaws.{read_makes_sure}

-- raw_of
pub raw_table : (total : ℕ) (pl : Places) (f : File) → raw_of (head_words total f) pl f ≡ table_with total pl f (records_in f) (extent_row pl)
unfolding raw_of extent_rows table_by
raw_table total pl f = refl

raw-rows : (f : File) → Rows (records_in f) f
raw-rows f =
    record {
      long = records_length f;
      word = λ r k h l. ap (λ (w : List ℕ). get_or w (16 * r + k) 0) (records_joined f) ∙
          join-get_or (row_words f) 16 (row-length f) no_item f.items r k h (omega arith);
    }

pub row_four : (pl : Places) (l : Location) (e : Extent) → length (extent_row pl l e) ≡ 4
unfolding extent_row
row_four pl l e = refl

-- while a file is judged
pub raw-view : (total : ℕ) (head : List ℕ) (f : File) (x : List ℕ) → read_file total head ≡ ok f → Bounded f → Distinct (ids_of f.items)
    → TableOf (raw_of (head_words total f) (places_in total head) f ++ x) head (places_in total head) f
raw-view total head f x e b d =
    let pl = places_in total head in
    subst (λ (w : List ℕ). TableOf (w ++ x) head pl f) (sym (raw_table total pl f))
    (view total head pl f (extent_row pl) (records_in f) x (row_four pl) b (raw-rows f) d (read_makes_sure total head f e)
    (λ r j h l. refl) (property_parts total head f e))

-- the same of any file that is read: it keeps the limits
pub read_view : (total : ℕ) (head : List ℕ) (f : File) (x : List ℕ) → read_file total head ≡ ok f
    → TableOf (raw_of (head_words total f) (places_in total head) f ++ x) head (places_in total head) f
read_view total head f x e = let b = read_bounds total head f e in raw-view total head f x e b.0 b.1

pub raw-judging : (total : ℕ) (pl : Places) (f : File) (x : List ℕ) → Judging (raw_of (head_words total f) pl f ++ x) f
unfolding record_of named_words derived_words place_words
raw-judging total pl f x =
    record {
      reference = λ r h. raw_record (head_words total f) pl x (omega arith) f r 10 h (omega arith);
      protection = λ r h. raw_record (head_words total f) pl x (omega arith) f r 12 h (omega arith);
    }

-- size_words, item_words
pub sizes-length : (s : Scene) (r : ℕ) (i : Item) → length (size_words s r i) ≡ 5
unfolding size_words
sizes-length s r i = both (λ (l : List ℕ). length l ≡ 5) (image i.type) _ _ (λ e. refl) (λ e. refl)

module _ (f : File) (s : Scene) where
  pub item-length : (r : ℕ) (i : Item) → length (item_words 0 f s r i) ≡ 16
  unfolding item_words
  item-length r i = omega (arith, length-append (size_words s r i) (0 ∷ []), sizes-length s r i)

  pub item-front : (r : ℕ) (i : Item) (k : ℕ) → k < 10 → get_or (item_words 0 f s r i) k 0 ≡ get_or (row_words f i) k 0
  unfolding item_words record_of named_words derived_words place_words
  item-front r i k h = sym (get_or-take 10 (item_words 0 f s r i) k 0 h) ∙ get_or-take 10 (row_words f i) k 0 h

  item-sizes : (r : ℕ) (i : Item) (k : ℕ) → k < 5 → get_or (item_words 0 f s r i) (10 + k) 0 ≡ get_or (size_words s r i) k 0
  unfolding item_words
  item-sizes r i k h =
      get_or-from (take 10 (item_words 0 f s r i)) (size_words s r i ++ (0 ∷ [])) 10 k (10 + k) refl refl ∙
      get_or-append (size_words s r i) (0 ∷ []) 0 k (rw (sizes-length s r i) h)

  -- records_from
  from-length : (q : ℕ) (is : List Item) → length (records_from f s q is) ≡ 16 * length is
  unfolding records_from
  from-length q [] = refl
  from-length q (i ∷ is) = rw (length-append, item-length q i, from-length (suc q) is) (omega arith)

  from_word : (q : ℕ) (is : List Item) (r k : ℕ) → r < length is → k < 16 →
      get_or (records_from f s q is) (16 * r + k) 0 ≡ get_or (item_words 0 f s (q + r) (get_or is r no_item)) k 0
  unfolding records_from
  from_word q [] r k h l = absurd (not-suc-le-zero h)
  from_word q (i ∷ is) zero k h l =
      let e : 16 * 0 + k ≡ k = omega arith in
      rw (e, add-zero) (get_or-append (item_words 0 f s q i) (records_from f s (suc q) is) 0 k (rw (item-length q i) l))
  from_word q (i ∷ is) (suc r) k h l =
      let e : q + suc r ≡ suc q + r = omega arith in
      rw e
      (get_or-from (item_words 0 f s q i) (records_from f s (suc q) is) 16 (16 * r + k) (16 * suc r + k) (item-length q i) (omega arith)
      ∙ from_word (suc q) is r k (le_of_suc-le-suc h) l)

  from-rows : Rows (records_from f s 0 f.items) f
  from-rows =
      record {
        long = from-length 0 f.items;
        word = λ r k h l. from_word 0 f.items r k h (omega arith) ∙ item-front (0 + r) (item_at f r) k l;
      }

-- file_words
pub words_table : (total : ℕ) (head : List ℕ) (f : File)
    → file_words total head f ≡ table_with total (places_in total head) f (records_from f (scene_of total head f) 0 f.items)
    (λ l e. extent_words (places_in total head) l e)
unfolding words_with table_by association_rows target_rows
words_table total head f = refl

-- file_offset, of method 2: it counts from the named item's start
pub offset_made : (pl : Places) (l : Location) (e : Extent) → l.method ≡ 2 → file_offset pl l e ≡ l.base + e.offset
unfolding file_offset pick
offset_made pl l e m = rw m (omega arith)

-- an extent of an item of method 0 or 1 lies in the file, in the source that its method names
module _ (total : ℕ) (head : List ℕ) (f : File) (pl : Places) (small : length head ≤ total) (part : PartIn head pl.idat f.idat) where
  pub offset-within : (id : ℕ) (e : Extent) →
      (location_of f id).base + e.offset + e.size ≤ (file_source total head f id).size → file_offset pl (location_of f id) e + e.size ≤ total
  unfolding file_offset pick
  offset-within id e h = by (eqb (location_of f id).method 1) h
    where
      by : (t : Bool) → (location_of f id).base + e.offset + e.size ≤ (pick {A = Source} t
          (record { size = length f.idat; byte = known f.idat }) (record { size = total; byte = known head })).size
          → pick t pl.idat 0 + ((location_of f id).base + e.offset) + e.size ≤ total
      by true h = omega (arith, part.room)
      by false h = omega arith

-- AllPlaced: every extent of an item ends before 2^64, in the file or in the item that it names
pub extent-below : (total : ℕ) (head : List ℕ) (f : File) → total < 18446744073709551616 → read_file total head ≡ ok f → AllPlaced total head f →
    (r j : ℕ) → r < length f.items → j < length (location_of f (id_of f r)).extents
    → file_offset (places_in total head) (location_of f (id_of f r)) (get_or (location_of f (id_of f r)).extents j no_extent) +
    (get_or (location_of f (id_of f r)).extents j no_extent).size < 18446744073709551616
extent-below total head f few e placed r j h l = by (made_of_items f (id_of f r)) refl
  where
    its : Extent
    its = get_or (location_of f (id_of f r)).extents j no_extent

    Goal : Type 0
    Goal = file_offset (places_in total head) (location_of f (id_of f r)) its + its.size < 18446744073709551616

    k : Placed total head f (item_at f r)
    k = placed_of total head f (item_at f r) (placed r h)

    by : (t : Bool) → made_of_items f (id_of f r) ≡ t → Goal
    by true m =
        let w = in_item total head f (item_at f r) k j l m in
        rw (offset_made (places_in total head) (location_of f (id_of f r)) its (eqb-true _ 2 m)) (omega (arith, w.ends, w.small))
    by false m =
        let w = offset-within total head f (places_in total head) (read-sound total head f e).within (idat-part total head f e)
        (id_of f r) its (in_file total head f (item_at f r) k j l m) in
        omega arith

-- capped
pub capped_same : (x : ℕ) → x < 18446744073709551616 → capped x ≡ x
capped_same x h = pick_yes x 18446744073709551615 (le-leb x 18446744073709551615 (omega arith))

-- a file whose items keep 13 and 14
pub words-spelled : (total : ℕ) (head : List ℕ) (f : File) → total < 18446744073709551616 →
    read_file total head ≡ ok f → AllPlaced total head f →
    Spells (λ l e. extent_words (places_in total head) l e) (places_in total head) f
unfolding extent_row
words-spelled total head f few e placed r j h l =
    rw (capped_same (file_offset (places_in total head) (location_of f (id_of f r))
    (get_or (location_of f (id_of f r)).extents j no_extent)) (omega
    (arith, extent-below total head f few e placed r j h l)))

pub placed-view : (total : ℕ) (head : List ℕ) (f : File) (x : List ℕ) → total < 18446744073709551616 → read_file total head ≡ ok f → AllPlaced total head f
    → TableOf (file_words total head f ++ x) head (places_in total head) f
placed-view total head f x few e placed =
    let pl = places_in total head in
    let b = read_bounds total head f e in
    subst (λ (w : List ℕ). TableOf (w ++ x) head pl f) (sym (words_table total head f))
    (view total head pl f (λ l e. extent_words pl l e) _ x (λ l e. refl) b.0 (from-rows f (scene_of total head f))
    b.1 (read_makes_sure total head f e) (words-spelled total head f few e placed)
    (property_parts total head f e))

pub words-view : (total : ℕ) (head : List ℕ) (f : File) (x : List ℕ) → total < 18446744073709551616 → accepted total head ≡ ok f
    → TableOf (file_words total head f ++ x) head (places_in total head) f
words-view total head f x few e =
    let a = accepted-both total head f e in
    placed-view total head f x few a.0 (judged-each total head f a.1).by-13-30-14

-- the words of a record behind the tenth: the sizes and the depth
pub words-sizes : (total : ℕ) (head : List ℕ) (f : File) (x : List ℕ) → Bounded f → (r k : ℕ) → r < length f.items → k < 5
    → record_word (file_words total head f ++ x) r (10 + k) ≡ get_or (size_words (scene_of total head f) r (item_at f r)) k 0
words-sizes total head f x b r k h l =
    let s = scene_of total head f in
    let pl = places_in total head in
    let rows = from-rows f s in
    ap (λ (w : List ℕ). record_word (w ++ x) r (10 + k)) (words_table total head f)
    ∙ record_word_lem _ _ _ _ _ _ x (fill total head pl f (λ l e. extent_words pl l e) _ x (λ l e. refl) b rows)
    (16 * r + (10 + k)) (16 + 16 * r + (10 + k)) (omega arith) (omega (arith, rows.long))
    ∙ from_word f s 0 f.items r (10 + k) h (omega arith)
    ∙ item-sizes f s (0 + r) (item_at f r) k l
    ∙ ap (λ (q : ℕ). get_or (size_words s q (item_at f r)) k 0) (zero-add r)

-- where a property begins, k counting from 0: what the table says is its offset
pub words-offset : (total : ℕ) (head : List ℕ) (f : File) (x : List ℕ) → Bounded f → (k : ℕ) → k < length f.properties
    → get_or (file_words total head f ++ x) (4112 + 4 * k + 1) 0 ≡ property_offset (places_in total head) f (k + 1)
unfolding property_offset pick
words-offset total head f x b k h =
    let pl = places_in total head in
    let e : k + 1 - 1 ≡ k = omega arith in
    ap (λ (w : List ℕ). get_or (w ++ x) (4112 + 4 * k + 1) 0) (words_table total head f)
    ∙ place_at total head pl f (λ l e. extent_words pl l e) _ x (λ l e. refl) b (from-rows f (scene_of total head f)) k h
    ∙ rw (ne_eqb (k + 1) 0 (λ q. omega arith), e) refl
