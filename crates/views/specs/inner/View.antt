-- A table seen as a file: what code that reads the table may rely on, while the file is judged and afterwards.
--   Sound head pl f       what reading has made sure of: each name leads somewhere, each property has the length of its type, `idat` lies in the head
--   TableOf t head pl f   every word of the table t that speaks of items, properties, associations, targets and extents is the file f's
--   Judging t f           besides, the words that only judging needs, which stand where the sizes will be
--   SizesAre t s          the words of an accepted file's table that say sizes and depths
--   AllPlaced, AllFed     every item keeps 13 and 14; every item keeps 17
--   id_of f r              the ID in row r
use Rattle.std.specs.Prelude.{ℕ, ◌+◌, ◌*◌, ◌≤◌, ◌<◌, ◌≡◌, List, [], true, length, get_or, take, drop}
use Rattle.fields.specs.Lists.{member}
use Rattle.boxes.specs.Answer.{ok}
use Rattle.boxes.specs.Box.{kind_of, body_of}
use Rattle.contents.specs.Iinf.{ids_of}
use Rattle.contents.specs.Ipco.{GoodContent}
use Rattle.contents.specs.Iref.{targets_in}
use Rattle.contents.specs.File.{File}
use Rattle.pictures.specs.Scene.{Scene, picture_at, output_of}
use Rattle.pictures.specs.Depth.{depth}
use Rattle.rules.specs.Joined.{item_at, location_of, associations_of, targets_of, links_of, no_extent, no_association}
use Rattle.rules.specs.Places.{Places, file_offset}
use Rattle.rules.specs.Words.{association_word}
use Rattle.rules.specs.Rules.{rule13-30-14, rule17}
use Rattle.records.specs.inner.Raw.{Bounded, capped}
use Rattle.records.specs.inner.Rows.{Distinct}
use Rattle.records.specs.inner.Named.{extents_begin}

abbrev pub id_of : File → ℕ → ℕ
id_of f r = (item_at f r).id

-- the word k of the record in row r
abbrev pub record_word : List ℕ → ℕ → ℕ → ℕ
record_word t r k = get_or t (16 + 16 * r + k) 0

-- a 64-bit number in two words
abbrev pub wide : List ℕ → ℕ → ℕ
wide t k = get_or t k 0 * 4294967296 + get_or t (k + 1) 0

pub record Sound (head : List ℕ) (pl : Places) (f : File) : Type 0 where
  pub indexed : (id j : ℕ) → j < length (associations_of f id) → (get_or (associations_of f id) j no_association).index ≤ length f.properties
  pub held : (k : ℕ) → k < length f.properties → GoodContent (kind_of (get_or f.properties k [])) (body_of (get_or f.properties k []))
  pub listed : (id j : ℕ) → j < length (targets_of f id) → member (get_or (targets_of f id) j 0) (ids_of f.items) ≡ true
  pub linked : (id j : ℕ) → j < length (links_of f id) → member (get_or (links_of f id) j 0) (ids_of f.items) ≡ true
  pub idat-room : pl.idat + length f.idat ≤ length head
  pub idat-part : take (length f.idat) (drop pl.idat head) ≡ f.idat

pub record TableOf (t head : List ℕ) (pl : Places) (f : File) : Type 0 where
  pub enough : 11280 ≤ length t
  pub items : get_or t 0 0 ≡ length f.items
  pub properties : get_or t 1 0 ≡ length f.properties
  pub targets : get_or t 3 0 ≡ targets_in f.derivations
  pub primary : get_or t 5 0 ≡ f.primary
  pub bounded : Bounded f
  pub distinct : Distinct (ids_of f.items)
  pub sound : Sound head pl f
  pub id : (r : ℕ) → r < length f.items → record_word t r 0 ≡ id_of f r
  pub type : (r : ℕ) → r < length f.items → record_word t r 1 ≡ (item_at f r).type
  pub hidden : (r : ℕ) → r < length f.items → record_word t r 2 ≡ (item_at f r).hidden
  pub named-room : (r : ℕ) → r < length f.items → record_word t r 3 + length (associations_of f (id_of f r)) ≤ 2048
  pub named_count : (r : ℕ) → r < length f.items → record_word t r 4 ≡ length (associations_of f (id_of f r))
  pub named : (r j : ℕ) → r < length f.items → j < length (associations_of f (id_of f r)) →
      get_or t (5136 + (record_word t r 3 + j)) 0 ≡ association_word (get_or (associations_of f (id_of f r)) j no_association)
  pub target_room : (r : ℕ) → r < length f.items → record_word t r 5 + length (targets_of f (id_of f r)) ≤ targets_in f.derivations
  pub target-count : (r : ℕ) → r < length f.items → record_word t r 6 ≡ length (targets_of f (id_of f r))
  pub target : (r j : ℕ) → r < length f.items → j < length (targets_of f (id_of f r)) →
      get_or t (7184 + (record_word t r 5 + j)) 0 ≡ get_or (targets_of f (id_of f r)) j 0
  pub extent-room : (r : ℕ) → r < length f.items → record_word t r 7 + length (location_of f (id_of f r)).extents ≤ 512
  pub extent-first : (r : ℕ) → r < length f.items → 0 < length (location_of f (id_of f r)).extents →
      record_word t r 7 ≡ extents_begin f.locations (id_of f r)
  pub extent-count : (r : ℕ) → r < length f.items → record_word t r 8 ≡ length (location_of f (id_of f r)).extents
  pub extent-size : (r j : ℕ) → r < length f.items → j < length (location_of f (id_of f r)).extents →
      wide t (9232 + 4 * (record_word t r 7 + j) + 2) ≡ (get_or (location_of f (id_of f r)).extents j no_extent).size
  pub extent-offset : (r j : ℕ) → r < length f.items → j < length (location_of f (id_of f r)).extents →
      wide t (9232 + 4 * (record_word t r 7 + j)) ≡ capped
      (file_offset pl (location_of f (id_of f r)) (get_or (location_of f (id_of f r)).extents j no_extent))
  pub method : (r : ℕ) → r < length f.items → record_word t r 9 ≡ (location_of f (id_of f r)).method
  pub property-kind : (k : ℕ) → k < length f.properties → get_or t (4112 + 4 * k) 0 ≡ kind_of (get_or f.properties k [])
  pub property-room : (k : ℕ) → k < length f.properties → get_or t (4112 + 4 * k + 1) 0 + get_or t (4112 + 4 * k + 2) 0 ≤ length head
  pub property-part : (k : ℕ) → k < length f.properties → take (get_or t (4112 + 4 * k + 2) 0)
      (drop (get_or t (4112 + 4 * k + 1) 0) head) ≡ get_or f.properties k []

pub record Judging (t : List ℕ) (f : File) : Type 0 where
  pub reference : (r : ℕ) → r < length f.items → record_word t r 10 ≡ (location_of f (id_of f r)).reference
  pub protection : (r : ℕ) → r < length f.items → record_word t r 12 ≡ (item_at f r).protection

-- "reconstructed width, height, output width, height, depth"; all 0 for an opaque item, which the scene has as a picture of no size
pub record SizesAre (t : List ℕ) (s : Scene) : Type 0 where
  pub few : length s ≤ 256
  pub wide : (r : ℕ) → r < length s → record_word t r 10 ≡ (picture_at s r).declared.wide
  pub high : (r : ℕ) → r < length s → record_word t r 11 ≡ (picture_at s r).declared.high
  pub output-wide : (r : ℕ) → r < length s → record_word t r 12 ≡ (output_of (picture_at s r)).wide
  pub output-high : (r : ℕ) → r < length s → record_word t r 13 ≡ (output_of (picture_at s r)).high
  pub depths : (r : ℕ) → r < length s → record_word t r 14 ≡ depth s r

abbrev pub AllPlaced : ℕ → List ℕ → File → Type 0
AllPlaced total head f = (r : ℕ) → r < length f.items → rule13-30-14 total head f (item_at f r) ≡ ok tt

abbrev pub AllFed : ℕ → List ℕ → File → Type 0
AllFed total head f = (r : ℕ) → r < length f.items → rule17 total head f (item_at f r) ≡ ok tt
