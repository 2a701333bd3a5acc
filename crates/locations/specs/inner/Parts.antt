-- The parts in which the code reads an `iloc`, and what each of its functions promises. Nothing here is a rule of the format: that is `iloc_form`.
--   widths_by v a b       the widths of the fields in version v, a and b being the two bytes of field sizes;   GoodWidths w    each is one that the format has
--   sizes-form v         what stands before the entries, behind version and flags;   count-form w    the number of entries
--   entry-by ids w ls    an entry whose fields have the widths w, ls being the entries before it
--   lead-form ids w ls   the same up to its extents;   new-form, rest-form    its parts behind the ID
--   extents_by w s at k   the k extents from `at` on;   row_from start e    the table words of one that counts from `start`
--   Located t n used ls  the table t of n items says which of them have an entry in ls, which has so many extents
use Rattle.std.specs.Prelude.{
  ℕ,
  zero,
  suc,
  ◌+◌,
  ◌*◌,
  ◌/◌,
  ◌%◌,
  ◌<◌,
  ◌≤◌,
  ◌≡◌,
  List,
  [],
  ◌∷◌,
  ◌++◌,
  map,
  Bool,
  true,
  false,
  ◌||◌,
  not,
  ◌⊎◌,
  length,
  get_or,
  drop,
  Result,
  Ok,
  Err,
  leb,
  eqb,
}
use Rattle.std.proofs.lemmas.List.Edits.{sets}
use Rattle.fields.specs.Choice.{pick}
use Rattle.fields.specs.Field.{be_at}
use Rattle.fields.specs.Lists.{member}
use Rattle.boxes.specs.Answer.{Answer, ok, refuse}
use Rattle.boxes.specs.declared.Refusal.{Refusal}
use Rattle.forms.specs.Form.{Form, Got, got, give, demand, field, many, ◌>>=◌, ◌>>◌}
use Rattle.contents.specs.Iloc.{Extent, Location, located_in, extents_in, field_size, index_of, extent_form}
use Rattle.contents.specs.File.{File}
use Rattle.rules.specs.Places.{Places}
use Rattle.rules.specs.Words.{join_all, high_low}
use Rattle.records.specs.inner.Raw.{capped, raw_of}
use Rattle.records.specs.inner.Rows.{id_at, ids_in}
use Rattle.records.specs.inner.Stage.{Kept, Ready, with_locations}
use Rattle.records.specs.inner.Named.{mark_of}
use Rattle.locations.specs.declared.Widths.{Widths}
use Rattle.locations.specs.declared.Rest.{Rest}
use Rattle.locations.specs.declared.Sizes.{Sizes}
use Rattle.locations.specs.declared.RestRead.{RestRead}
use Rattle.locations.specs.declared.EntryRead.{EntryRead}
use Rattle.locations.specs.declared.EntryPut.{EntryPut}
use Rattle.table.specs.declared.ItemRow.{ItemRow}

-- what stands before the entries
abbrev pub widths_by : ℕ → ℕ → ℕ → Widths
widths_by v a b = record {
  id = pick (eqb v 2) 4 2;
  method = pick (eqb v 0) 0 2;
  offset = a / 16;
  length = a % 16;
  base = b / 16;
  index = pick (eqb v 0) 0 (b % 16);
}

abbrev pub Size : ℕ → Type 0
Size n = (n ≡ 0) ⊎ ((n ≡ 4) ⊎ (n ≡ 8))

pub record GoodWidths (w : Widths) : Type 0 where
  pub id : (w.id ≡ 2) ⊎ (w.id ≡ 4)
  pub method : (w.method ≡ 0) ⊎ (w.method ≡ 2)
  pub offset : Size w.offset
  pub length : Size w.length
  pub base : Size w.base
  pub index : Size w.index

pub record Front : Type 0 where
  pub widths : Widths
  pub count : ℕ

unfoldable pub count_form : Widths → Form Front
count_form w = do
  n ← field w.id
  demand 9 (leb n 256)
  give (record { widths = w; count = n })

unfoldable pub sizes_form : ℕ → Form Front
sizes_form v = do
  a ← field 1
  demand 10 (field_size (a / 16))
  demand 10 (field_size (a % 16))
  b ← field 1
  demand 10 (field_size (b / 16))
  demand 10 (eqb v 0 || field_size (b % 16))
  count_form (widths_by v a b)

-- a is what the form answers, on the content s
pub record SizesHere (a : Answer (Got Front)) (s : List ℕ) (w : Widths) (n : ℕ) : Type 0 where
  pub room : 6 + w.id ≤ length s
  pub sized : GoodWidths w
  pub read : a ≡ got (record { widths = w; count = n }) (drop (6 + w.id) s)

abbrev pub SizesAre : Answer (Got Front) → List ℕ → Result Sizes Refusal → Type 0
SizesAre a s (Ok z) = SizesHere a s z.widths z.count
SizesAre a s (Err f) = a ≡ refuse f.number f.place

-- an entry
unfoldable pub entry_by : List ℕ → Widths → List Location → Form Location
entry_by ids w before = do
  id ← field w.id
  demand 10 (not (member id (located_in before)))
  demand 11 (member id ids)
  m ← field w.method
  d ← field 2
  b ← field w.base
  n ← field 2
  demand 9 (leb (extents_in before + n) 512)
  es ← many (extent_form w.index w.offset w.length) n []
  give (record { id = id; method = m % 16; reference = d; base = b; extents = es })

unfoldable pub new_form : List ℕ → List Location → ℕ → Form (Unit {0})
new_form ids before id = demand 10 (not (member id (located_in before))) >> demand 11 (member id ids)

unfoldable pub rest_form : Widths → ℕ → Form Rest
rest_form w used = do
  m ← field w.method
  d ← field 2
  b ← field w.base
  n ← field 2
  demand 9 (leb (used + n) 512)
  give (record { method = m % 16; reference = d; base = b; extents = n })

pub record Lead : Type 0 where
  pub id : ℕ
  pub rest : Rest

unfoldable pub lead_form : List ℕ → Widths → List Location → Form Lead
lead_form ids w before = do
  id ← field w.id
  new_form ids before id
  r ← rest_form w (extents_in before)
  give (record { id = id; rest = r })

-- extents
abbrev pub each : Widths → ℕ
each w = w.index + w.offset + w.length

-- i, o and l are the widths of index, offset and length
abbrev pub extent_at : ℕ → ℕ → ℕ → List ℕ → ℕ → Extent
extent_at i o l s at = record { index = index_of i (be_at s at i); offset = be_at s (at + i) o; size = be_at s (at + i + o) l }

unfoldable pub extents_at : ℕ → ℕ → ℕ → List ℕ → ℕ → ℕ → List Extent
extents_at i o l s at zero = []
extents_at i o l s at (suc k) = extent_at i o l s at ∷ extents_at i o l s (at + (i + o + l)) k

abbrev pub extents_by : Widths → List ℕ → ℕ → ℕ → List Extent
extents_by w s at k = extents_at w.index w.offset w.length s at k

unfoldable pub row_from : ℕ → Extent → List ℕ
row_from start e = high_low (capped (start + e.offset)) ++ high_low e.size

abbrev pub start_of : ℕ → ℕ → ℕ → ℕ
start_of idat method base = pick (eqb method 1) idat 0 + base

-- the words of a record that say where its item lies
abbrev pub place_row : ℕ → Rest → List ℕ
place_row used r = pick (eqb r.extents 0) 0 used ∷ r.extents ∷ r.method ∷ r.reference ∷ 1 ∷ []

-- the table t with the k extents from `at` on and the place of the item in a row
abbrev pub stored_at : Widths → List ℕ → ℕ → List ℕ → ℕ → Rest → ℕ → ℕ → List ℕ
stored_at w s at t row r used idat =
    sets (sets t (9232 + 4 * used) (join_all (row_from (start_of idat r.method r.base))
    (extents_by w s at r.extents))) (16 + 16 * row + 7) (place_row used r)

-- the table while entries are read
pub record Located (t : List ℕ) (n used : ℕ) (ls : List Location) : Type 0 where
  pub count : used ≡ extents_in ls
  pub flags : (k : ℕ) → k < n → get_or t (16 + 16 * k + 11) 0 ≡ pick (member (id_at t k) (located_in ls)) 1 0
  pub listed : (x : ℕ) → member x (located_in ls) ≡ true → member x (ids_in t n) ≡ true

-- the row of an ID that is new
pub record RowHere (t : List ℕ) (n id r : ℕ) : Type 0 where
  pub below : r < n
  pub same : id_at t r ≡ id
  pub new : (used : ℕ) (ls : List Location) → Located t n used ls → member id (located_in ls) ≡ false

abbrev pub RowAre : List ℕ → ℕ → ℕ → ℕ → Result ItemRow Refusal → Type 0
RowAre t n id place (Ok r) = RowHere t n id r.0
RowAre t n id place (Err f) =
    (used : ℕ) (ls : List Location) → Located t n used ls → (r : List ℕ) → (new_form (ids_in t n) ls id).read place r ≡ refuse f.number f.place

-- an entry behind its ID
pub record RestHere (w : Widths) (used place : ℕ) (s : List ℕ) (at : ℕ) (r : Rest) (end : ℕ) : Type 0 where
  pub room : end ≤ length s
  pub few : used + r.extents ≤ 512
  pub read : (rest_form w used).read place (drop at s) ≡ got r (drop end s)

abbrev pub RestAre : Widths → ℕ → ℕ → List ℕ → ℕ → Result RestRead Refusal → Type 0
RestAre w used place s at (Ok x) = RestHere w used place s at x.rest x.at
RestAre w used place s at (Err f) = (rest_form w used).read place (drop at s) ≡ refuse f.number f.place

-- an entry up to its extents
pub record EntryHere (t : List ℕ) (n : ℕ) (w : Widths) (used place : ℕ) (s : List ℕ) (at r : ℕ) (x : Rest) (end : ℕ) : Type 0 where
  pub room : end ≤ length s
  pub few : used + x.extents ≤ 512
  pub below : r < n
  pub new : (ls : List Location) → Located t n used ls → member (id_at t r) (located_in ls) ≡ false
  pub read : (ls : List Location) → Located t n used ls →
      (lead_form (ids_in t n) w ls).read place (drop at s) ≡ got (record { id = id_at t r; rest = x }) (drop end s)

abbrev pub EntryAre : List ℕ → ℕ → Widths → ℕ → ℕ → List ℕ → ℕ → Result EntryRead Refusal → Type 0
EntryAre t n w used place s at (Ok e) = EntryHere t n w used place s at e.row.0 e.rest e.at
EntryAre t n w used place s at (Err f) =
    (ls : List Location) → Located t n used ls → (lead_form (ids_in t n) w ls).read place (drop at s) ≡ refuse f.number f.place

-- its extents and its place, into the table t, which is then u
pub record StoredHere (w : Widths) (s : List ℕ) (at : ℕ) (t u : List ℕ) (r : ℕ) (x : Rest) (used idat end k q : ℕ) : Type 0 where
  pub row : q ≡ r
  pub count : k ≡ x.extents
  pub ends : end ≡ at + x.extents * each w
  pub room : end ≤ length s
  pub stored : u ≡ stored_at w s at t r x used idat

abbrev pub StoredAre : Widths → List ℕ → ℕ → ℕ → List ℕ → List ℕ → ℕ → Rest → ℕ → ℕ → Result EntryPut Refusal → Type 0
StoredAre w s at place t u r x used idat (Ok e) = StoredHere w s at t u r x used idat e.end e.extents e.row.0
StoredAre w s at place t u r x used idat (Err f) = (u ≡ t) × (f.number ≡ 8) × (f.place ≡ place) × (length s < at + x.extents * each w)

-- the marks of the extents es of an entry, of method 2 or not, in v, which is then y
abbrev pub marked_at : ℕ → Bool → List Extent → List ℕ → List ℕ
marked_at used made es v = sets v (2304 + used) (pick made (map (λ (e : Extent). mark_of e.index) es) [])

abbrev pub MarkedAre : ℕ → Bool → List Extent → List ℕ → List ℕ → Result EntryPut Refusal → Type 0
MarkedAre used made es v y (Ok e) = y ≡ marked_at used made es v
MarkedAre used made es v y (Err f) = y ≡ v

-- an entry, into the table t, which is then u, and its marks into v, which is then y
pub record PutHere (t u v y : List ℕ) (n : ℕ) (w : Widths) (used place : ℕ) (s : List ℕ) (at idat end k r : ℕ) : Type 0 where
  pub room : end ≤ length s
  pub few : used + k ≤ 512
  pub below : r < n
  pub location : Location
  pub id : id_at t r ≡ location.id
  pub count : length location.extents ≡ k
  pub stored : u
      ≡ sets
      (sets t (9232 + 4 * used) (join_all (row_from (start_of idat location.method location.base)) location.extents))
      (16 + 16 * r + 7)
      (pick (eqb k 0) 0 used ∷ k ∷ location.method ∷ location.reference ∷ 1 ∷ [])
  pub marked : y ≡ marked_at used (eqb location.method 2) location.extents v
  pub new : (ls : List Location) → Located t n used ls → member location.id (located_in ls) ≡ false
  pub read : (ls : List Location) → Located t n used ls → (entry_by (ids_in t n) w ls).read place (drop at s) ≡ got location (drop end s)

abbrev pub PutAre : List ℕ → List ℕ → List ℕ → List ℕ → ℕ → Widths → ℕ → ℕ → List ℕ → ℕ → ℕ → Result EntryPut Refusal → Type 0
PutAre t u v y n w used place s at idat (Ok e) = PutHere t u v y n w used place s at idat e.end e.extents e.row.0
PutAre t u v y n w used place s at idat (Err f) =
    (u ≡ t) × (y ≡ v) × ((ls : List Location) → Located t n used ls → (entry_by (ids_in t n) w ls).read place (drop at s) ≡ refuse f.number f.place)

-- all entries, a being what their form answers
pub record EntriesLeft (a : Answer (List Location)) (n idat : ℕ) (t u : List ℕ) : Type 0 where
  pub kept : Kept t u
  pub told : (pl : Places) (f : File) (x : List ℕ) (ls : List Location) → pl.idat ≡ idat → Ready f n →
      f.locations ≡ [] → a ≡ ok ls → t ≡ raw_of [] pl f ++ x → u ≡ raw_of [] pl (with_locations f ls) ++ x
