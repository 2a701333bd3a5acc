-- Where reading is refused: document 01, "Refusal numbers", the column "Place" of 2 to 11. It speaks of bytes and boxes,
-- not of reading: a box begins at a place that whole boxes lead to, on the top level or inside boxes that are read into.
--   zero_placed, box_placed          the numbers whose place is 0, and those whose place is a box
--   Begins P s at t p              s, which begins at `at`, is boxes, P of each, and then t, which begins at p
--   Passed b                       b is a box, and no `meta`
--   Opens outer kind fields        a box of type `kind`, in one of type `outer`, is read into: these fields, then boxes
--   Content total head kind at s   s, which begins at `at` in the head, is what a box of type `kind` holds behind its
--                                  fields: the first `meta`, or a box that is read into
--   BoxAt total head p             a box begins at p in the head
use Rattle.std.specs.Prelude.{ℕ, ◌+◌, ◌≤◌, ◌≡◌, List, [], ◌∷◌, ◌++◌, length}
use Rattle.fields.specs.Field.{be_at}
use Rattle.fields.specs.Lists.{All}
use Rattle.boxes.specs.Types.{meta, iinf, iprp, ipco, iref}
use Rattle.boxes.specs.Box.{head_of, kind_of, body_of, IsBox, flat}
use Rattle.boxes.specs.Top.{FirstMeta}

-- the table's rows 2, 4 and 5: "0"
abbrev pub zero_placed : List ℕ
zero_placed = 2 ∷ 4 ∷ 5 ∷ []

-- the table's rows 3 and 6 to 11: "box"; of 7: "container if missing, else second box"
abbrev pub box_placed : List ℕ
box_placed = 3 ∷ 6 ∷ 7 ∷ 8 ∷ 9 ∷ 10 ∷ 11 ∷ []

-- boxes stand one after another: what begins at p has whole boxes, and nothing else, before it
pub record Begins (P : List ℕ → Type 0) (s : List ℕ) (at : ℕ) (t : List ℕ) (p : ℕ) : Type 0 where
  pub before : List (List ℕ)
  pub all : All P before
  pub joined : flat before ++ t ≡ s
  pub where_it_is : p ≡ at + length (flat before)

-- "Walk on to the first `meta`": a box that is walked past
pub record Passed (b : List ℕ) : Type 0 where
  pub box : IsBox b
  pub other : kind_of b ≡ meta → ⊥

pub data Opens : ℕ → ℕ → List ℕ → Type 0 where
  -- "`iinf` version 0 (16-bit count) or 1 (32-bit), then exactly that many `infe`": version, flags, count
  iinf-zero : {fields : List ℕ} → be_at fields 0 1 ≡ 0 → length fields ≡ 6 → Opens meta iinf fields
  iinf-one : {fields : List ℕ} → be_at fields 0 1 ≡ 1 → length fields ≡ 8 → Opens meta iinf fields
  -- "`iprp` is exactly `ipco` then one `ipma`": no fields
  of_iprp : Opens meta iprp []
  -- "Every box in `ipco` takes an index from 1": no fields
  of_ipco : Opens iprp ipco []
  -- "`iref` version 0 or 1": version, flags, then the references
  of_iref : {fields : List ℕ} → be_at fields 0 1 ≤ 1 → length fields ≡ 4 → Opens meta iref fields

pub data Content (total : ℕ) (head : List ℕ) : ℕ → ℕ → List ℕ → Type 0 where
  -- "`meta` version 0"; "Then the version of `meta`; all its children": version, flags, then boxes
  of_meta : {m s : List ℕ} {place : ℕ} (fields : List ℕ) → FirstMeta total head m place → fields ++ s ≡ body_of m →
      be_at fields 0 1 ≡ 0 → length fields ≡ 4 → Content total head meta (place + head_of m + length fields) s
  -- "then the contents of .. `iinf`, .. `iprp`, `iref`": of a box b at p among such boxes
  of_box : {outer at p : ℕ} {t s fields : List ℕ} (b behind : List ℕ) → Content total head outer at t →
      Begins IsBox t at (b ++ behind) p → IsBox b → fields ++ s ≡ body_of b → Opens outer (kind_of b) fields →
      Content total head (kind_of b) (p + head_of b + length fields) s

-- "the offset in the head of the innermost box concerned": size and type, 8 bytes, stand at p, either on the top level,
-- "from offset 0" up to the first `meta`, or in a content that is read
pub data BoxAt (total : ℕ) (head : List ℕ) (p : ℕ) : Type 0 where
  at_top : (t : List ℕ) → Begins Passed head 0 t p → 8 ≤ length t → BoxAt total head p
  inside : {kind at : ℕ} {s : List ℕ} (t : List ℕ) → Content total head kind at s → Begins IsBox s at t p →
      8 ≤ length t →
      BoxAt total head p
