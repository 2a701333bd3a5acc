-- `iloc`: where the bytes of the items lie.
--   Extent, Location         an extent and an entry, as they are written;   located_in ls    the IDs of the entries
--   iloc-form ids            the entries, ids being the items that are listed
use Rattle.std.specs.Prelude.{ℕ, ◌+◌, ◌/◌, ◌%◌, List, [], ◌∷◌, map, Bool, ◌||◌, not, length, leb, eqb}
use Rattle.fields.specs.Choice.{pick}
use Rattle.fields.specs.Lists.{member}
use Rattle.forms.specs.Form.{Form, give, demand, field, many, ◌>>=◌, ◌>>◌}
use Rattle.contents.specs.Full.{full, upto}

-- the index is read from version 1 on; only method 2 uses it
pub record Extent : Type 0 where
  pub index : ℕ
  pub offset : ℕ
  pub size : ℕ

pub record Location : Type 0 where
  pub id : ℕ
  pub method : ℕ
  pub reference : ℕ
  pub base : ℕ
  pub extents : List Extent

abbrev pub located_in : List Location → List ℕ
located_in ls = map (λ (l : Location). l.id) ls

unfoldable pub extents_in : List Location → ℕ
extents_in [] = 0
extents_in (l ∷ ls) = length l.extents + extents_in ls

-- "four 4-bit field sizes, each 0, 4 or 8"
abbrev pub field_size : ℕ → Bool
field_size n = eqb n 0 || (eqb n 4 || eqb n 8)

-- Q-7: "extent index .. from 1, index 1 when the field is absent"; 0 that is written stays 0
abbrev pub index_of : ℕ → ℕ → ℕ
index_of ix i = pick (eqb ix 0) 1 i

unfoldable pub extent_form : ℕ → ℕ → ℕ → List Extent → Form Extent
extent_form ix os ls before = do
  i ← field ix
  o ← field os
  n ← field ls
  give (record { index = index_of ix i; offset = o; size = n })

-- v the version; then the sizes of offset, length, base and index. A field of no bytes is 0: "construction method (low 4 of 16 bits) from version 1".
-- "A repeated ID is 10"; "Every ID in `iloc` .. must be listed, else 11"; "512 extents"
unfoldable pub entry_form : List ℕ → ℕ → ℕ → ℕ → ℕ → ℕ → List Location → Form Location
entry_form ids v os ls bs ix before = do
  id ← field (pick (eqb v 2) 4 2)
  demand 10 (not (member id (located_in before)))
  demand 11 (member id ids)
  m ← field (pick (eqb v 0) 0 2)
  d ← field 2
  b ← field bs
  n ← field 2
  demand 9 (leb (extents_in before + n) 512)
  es ← many (extent_form ix os ls) n []
  give (record { id = id; method = m % 16; reference = d; base = b; extents = es })

-- "version 0, 1, 2: four 4-bit field sizes, each 0, 4 or 8 (index size only from version 1), else 10; 16-bit item count
-- and IDs, 32-bit in version 2"; "The first [limit, 256] holds for `iloc` .. counts too"
unfoldable pub iloc_form : List ℕ → Form (List Location)
iloc_form ids = do
  h ← full (upto 2)
  a ← field 1
  demand 10 (field_size (a / 16))
  demand 10 (field_size (a % 16))
  b ← field 1
  demand 10 (field_size (b / 16))
  demand 10 (eqb h.version 0 || field_size (b % 16))
  n ← field (pick (eqb h.version 2) 4 2)
  demand 9 (leb n 256)
  many (entry_form ids h.version (a / 16) (a % 16) (b / 16) (pick (eqb h.version 0) 0 (b % 16))) n []
