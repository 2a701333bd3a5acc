-- `ipma`: the associations of properties to items.
--   Association, IpmaEntry          one, and an item's
--   ipma-form ids most          the entries, ids being the items that are listed and `most` how many properties there are
use Rattle.std.specs.Prelude.{ℕ, ◌+◌, ◌%◌, List, [], ◌∷◌, Bool, true, ◌&&◌, not, length, leb, ltb, eqb}
use Rattle.fields.specs.Choice.{pick}
use Rattle.fields.specs.Lists.{member}
use Rattle.forms.specs.Form.{Form, give, demand, field, many, ◌>>=◌, ◌>>◌}
use Rattle.contents.specs.Full.{full, upto, id_bytes}

pub record Association : Type 0 where
  pub essential : Bool
  pub index : ℕ

pub record IpmaEntry : Type 0 where
  pub id : ℕ
  pub list : List Association

unfoldable pub associations_in : List IpmaEntry → ℕ
associations_in [] = 0
associations_in (n ∷ ns) = length n.list + associations_in ns

-- "IDs strictly rising": x is above the ID of the last entry
abbrev pub rises : ℕ → List IpmaEntry → Bool
rises x [] = true
rises x (n ∷ []) = ltb n.id x
rises x (n ∷ m ∷ ns) = rises x (m ∷ ns)

-- where the essential mark stands in a word of 1 or 2 bytes
abbrev pub mark_of : ℕ → ℕ
mark_of bytes = pick (eqb bytes 2) 32768 128

-- "flag bit 0: 15-bit indices, else 7"; "unlisted .. property" (11); "Index 0 names nothing; marked essential it is 11."
unfoldable pub association_form : ℕ → ℕ → List Association → Form Association
association_form bytes most before = do
  a ← field bytes
  demand 11 (leb (a % mark_of bytes) most && not (leb (mark_of bytes) a && eqb (a % mark_of bytes) 0))
  give (record { essential = leb (mark_of bytes) a; index = a % mark_of bytes })

-- "IDs strictly rising, else 10, before 11"; "Every ID in .. `ipma` .. must be listed, else 11"; "2,048 associations"
unfoldable pub ipma_entry_form : List ℕ → ℕ → ℕ → ℕ → List IpmaEntry → Form IpmaEntry
ipma_entry_form ids most v bytes before = do
  id ← field (id_bytes v)
  demand 10 (rises id before)
  demand 11 (member id ids)
  n ← field 1
  demand 9 (leb (associations_in before + n) 2048)
  l ← many (association_form bytes most) n []
  give (record { id = id; list = l })

-- "`ipma` version 0 or 1 (16- or 32-bit IDs)"; "The first [limit, 256] holds for .. `ipma` counts too"
unfoldable pub ipma_form : List ℕ → ℕ → Form (List IpmaEntry)
ipma_form ids most = do
  h ← full (upto 1)
  n ← field 4
  demand 9 (leb n 256)
  many (ipma_entry_form ids most h.version (pick (eqb (h.flags % 2) 1) 2 1)) n []
