-- What an item's joined bytes are, in words: document 02, Q-7.
--   Reads byte n bs          bs are n bytes, the one at each place as `byte` gives it
--   Joins from base es bs    bs are the parts of the extents es, one after the other and nothing else, each from its own source
--   ItsBytes .. id bs        bs are the bytes of the item id;   ItsBody .. id bs    at most 16,402 of them
-- That `bytes_upto` and `body_of` (Bytes) give just these: crates/rules/proofs/ByteLaws.antt, `bytes-joined`, `body-joined`.
use Rattle.std.specs.Prelude.{ℕ, ◌+◌, ◌≤◌, ◌<◌, ◌≡◌, List, [], ◌∷◌, ◌++◌, length, get_or}
use Rattle.boxes.specs.Answer.{Answer, ok}
use Rattle.contents.specs.Iloc.{Extent}
use Rattle.contents.specs.File.{File}
use Rattle.rules.specs.Joined.{location_of}
use Rattle.rules.specs.Bytes.{length_of, Source, source_of, byte_of}

pub record Reads (byte : ℕ → Answer ℕ) (n : ℕ) (bs : List ℕ) : Type 0 where
  pub long : length bs ≡ n
  pub each : (i : ℕ) → i < n → byte i ≡ ok (get_or bs i 0)

-- the part of an extent: as many bytes as its length says, of its source, from base plus offset on
unfoldable pub Joins : (Extent → Source) → ℕ → List Extent → List ℕ → Type 0
Joins from base [] bs = bs ≡ []
Joins from base (e ∷ es) bs =
    (part : List ℕ) × (rest : List ℕ) × (bs ≡ part ++ rest) × Reads (λ i. (from e).byte (base + e.offset + i)) e.size part × Joins from base es rest

module _ (total : ℕ) (head : List ℕ) (f : File) where
  -- "An item's bytes may be made of another item's bytes": the source of an extent of method 2 is what the named item's own bytes are
  abbrev pub ItsBytes : ℕ → List ℕ → Type 0
  ItsBytes id bs = Joins (source_of total head f (byte_of total head f 8) id) (location_of f id).base (location_of f id).extents bs

  -- "Derivation bodies may have several extents, joined, each byte in the head"; "at most 16,402 bytes"
  pub record ItsBody (id : ℕ) (bs : List ℕ) : Type 0 where
    pub few : length_of f id ≤ 16402
    pub joined : ItsBytes id bs
