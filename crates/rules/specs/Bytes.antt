-- Where an item's bytes lie: what 13, 30 and 14 judge, and what a derivation's body is (document 01, and document 02, Q-7).
--   good_method, good_lengths    13
--   named f id e           the item that an extent of the item id names
--   chained n f id       following its links comes to an end within n: 30 where `chained 8` fails
--   length_of f id              how long an item is;   names_past n f id    it names one that is 2^64 long or longer: 14
--   Source, source_of .. id e   what an extent counts from: how long it is, and its bytes by position;   within    14
--   byte_of .. n id p           the byte at the position p of an item;   bytes_upto .. id n    its first n bytes
--   body_of .. id               an item's joined body; 17 where it is too long or a byte is not in the head
-- In words: Links (30, and 14 at any depth), Bodies (the bytes of several extents).
use Rattle.std.specs.Prelude.{ℕ, zero, suc, ◌+◌, ◌-◌, List, [], ◌∷◌, ◌++◌, Bool, true, false, ◌&&◌, ◌||◌, not, length, get_or, leb, ltb, eqb}
use Rattle.fields.specs.Choice.{pick}
use Rattle.boxes.specs.Answer.{Answer, ok, refuse, check, ◌>>=◌, ◌>>◌}
use Rattle.contents.specs.Iloc.{Extent, Location}
use Rattle.contents.specs.File.{File}
use Rattle.rules.specs.Joined.{location_of, links_of}

unfoldable pub all_extents : (Extent → Bool) → List Extent → Bool
all_extents t [] = true
all_extents t (e ∷ es) = t e && all_extents t es

-- "construction method not 0 or 1, data reference not 0, or extent length 0" (13); Q-7: "13 no longer covers method 2"
abbrev pub good_method : Location → Bool
good_method l = leb l.method 2 && eqb l.reference 0

abbrev pub good_lengths : Location → Bool
good_lengths l = all_extents (λ e. not (eqb e.size 0)) l.extents

-- "extent index picks the item's `iloc` reference, from 1": the ID that it names, if there is one. (Index 1 where the field is absent:
-- Iloc's extent-form.)
unfoldable pub named : File → ℕ → Extent → Answer ℕ
named f id e =
    pick (ltb 0 e.index && leb e.index (length (links_of f id))) (ok (get_or (links_of f id) (e.index - 1) 0)) (refuse 30 id)

-- a test of the item that is named; none is named: not passed
abbrev pub of_named : (ℕ → Bool) → Answer ℕ → Bool
of_named test (ok id) = test id
of_named test (refuse n p) = false

abbrev pub made_of_items : File → ℕ → Bool
made_of_items f id = eqb (location_of f id).method 2

-- "An item's bytes may be made of another item's bytes, up to 8 deep, counting methods 0 and 1 as 0"; "30, an `iloc` chain that returns to
-- itself, is deeper than 8 or at any link has no such reference". An item of method 2 without extents counts 1.
unfoldable pub chained : ℕ → File → ℕ → Bool
chained zero f id = not (made_of_items f id)
chained (suc n) f id =
    not (made_of_items f id) || all_extents (λ (e : Extent). of_named (λ j. chained n f j) (named f id e)) (location_of f id).extents

-- "The length of a named item is the sum of its extents' lengths, even if that item has faults of its own."
unfoldable pub sizes_of : List Extent → ℕ
sizes_of [] = 0
sizes_of (e ∷ es) = e.size + sizes_of es

abbrev pub length_of : File → ℕ → ℕ
length_of f id = sizes_of (location_of f id).extents

-- "an item that names, at any depth, one whose lengths sum past 64 bits is 14"
abbrev pub sums_past : File → ℕ → Bool
sums_past f id = leb 18446744073709551616 (length_of f id)

unfoldable pub names_past : ℕ → File → ℕ → Bool
names_past zero f id = false
names_past (suc n) f id =
    made_of_items f id
    && not (all_extents (λ (e : Extent). not (of_named (λ j. sums_past f j || names_past n f j) (named f id e))) (location_of f id).extents)

-- the bytes that an extent counts from: how many there are, and each by its position, refused where the head does not hold it
pub record Source : Type 0 where
  pub size : ℕ
  pub byte : ℕ → Answer ℕ

unfoldable pub known : List ℕ → ℕ → Answer ℕ
known s p = pick (ltb p (length s)) (ok (get_or s p 0)) (refuse 17 0)

-- "joined": the byte at a position of extents one after the other, each counting from its own source
unfoldable pub byte_in : (Extent → Source) → ℕ → List Extent → ℕ → Answer ℕ
byte_in from base [] p = refuse 17 0
byte_in from base (e ∷ es) p = pick (ltb p e.size) ((from e).byte (base + e.offset + p)) (byte_in from base es (p - e.size))

module _ (total : ℕ) (head : List ℕ) (f : File) where
  -- "Method 0 counts from the file's start, method 1 from the content of `idat`"
  abbrev pub file_source : ℕ → Source
  file_source id =
      pick (eqb (location_of f id).method 1) (record { size = length f.idat; byte = known f.idat }) (record { size = total; byte = known head })

  -- an item that is named, its bytes by position; nothing where none is named
  unfoldable pub named_source : (ℕ → ℕ → Answer ℕ) → Answer ℕ → Source
  named_source byte (ok id) = record { size = length_of f id; byte = byte id }
  named_source byte (refuse n p) = record { size = 0; byte = λ q. refuse 17 0 }

  -- what an extent of the item id counts from, `byte` being the bytes of the items that it may name
  unfoldable pub source_of : (ℕ → ℕ → Answer ℕ) → ℕ → Extent → Source
  source_of byte id e = pick (made_of_items f id) (named_source byte (named f id e)) (file_source id)

  -- the byte at a position of an item, n links being left: none is followed where there are none
  unfoldable pub byte_of : ℕ → ℕ → ℕ → Answer ℕ
  byte_of zero id p = byte_in (source_of (λ j q. refuse 17 0) id) (location_of f id).base (location_of f id).extents p
  byte_of (suc n) id p = byte_in (source_of (λ j q. byte_of n j q) id) (location_of f id).base (location_of f id).extents p

  -- "extent past its source" (14); "Base plus offset plus length past 64 bits is 14": the sum is not bounded here, and no source is
  -- that long
  abbrev pub within : ℕ → Bool
  within id =
      all_extents (λ (e : Extent). leb ((location_of f id).base + e.offset + e.size) (source_of (byte_of 8) id e).size) (location_of f id).extents

  -- the first n bytes of an item, refused where one of them is not in the head
  unfoldable pub bytes_upto : ℕ → ℕ → Answer (List ℕ)
  bytes_upto id zero = ok []
  bytes_upto id (suc n) = do
    bs ← bytes_upto id n
    b ← byte_of 8 id n
    ok (bs ++ (b ∷ []))

  -- "Derivation bodies may have several extents, joined, each byte in the head"; "at most 16,402 bytes"
  abbrev pub body_of : ℕ → Answer (List ℕ)
  body_of id = check 17 id (leb (length_of f id) 16402) >> bytes_upto id (length_of f id)
