-- The table while a file is read: like the words of an accepted file, but for what later rules still need, which stands where the sizes will be.
--   unread, add_item, ..  a file as far as it is read;   Bounded    it keeps the limits
--   named_words, derived_words, place_words    what the lists read so far say of an ID, as words of its record
-- record_of i a t l     an item's record: ID, type, hidden; first association and count; first target and count; first
-- extent, count, method, data reference, 1 if `iloc` has an entry; protection index
--   raw_of hw pl f        the table of the file f as far as it is read, hw being its first words
use Rattle.std.specs.Prelude.{ℕ, ◌≤◌, List, [], ◌∷◌, ◌++◌, map, length, leb}
use Rattle.fields.specs.Choice.{pick}
use Rattle.fields.specs.Lists.{member}
use Rattle.contents.specs.Iinf.{Item}
use Rattle.contents.specs.Iloc.{Extent, Location, located_in, extents_in}
use Rattle.contents.specs.Ipma.{Association, IpmaEntry, associations_in}
use Rattle.contents.specs.Iref.{Reference, targets_in}
use Rattle.contents.specs.File.{File}
use Rattle.rules.specs.Joined.{located_at, named_for, referred_from}
use Rattle.rules.specs.Places.{Places, file_offset}
use Rattle.rules.specs.Words.{join_all, region, high_low, span, named_groups, derived_groups, located_groups, properties_from, association_word}

-- a file of which nothing is read yet, and one more of each list
abbrev pub unread : File
unread = record { primary = 0; items = []; locations = []; properties = []; associations = []; derivations = []; links = []; idat = [] }

abbrev pub add_item : File → Item → File
add_item f i = record {
  primary = f.primary;
  items = f.items ++ (i ∷ []);
  locations = f.locations;
  properties =
      f.properties;
  associations = f.associations;
  derivations = f.derivations;
  links = f.links;
  idat = f.idat;
}

abbrev pub add_location : File → Location → File
add_location f l = record {
  primary = f.primary;
  items = f.items;
  locations = f.locations ++ (l ∷ []);
  properties =
      f.properties;
  associations = f.associations;
  derivations = f.derivations;
  links = f.links;
  idat = f.idat;
}

abbrev pub add_property : File → List ℕ → File
add_property f b = record {
  primary = f.primary;
  items = f.items;
  locations = f.locations;
  properties =
      f.properties ++ (b ∷ []);
  associations = f.associations;
  derivations = f.derivations;
  links = f.links;
  idat = f.idat;
}

abbrev pub add_named : File → IpmaEntry → File
add_named f n = record {
  primary = f.primary;
  items = f.items;
  locations = f.locations;
  properties = f.properties;
  associations = f.associations ++ (n ∷ []);
  derivations = f.derivations;
  links = f.links;
  idat = f.idat;
}

abbrev pub add_derivation : File → Reference → File
add_derivation f d = record {
  primary = f.primary;
  items = f.items;
  locations = f.locations;
  properties =
      f.properties;
  associations = f.associations;
  derivations = f.derivations ++ (d ∷ []);
  links = f.links;
  idat = f.idat;
}

-- within the limits of document 01
pub record Bounded (f : File) : Type 0 where
  pub few-items : length f.items ≤ 256
  pub few-extents : extents_in f.locations ≤ 512
  pub few-properties : length f.properties ≤ 256
  pub few-associations : associations_in f.associations ≤ 2048
  pub few-targets : targets_in f.derivations ≤ 2048

unfoldable pub named_words : List IpmaEntry → ℕ → List ℕ
named_words ns id = span id (named_groups ns) (length (named_for ns id))

unfoldable pub derived_words : List Reference → ℕ → List ℕ
derived_words ds id = span id (derived_groups ds) (length (referred_from ds id))

unfoldable pub place_words : List Location → ℕ → List ℕ
place_words ls id =
    span id (located_groups ls) (length (located_at ls id).extents)
    ++ ((located_at ls id).method ∷ (located_at ls id).reference ∷ pick (member id (located_in ls)) 1 0 ∷ [])

unfoldable pub record_of : Item → List ℕ → List ℕ → List ℕ → List ℕ
record_of i a t l = (i.id ∷ i.type ∷ i.hidden ∷ []) ++ (a ++ (t ++ (l ++ (i.protection ∷ 0 ∷ 0 ∷ 0 ∷ []))))

-- the records of the items, by what is said of each ID
unfoldable pub records_by : (ℕ → List ℕ) → (ℕ → List ℕ) → (ℕ → List ℕ) → List Item → List ℕ
records_by a t l is = join_all (λ (i : Item). record_of i (a i.id) (t i.id) (l i.id)) is

-- an offset that passes 64 bits is kept as the largest that does not: every extent of it is 14 all the same
abbrev pub capped : ℕ → ℕ
capped x = pick (leb x 18446744073709551615) x 18446744073709551615

unfoldable pub extent_row : Places → Location → Extent → List ℕ
extent_row pl l e = high_low (capped (file_offset pl l e)) ++ high_low e.size

unfoldable pub extent_rows : Places → List Location → List ℕ
extent_rows pl ls = join_all (λ (l : Location). join_all (λ (e : Extent). extent_row pl l e) l.extents) ls

unfoldable pub association_rows : List IpmaEntry → List ℕ
association_rows ns = join_all (λ (n : IpmaEntry). map (λ (a : Association). association_word a) n.list) ns

unfoldable pub target_rows : List Reference → List ℕ
target_rows ds = join_all (λ (d : Reference). d.targets) ds

unfoldable pub raw_of : List ℕ → Places → File → List ℕ
raw_of hw pl f =
    region 16 hw
    ++ (region 4096 (records_by (named_words f.associations) (derived_words f.derivations) (place_words f.locations) f.items)
    ++ (region 1024 (properties_from pl.properties f.properties)
    ++ (region 2048 (association_rows f.associations)
    ++ (region 2048 (target_rows f.derivations)
    ++ region 2048 (extent_rows pl f.locations)))))
