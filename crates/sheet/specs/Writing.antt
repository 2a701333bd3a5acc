-- A small writer: the whole files that the sheet's lines speak of, after document 01, "Boxes". From the definitions it takes the letters of
-- the types and `flat` (one after another), nothing that reads: a line of the sheet holds only if what is written here is read there.
--   bytes n v              the number v in n bytes, the most significant first
--   box kind parts         a box whose content is the parts, one after another;   versioned kind v parts    one that leads with version v and flags 0
--   Entry                  an item as it is to be written;   jpeg_item, derived_item    a coded one, a derived one
--   written ps es          a file: `ftyp`, `mdat` with the items' own bytes, and `meta` with the properties ps and the items es. The IDs
--                          are 1, 2, .. in order, and the last item is the primary one
use Rattle.std.specs.Prelude.{ℕ, zero, suc, ◌+◌, ◌/◌, ◌%◌, List, [], ◌∷◌, ◌++◌, map, length}
use Rattle.boxes.specs.Types.{ftyp, mif1, meta, hdlr, pict, pitm, iinf, infe, iloc, iprp, ipco, ipma, iref, dimg}
use Rattle.boxes.specs.Types.{ispe, irot, imir, clap, jpeg}
use Rattle.boxes.specs.Box.{flat}

abbrev pub bytes : ℕ → ℕ → List ℕ
bytes zero v = []
bytes (suc n) v = bytes n (v / 256) ++ (v % 256 ∷ [])

-- "Size 32 bits, type 32 bits"
abbrev pub box : ℕ → List (List ℕ) → List ℕ
box kind parts = let content = flat parts in bytes 4 (8 + length content) ++ (bytes 4 kind ++ content)

abbrev pub versioned : ℕ → ℕ → List (List ℕ) → List ℕ
versioned kind version parts = box kind (bytes 1 version ∷ bytes 3 0 ∷ parts)

-- the properties; of a `clap` each of w, h, x and y is a numerator and a denominator
abbrev pub ispe_box : ℕ → ℕ → List ℕ
ispe_box w h = versioned ispe 0 (bytes 4 w ∷ bytes 4 h ∷ [])

abbrev pub irot_box : ℕ → List ℕ
irot_box a = box irot (bytes 1 a ∷ [])

abbrev pub imir_box : ℕ → List ℕ
imir_box a = box imir (bytes 1 a ∷ [])

abbrev pub clap_box : List ℕ → List ℕ → List ℕ → List ℕ → List ℕ
clap_box w h x y = box clap (w ∷ h ∷ x ∷ y ∷ [])

-- inputs: the IDs that it is derived from. body: its own bytes. properties: the indices of its properties.
pub record Entry : Type 0 where
  pub type : ℕ
  pub inputs : List ℕ
  pub body : List ℕ
  pub properties : List ℕ

-- no question decodes what is coded: one byte is enough
abbrev pub jpeg_item : List ℕ → Entry
jpeg_item properties = record { type = jpeg; inputs = []; body = 0 ∷ []; properties = properties }

abbrev pub derived_item : ℕ → List ℕ → List ℕ → List ℕ → Entry
derived_item type inputs body properties = record { type = type; inputs = inputs; body = body; properties = properties }

-- what `one` writes of each item, the first of which has this ID
abbrev pub for_each : (ℕ → Entry → List ℕ) → ℕ → List Entry → List (List ℕ)
for_each one id [] = []
for_each one id (e ∷ es) = one id e ∷ for_each one (suc id) es

-- in `iinf`: an `infe` of version 2, with the ID, protection index 0, the type and an empty name
abbrev pub infe_of : ℕ → Entry → List ℕ
infe_of id e = versioned infe 2 (bytes 2 id ∷ bytes 2 0 ∷ bytes 4 e.type ∷ bytes 1 0 ∷ [])

-- in `ipma`: the ID, how many properties, and a byte for each
abbrev pub named_of : ℕ → Entry → List ℕ
named_of id e = flat (bytes 2 id ∷ bytes 1 (length e.properties) ∷ e.properties ∷ [])

-- in `iref`: the ID, how many inputs, and their IDs; an item without inputs has no `dimg`
abbrev pub dimg_by : ℕ → List ℕ → List ℕ
dimg_by id [] = []
dimg_by id (i ∷ is) = box dimg (bytes 2 id ∷ bytes 2 (length (i ∷ is)) ∷ map (bytes 2) (i ∷ is))

abbrev pub dimg_of : ℕ → Entry → List ℕ
dimg_of id e = dimg_by id e.inputs

-- in `iloc` of version 0: the ID, data reference 0, how many extents, and the offset and length of the one; an item without bytes has none.
-- The first item's bytes begin at `at`, the next one's behind them.
abbrev pub extent_of : ℕ → List ℕ → List ℕ
extent_of at [] = bytes 2 0
extent_of at (b ∷ bs) = flat (bytes 2 1 ∷ bytes 4 at ∷ bytes 4 (length (b ∷ bs)) ∷ [])

abbrev pub located : ℕ → ℕ → List Entry → List (List ℕ)
located id at [] = []
located id at (e ∷ es) = flat (bytes 2 id ∷ bytes 2 0 ∷ extent_of at e.body ∷ []) ∷ located (suc id) (at + length e.body) es

abbrev pub ftyp_box : List ℕ
ftyp_box = box ftyp (bytes 4 mif1 ∷ bytes 4 0 ∷ bytes 4 mif1 ∷ [])

-- the letters of `mdat`, which no rule names
abbrev pub mdat : ℕ
mdat = 0x6d646174

abbrev pub mdat_box : List Entry → List ℕ
mdat_box es = box mdat (map (λ (e : Entry). e.body) es)

-- `hdlr`: 32 bits of 0, the handler type, twelve reserved bytes and an empty name. `iloc`: offsets and lengths of 4 bytes, no base
-- offsets; the first item's bytes stand behind `ftyp` and the 8 bytes of the header of `mdat`.
abbrev pub meta_box : List (List ℕ) → List Entry → List ℕ
meta_box ps es =
    versioned meta 0
    (versioned hdlr 0 (bytes 4 0 ∷ bytes 4 pict ∷ bytes 13 0 ∷ [])
    ∷ versioned pitm 0 (bytes 2 (length es) ∷ [])
    ∷ versioned iloc 0 (bytes 1 0x44 ∷ bytes 1 0x00 ∷ bytes 2 (length es) ∷ located 1 (length ftyp_box + 8) es)
    ∷ versioned iinf 0 (bytes 2 (length es) ∷ for_each infe_of 1 es)
    ∷ box iprp (box ipco ps ∷ versioned ipma 0 (bytes 4 (length es) ∷ for_each named_of 1 es) ∷ [])
    ∷ versioned iref 0 (for_each dimg_of 1 es)
    ∷ [])

abbrev pub written : List (List ℕ) → List Entry → List ℕ
written ps es = flat (ftyp_box ∷ mdat_box es ∷ meta_box ps es ∷ [])
