-- Faults of a file: document 01, "Refusal numbers", rows 12 to 20, and 29 and 30 of document 02, each as a type that says when
-- the fault is there. No order, no reading, no answer. 30 is `BadChain` (crates/rules/specs/Links.antt).
--   Any P l                     P of one of l
--   PrimaryWrong f, ..          one type for each row of the table, one case for each thing that the row names
--   rule_of total head f n       the row n of the table
--   Fault total head f n r      the fault by number n is there at the item in row r
use Rattle.std.specs.Prelude.{ℕ, ◌+◌, ◌*◌, ◌≤◌, ◌<◌, ◌≡◌, List, [], ◌∷◌, ◌++◌, Bool, true, false, ◌⊎◌, length}
use Rattle.fields.specs.Lists.{member}
use Rattle.boxes.specs.Answer.{ok}
use Rattle.boxes.specs.Types.{ispe, hvc1, iden, grid, iovl, known_property, coded, derived, image}
use Rattle.boxes.specs.Box.{kind_of}
use Rattle.contents.specs.Iinf.{Item}
use Rattle.contents.specs.Iloc.{Extent, Location}
use Rattle.contents.specs.Ipma.{Association}
use Rattle.contents.specs.File.{File}
use Rattle.pictures.specs.declared.Size.{Size}
use Rattle.pictures.specs.Turn.{size, AllFit}
use Rattle.pictures.specs.Decode.{transform}
use Rattle.pictures.specs.Recipe.{Copy, Tiles, Layers, Grid, Overlay, grid_form, iovl_form}
use Rattle.pictures.specs.Scene.{Picture, Scene, picture_at, output_of, first_input}
use Rattle.pictures.specs.Depth.{Derives, depth}
use Rattle.rules.specs.Joined.{location_of, associations_of, targets_of, property_at, types_of, row_of, item_at}
use Rattle.rules.specs.Bytes.{named, length_of}
use Rattle.rules.specs.Links.{BadChain, NamesPast}
use Rattle.rules.specs.Bodies.{ItsBody}
use Rattle.rules.specs.Derivations.{scene_of}
use Rattle.rules.specs.Rules.{configurations, count_of}

abbrev pub Any : {A : Type 0} → (A → Type 0) → List A → Type 0
Any P [] = ⊥
Any P (x ∷ xs) = P x ⊎ Any P xs

abbrev pub Not : Type 0 → Type 0
Not A = A → ⊥

-- 12: "primary item unlisted, opaque or hidden"
pub data PrimaryWrong (f : File) : Type 0 where
  unlisted : length f.items ≤ row_of f.primary f.items → PrimaryWrong f
  opaque : image (item_at f (row_of f.primary f.items)).type ≡ false → PrimaryWrong f
  hidden : Not ((item_at f (row_of f.primary f.items)).hidden ≡ 0) → PrimaryWrong f

-- 13: "construction method not 0 or 1, data reference not 0, or extent length 0"; Q-7: "13 no longer covers method 2"
pub data WrongPlace (l : Location) : Type 0 where
  method : 2 < l.method → WrongPlace l
  reference : Not (l.reference ≡ 0) → WrongPlace l
  no_length : Any (λ (e : Extent). e.size ≡ 0) l.extents → WrongPlace l

-- where an extent ends, counted in its source
abbrev pub end_of : Location → Extent → ℕ
end_of l e = l.base + e.offset + e.size

-- 14: "extent past its source; coded item without extents"; "Base plus offset plus length past 64 bits is 14": the sum is not bounded
-- here, and no source is that long. Of the item id, whose location is l:
--   past-file, past-idat   "Method 0 counts from the file's start, method 1 from the content of `idat`"
--   past-item              Q-7: "Read construction method 2: extent index picks the item's `iloc` reference"; "The length of a named item is
--                          the sum of its extents' lengths, even if that item has faults of its own"
--   past-sum               Q-7: "an item that names, at any depth, one whose lengths sum past 64 bits is 14"
-- An extent that picks no reference has no source that it could be past: 30 is the fault then.
pub data WrongBytes (total : ℕ) (f : File) (id : ℕ) (l : Location) (type : ℕ) : Type 0 where
  past-file : l.method ≡ 0 → Any (λ (e : Extent). total < end_of l e) l.extents → WrongBytes total f id l type
  past-idat : l.method ≡ 1 → Any (λ (e : Extent). length f.idat < end_of l e) l.extents → WrongBytes total f id l type
  past-item : l.method ≡ 2 → Any (λ (e : Extent). (j : ℕ) × (named f id e ≡ ok j) × (length_of f j < end_of l e)) l.extents →
      WrongBytes total f id l type
  past_sum : NamesPast f id → WrongBytes total f id l type
  without : coded type ≡ true → l.extents ≡ [] → WrongBytes total f id l type

-- 15: "image item protected, or with an essential property of unknown type"
pub data NotReadable (f : File) (i : Item) : Type 0 where
  protected : Not (i.protection ≡ 0) → NotReadable f i
  unknown : Any (λ (a : Association). (a.essential ≡ true) ×
      (known_property (kind_of (property_at f a.index)) ≡ false)) (associations_of f i.id) → NotReadable f i

-- 29, Q-5: "An `hvc1` item must have exactly one `hvcC`, marked essential."; of each association to an `hvcC` whether it is marked
pub data WrongConfiguration (marks : List Bool) : Type 0 where
  not-one : Not (length marks ≡ 1) → WrongConfiguration marks
  unmarked : Any (λ (m : Bool). m ≡ false) marks → WrongConfiguration marks

-- 16: "image item without exactly one `ispe` association, or `ispe` after a transform"; ks the types of its properties in association order
pub data WrongIspe (ks : List ℕ) : Type 0 where
  not-one : Not (count_of ispe ks ≡ 1) → WrongIspe ks
  late : (before : List ℕ) (t : ℕ) (behind : List ℕ) → before ++ (t ∷ behind) ≡ ks → transform t ≡ true → member ispe behind ≡ true → WrongIspe ks

-- 17: "derivation inputs or body wrong"; id the item, whose location is l, ts its `dimg` targets. "Only derived items have `dimg`;
-- inputs are image items. `iden`: one input, no extents."; "Inputs = rows × columns"; "a signed (x, y) offset per input, at
-- least one input". Q-7: "17 no longer covers the number of extents of `grid` and `iovl`"; "Derivation bodies may have several
-- extents, joined, each byte in the head", and "at most 16,402 bytes": b is such a body (`ItsBody`, crates/rules/specs/Bodies.antt)
pub data WrongDerivation (total : ℕ) (head : List ℕ) (f : File) (id : ℕ) (l : Location) (type : ℕ) (ts : List ℕ) : Type 0 where
  not-derived : derived type ≡ false → Not (ts ≡ []) → WrongDerivation total head f id l type ts
  no_picture : derived type ≡ true → Any (λ (t : ℕ). image (item_at f (row_of t f.items)).type ≡ false) ts →
      WrongDerivation total head f id l type ts
  copy-inputs : type ≡ iden → Not (length ts ≡ 1) → WrongDerivation total head f id l type ts
  copy-extents : type ≡ iden → Not (l.extents ≡ []) → WrongDerivation total head f id l type ts
  no_tiles : type ≡ grid → ((b : List ℕ) (g : Grid) → ItsBody total head f id b → grid_form.Spells b g →
      length ts ≡ g.rows * g.columns → ⊥) → WrongDerivation total head f id l type ts
  no_layers : type ≡ iovl → ((b : List ℕ) (o : Overlay) → ItsBody total head f id b → (iovl_form (length ts)).Spells b o →
      0 < length ts → ⊥) → WrongDerivation total head f id l type ts

-- "Every width and height is 1 to 65,535."
pub record GoodSides (s : Size) : Type 0 where
  pub some-wide : 1 ≤ s.wide
  pub wide_fits : s.wide ≤ 65535
  pub some-high : 1 ≤ s.high
  pub high_fits : s.high ≤ 65535

-- 20: "sizes wrong". "`ispe` equals the reconstructed size"; "equal in size; tile width × columns at least the canvas
-- width, likewise height"; a `clap` that does not fit
pub data WrongSizes (s : Scene) (p : Picture) : Type 0 where
  declared_side : Not (GoodSides p.declared) → WrongSizes s p
  output_side : Not (GoodSides (output_of p)) → WrongSizes s p
  -- a crop that does not fit, or whose edges are no whole numbers: such a `clap` decodes to `Misfit` (pictures/specs/Decode),
  -- which fits no size
  crop : Not (AllFit p.turns p.declared) → WrongSizes s p
  copy : p.recipe ≡ Copy → Not (p.declared ≡ first_input s p) → WrongSizes s p
  unequal : (g : Grid) → p.recipe ≡ Tiles g → Any (λ (i : ℕ). Not (output_of (picture_at s i) ≡ first_input s p)) p.inputs → WrongSizes s p
  too_narrow : (g : Grid) → p.recipe ≡ Tiles g → (first_input s p).wide * g.columns < g.wide → WrongSizes s p
  too_low : (g : Grid) → p.recipe ≡ Tiles g → (first_input s p).high * g.rows < g.high → WrongSizes s p
  tiles_canvas : (g : Grid) → p.recipe ≡ Tiles g → Not (p.declared ≡ size g.wide g.high) → WrongSizes s p
  layers_canvas : (o : Overlay) → p.recipe ≡ Layers o → Not (p.declared ≡ size o.wide o.high) → WrongSizes s p

-- A row of the table: its number; its turn in the "Order of reading", where `stage` counts "Then 12. Then for each item
-- in table order 13 before 14; then for each image item 15 before 16; then 17 for each item; 18 and then 19 ..; then
-- 20", `lap` is the depth for 20, "by rising depth", and `rank` says which of the rules of a stage is asked of an item
-- first, which is not always that of the smaller number ("29, checked for each image item between 15 and 16"; "30, ..
-- between 13 and 14 for the item, place its ID"); how many rows it is asked of; the place, by row; and the fault itself.
pub record Rule : Type 1 where
  pub number : ℕ
  pub stage : ℕ
  pub lap : ℕ → ℕ
  pub rank : ℕ
  pub rows : ℕ
  pub place : ℕ → ℕ
  pub Wrong : ℕ → Type 0

-- asked of each item, its place the item's ID
abbrev pub of_items : File → ℕ → ℕ → ℕ → (ℕ → Type 0) → Rule
of_items f n stage rank W =
    record { number = n; stage = stage; lap = λ r. 0; rank = rank; rows = length f.items; place = λ r. (item_at f r).id; Wrong = W }

pub data Number : Type 0 where
  n12 n13 n30 n14 n15 n29 n16 n17 n18 n19 n20 : Number

-- 12 is a fault of the file and not of a row: it stands at row 0. 18: "item derived from itself". 19: "depth over 16".
module _ (total : ℕ) (head : List ℕ) (f : File) where
  abbrev pub rule_of : Number → Rule
  rule_of n12 = record { number = 12; stage = 0; lap = λ r. 0; rank = 0; rows = 1; place = λ r. f.primary; Wrong = λ r. PrimaryWrong f }
  rule_of n13 = of_items f 13 1 0 (λ r. WrongPlace (location_of f (item_at f r).id))
  rule_of n30 = of_items f 30 1 1 (λ r. BadChain f (item_at f r).id)
  rule_of n14 = of_items f 14 1 2 (λ r. WrongBytes total f (item_at f r).id (location_of f (item_at f r).id) (item_at f r).type)
  rule_of n15 = of_items f 15 2 0 (λ r. (image (item_at f r).type ≡ true) × NotReadable f (item_at f r))
  rule_of n29 = of_items f 29 2 1 (λ r. ((item_at f r).type ≡ hvc1) × WrongConfiguration (configurations f (associations_of f (item_at f r).id)))
  rule_of n16 = of_items f 16 2 2 (λ r. (image (item_at f r).type ≡ true) × WrongIspe (types_of f (item_at f r).id))
  rule_of n17 =
      of_items f 17 3 0 (λ r. WrongDerivation total head f (item_at f r).id (location_of f (item_at f r).id) (item_at f r).type
      (targets_of f (item_at f r).id))
  rule_of n18 = of_items f 18 4 0 (λ r. Derives (scene_of total head f) r r)
  rule_of n19 = of_items f 19 5 0 (λ r. 16 < depth (scene_of total head f) r)
  rule_of n20 =
      record {
        number = 20;
        stage = 6;
        lap = λ r. depth (scene_of total head f) r;
        rank = 0;
        rows = length f.items;
        place = λ r. (item_at f r).id;
        Wrong = λ r. (image (item_at f r).type ≡ true) × WrongSizes (scene_of total head f) (picture_at (scene_of total head f) r);
      }

  pub record Fault (n : Number) (r : ℕ) : Type 0 where
    pub listed : r < (rule_of n).rows
    pub there : (rule_of n).Wrong r
