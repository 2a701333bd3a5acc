-- Demand 3: "On the way it .. meets no missing item or property." What is met on the way down, said of the structure
-- that the bytes spell, without reading.
--   Stands l n x          x is in the list l, behind n others
--   HasIndex f k b        the property box b has the index k
--   There f a             what the association a names is there, and its content is whole
--   NoIspe f a            the association a names no `ispe`
--   OneIspe f l           exactly one of the associations l names an `ispe`, which is there and whole
--   Met f r               the item in row r is there and is a picture, and all that it names is there
--   HasInput s q r p      the input beneath the point p of the picture q, whose recipe is r, is one of its inputs
--   Stop, stops_of w       a picture that is reached, and where in it; those of the path w, from the first to the last
--   MetAt s f t           nothing is missing at the stop t;   MeetsOnly f w    nor at any stop of the path w
-- The laziest wrong reading is that of a lookup, which finds something wherever nothing is: past the last row an item of
-- type 0, for an index past the last property an empty box, without an `ispe` the size 0 × 0, for a tile past the last
-- input row 0. By it nothing is ever missing. It fails here: `Stands` has no default, the size that the path goes by is
-- that of a box that stands in `ipco`, and a tile's number is below the number of inputs. The next laziest is to ask
-- nothing: "every association" holds of an item that has none, and "every stop" of a path that has none. But one `ispe`
-- must be there, and the stops are as many as the pictures passed (`Followed`, crates/demands/proofs/Demand3.antt).
-- That both are ruled out is proved: `met-listed`, `there-listed`, `met_some` (crates/demands/proofs/MetLaws.antt).
use Rattle.std.specs.Prelude.{ℕ, ◌+◌, ◌*◌, ◌-◌, ◌/◌, ◌≤◌, ◌<◌, ◌≡◌, List, [], ◌∷◌, ◌++◌, map, true, false, length}
use Rattle.fields.specs.Lists.{All}
use Rattle.boxes.specs.Types.{ispe, image}
use Rattle.boxes.specs.Box.{kind_of, body_of, IsBox}
use Rattle.contents.specs.Iinf.{Item}
use Rattle.contents.specs.Ipco.{ispe_form, GoodContent}
use Rattle.contents.specs.Ipma.{Association}
use Rattle.contents.specs.File.{File}
use Rattle.pictures.specs.declared.Point.{Point}
use Rattle.pictures.specs.Decode.{ispe_of, turns_of}
use Rattle.pictures.specs.Recipe.{Recipe, Coded, Copy, Opaque, Tiles, Layers}
use Rattle.pictures.specs.Scene.{Picture, Scene, picture_at, first_input}
use Rattle.pictures.specs.Trace.{End, undo_turns, Path, at-pixel, at_fill, through}
use Rattle.rules.specs.Joined.{associations_of, targets_of, boxes_of, row_of}
use Rattle.demands.specs.Call.{IsPicture}

-- not missing: in the list, at its place. What is not in the list stands nowhere.
pub record Stands {A : Type 0} (l : List A) (n : ℕ) (x : A) : Type 0 where
  pub before : List A
  pub behind : List A
  pub joined : before ++ (x ∷ behind) ≡ l
  pub count : length before ≡ n

-- "Every box in `ipco` takes an index from 1, free space too."
abbrev pub HasIndex : File → ℕ → List ℕ → Type 0
HasIndex f k b = (1 ≤ k) × Stands f.properties (k - 1) b

-- "Index 0 names nothing; marked essential it is 11." Any other index is that of a box, and (`GoodContent`) "Content: `ispe`
-- version 0, 12 bytes; `clap` 32; `irot` (lowest two bits) and `imir` (lowest bit) 1"
pub data There (f : File) (a : Association) : Type 0 where
  names-nothing : a.index ≡ 0 → a.essential ≡ false → There f a
  names-box : (b : List ℕ) → HasIndex f a.index b → IsBox b → GoodContent (kind_of b) (body_of b) → There f a

-- of every box that has its index: it is of another type
abbrev pub NoIspe : File → Association → Type 0
NoIspe f a = (b : List ℕ) → HasIndex f a.index b → kind_of b ≡ ispe → ⊥

-- 16: "exactly one `ispe` association"; "`ispe` version 0, 12 bytes"
pub record OneIspe (f : File) (l : List Association) : Type 0 where
  pub before : List Association
  pub one : Association
  pub behind : List Association
  pub joined : before ++ (one ∷ behind) ≡ l
  pub box : List ℕ
  pub named : HasIndex f one.index box
  pub kind : kind_of box ≡ ispe
  pub whole : ispe_form.Spells (body_of box) tt
  pub no_other : All (NoIspe f) (before ++ behind)

-- "Every ID in .. `ipma` and any reference must be listed"; "unlisted item or property" (11); "inputs are image items"
pub record Met (f : File) (r : ℕ) : Type 0 where
  pub item : Item
  pub listed : Stands f.items r item
  pub picture : image item.type ≡ true
  pub declares : OneIspe f (associations_of f item.id)
  pub properties : All (There f) (associations_of f item.id)
  pub inputs : All (IsPicture f) (targets_of f item.id)

-- `iden`: "one input". `grid`: "Row by row from top left", so the tile's number, from 0, counts the rows above it and the
-- tiles to its left. `iovl`: "a signed (x, y) offset per input".
abbrev pub HasInput : Scene → Picture → Recipe → Point → Type 0
HasInput s q Coded p = Unit {0}
HasInput s q Opaque p = ⊥
HasInput s q Copy p = length q.inputs ≡ 1
HasInput s q (Tiles g) p = p.y / (first_input s q).high * g.columns + p.x / (first_input s q).wide < length q.inputs
HasInput s q (Layers o) p = length o.offsets ≡ length q.inputs

-- "follow it down": spot is the point of the reconstructed picture, the turns and crops being undone
pub record Stop : Type 0 where
  pub row : ℕ
  pub spot : Point

unfoldable pub stops_of : {s : Scene} {i : ℕ} {p : Point} {k : ℕ} {e : End} → Path s i p k e → List Stop
stops_of {s} {i} {p} (at-pixel r c) = record { row = i; spot = undo_turns (picture_at s i) p } ∷ []
stops_of {s} {i} {p} (at_fill r c b) = record { row = i; spot = undo_turns (picture_at s i) p } ∷ []
stops_of {s} {i} {p} (through r m b w) = record { row = i; spot = undo_turns (picture_at s i) p } ∷ stops_of w

-- What the path goes by is what is there: the size that the one `ispe` declares, "all transforms .. in association
-- order", the item's own `dimg` targets, and among them the input beneath.
pub record MetAt (s : Scene) (f : File) (t : Stop) : Type 0 where
  pub met : Met f t.row
  pub sized : (picture_at s t.row).declared ≡ ispe_of met.declares.box
  pub turned : (picture_at s t.row).turns ≡ turns_of (ispe_of met.declares.box) (boxes_of f met.item.id)
  pub led : (picture_at s t.row).inputs ≡ map (λ (id : ℕ). row_of id f.items) (targets_of f met.item.id)
  pub fed : HasInput s (picture_at s t.row) (picture_at s t.row).recipe t.spot

-- "On the way it .. meets no missing item or property"
abbrev pub MeetsOnly : {s : Scene} {i : ℕ} {p : Point} {k : ℕ} {e : End} → File → Path s i p k e → Type 0
MeetsOnly {s} f w = All (MetAt s f) (stops_of w)
