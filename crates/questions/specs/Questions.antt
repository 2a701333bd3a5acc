-- The questions: document 01, "What the reader handles", refusals 23 to 25. What comes before them (1 to 22) and what
-- any call leaves in the table is in crates/rules/specs/Opening.antt. Questions of document 02 have crates of their own.
--   verdict, size, trace, sources, property     the answers; n is the length of the table that is lent
use Rattle.std.specs.Prelude.{ℕ, ◌-◌, List, [], ◌∷◌, ◌++◌, map, Bool, true, false, ◌&&◌, length, get_or, drop, leb, ltb}
use Rattle.boxes.specs.Answer.{Answer, ok, refuse, check, ◌>>=◌, ◌>>◌}
use Rattle.contents.specs.Iinf.{Item}
use Rattle.contents.specs.Ipma.{Association}
use Rattle.contents.specs.File.{File}
use Rattle.pictures.specs.declared.Size.{Size}
use Rattle.pictures.specs.declared.Point.{Point}
use Rattle.pictures.specs.Scene.{Picture, Scene, picture_at, output_of}
use Rattle.pictures.specs.Depth.{depth}
use Rattle.pictures.specs.Trace as Trace
use Rattle.pictures.specs.Sources as Sources
use Rattle.rules.specs.Joined.{associations_of, property_at, item_at, no_association}
use Rattle.rules.specs.Places.{Places, places_in, property_offset}
use Rattle.rules.specs.Derivations.{scene_of}
use Rattle.rules.specs.Opening.{opened, listed, pictured}

-- "verdict: accepted, with item count and primary item ID"
pub record Verdict : Type 0 where
  pub items : ℕ
  pub primary : ℕ

-- Each question is answered of an accepted file f: reading is over then.
unfoldable pub verdict_in : File → Answer Verdict
verdict_in f = ok (record { items = length f.items; primary = f.primary })

-- "size of an item: reconstructed and output width and height, depth"
pub record Sized : Type 0 where
  pub reconstructed : Size
  pub output : Size
  pub depth : ℕ

unfoldable pub size_in : Scene → File → ℕ → Answer Sized
size_in s f id = do
  r ← pictured f id
  ok (record { reconstructed = (picture_at s r).declared; output = output_of (picture_at s r); depth = depth s r })

-- "trace of an item's output pixel (x, y): pixel or fill, item ID, x, y there, items passed, both ends counted"
pub record Found : Type 0 where
  pub is_fill : Bool
  pub item : ℕ
  pub at : Point
  pub passed : ℕ

unfoldable pub found_by : File → ℕ → Trace.End → Found
found_by f n (Trace.pixel r p) = record { is_fill = false; item = (item_at f r).id; at = p; passed = n }
found_by f n (Trace.fill r p) = record { is_fill = true; item = (item_at f r).id; at = p; passed = n }

-- "pixel outside output size" (23)
unfoldable pub trace_in : Scene → File → ℕ → Point → Answer Found
trace_in s f id p = do
  r ← pictured f id
  check 23 id (ltb p.x (output_of (picture_at s r)).wide && ltb p.y (output_of (picture_at s r)).high)
  ok (found_by f (Trace.trace s r p).passed (Trace.trace s r p).end)

-- "sources of an item: IDs of all coded items it needs .. written to a lent list"; "list shorter than the sources" (24)
unfoldable pub sources_in : Scene → File → ℕ → ℕ → Answer (List ℕ)
sources_in s f id room = do
  r ← pictured f id
  check 24 id (leb (length (Sources.sources s r)) room)
  ok (Sources.sources s r)

-- "property k of an item (from 1): that property box, header included, as a part of the head; association to index 0 gives the empty part"
pub record Part : Type 0 where
  pub offset : ℕ
  pub bytes : List ℕ

unfoldable pub part_of : Places → File → ℕ → Part
part_of pl f index = record { offset = property_offset pl f index; bytes = property_at f index }

-- "property number 0 or over the item's count" (25)
unfoldable pub property_in : Places → File → ℕ → ℕ → Answer Part
property_in pl f id k = do
  r ← listed f id
  check 25 id (leb 1 k && leb k (length (associations_of f id)))
  ok (part_of pl f (get_or (associations_of f id) (k - 1) no_association).index)

-- The questions as they are called, n being the length of the table that is lent: 1, 2 to 20, then 21 to 25.
unfoldable pub verdict : ℕ → ℕ → List ℕ → Answer Verdict
verdict n total head = opened n total head >>= (λ f. verdict_in f)

unfoldable pub size : ℕ → ℕ → List ℕ → ℕ → Answer Sized
size n total head id = opened n total head >>= (λ f. size_in (scene_of total head f) f id)

unfoldable pub trace : ℕ → ℕ → List ℕ → ℕ → Point → Answer Found
trace n total head id p = opened n total head >>= (λ f. trace_in (scene_of total head f) f id p)

unfoldable pub sources : ℕ → ℕ → List ℕ → ℕ → ℕ → Answer (List ℕ)
sources n total head id room = opened n total head >>= (λ f. sources_in (scene_of total head f) f id room)

unfoldable pub property : ℕ → ℕ → List ℕ → ℕ → ℕ → Answer Part
property n total head id k = opened n total head >>= (λ f. property_in (places_in total head) f id k)

-- what a call leaves in the list: "No refusal writes to the list; sources otherwise writes only its first entries."
unfoldable pub list_after : Answer (List ℕ) → List ℕ → List ℕ
list_after (ok ids) l = ids ++ drop (length ids) l
list_after (refuse n p) l = l
