-- Rule 17: "derivation inputs or body wrong", and the scene that the rules give.
--   recipe_of total head f item    how the item's reconstructed image comes about; refused where 17 is
--   scene_of total head f          the items as pictures
use Rattle.std.specs.Prelude.{ℕ, ◌*◌, List, [], ◌∷◌, map, Bool, true, false, ◌&&◌, length, eqb, ltb}
use Rattle.fields.specs.Choice.{pick}
use Rattle.boxes.specs.Answer.{Answer, ok, refuse, check, ◌>>=◌, ◌>>◌}
use Rattle.boxes.specs.Types.{iden, grid, ispe, coded, derived, image}
use Rattle.boxes.specs.Box.{kind_of}
use Rattle.forms.specs.Form.{whole}
use Rattle.contents.specs.Iinf.{Item}
use Rattle.contents.specs.Iloc.{Location}
use Rattle.contents.specs.File.{File}
use Rattle.pictures.specs.declared.Size.{Size}
use Rattle.pictures.specs.Turn.{size}
use Rattle.pictures.specs.Decode.{ispe_of, turns_of}
use Rattle.pictures.specs.Recipe.{Recipe, Coded, Copy, Opaque, Tiles, Layers, grid_form, iovl_form}
use Rattle.pictures.specs.Scene.{Picture, Scene}
use Rattle.rules.specs.Joined.{location_of, targets_of, boxes_of, row_of, item_at}
use Rattle.rules.specs.Bytes as Bytes

abbrev pub nothing_in : {A : Type 0} → List A → Bool
nothing_in [] = true
nothing_in (x ∷ xs) = false

-- "inputs are image items"
unfoldable pub all_images : File → List ℕ → Bool
all_images f [] = true
all_images f (t ∷ ts) = image (item_at f (row_of t f.items)).type && all_images f ts

module _ (total : ℕ) (head : List ℕ) (f : File) (item : Item) where
  abbrev pub inputs_of : List ℕ
  inputs_of = targets_of f item.id

  abbrev pub its_location : Location
  its_location = location_of f item.id

  -- "`grid`, `iovl`: .. version 0, exact length"; Q-7: "Derivation bodies may have several extents, joined, each byte in the head"
  abbrev pub its_body : Answer (List ℕ)
  its_body = Bytes.body_of total head f item.id

  -- "`iden`: one input, no extents."
  unfoldable pub copy_of : Answer Recipe
  copy_of = check 17 item.id (eqb (length inputs_of) 1 && nothing_in its_location.extents) >> ok Copy

  -- "Inputs = rows × columns"
  unfoldable pub tiles_of : Answer Recipe
  tiles_of = do
    b ← its_body
    g ← whole grid_form 0 b
    check 17 item.id (eqb (length inputs_of) (g.rows * g.columns))
    ok (Tiles g)

  -- "a signed (x, y) offset per input, at least one input"
  unfoldable pub layers_of : Answer Recipe
  layers_of = do
    b ← its_body
    o ← whole (iovl_form (length inputs_of)) 0 b
    check 17 item.id (ltb 0 (length inputs_of))
    ok (Layers o)

  -- "Only derived items have `dimg`; inputs are image items."
  unfoldable pub recipe_for : Answer Recipe
  recipe_for =
      pick (derived item.type)
      (check 17 item.id (all_images f inputs_of) >> pick (eqb item.type iden) copy_of (pick (eqb item.type grid) tiles_of layers_of))
      (check 17 item.id (nothing_in inputs_of) >> ok (pick (coded item.type) Coded Opaque))

-- whatever is wrong with them is 17 at the item
unfoldable pub as_rule17 : ℕ → Answer Recipe → Answer Recipe
as_rule17 id (ok r) = ok r
as_rule17 id (refuse n p) = refuse 17 id

abbrev pub recipe_of : ℕ → List ℕ → File → Item → Answer Recipe
recipe_of total head f item = as_rule17 item.id (recipe_for total head f item)

-- an item whose recipe is refused is shown as opaque: no question is answered then
unfoldable pub recipe_or : Answer Recipe → Recipe
recipe_or (ok r) = r
recipe_or (refuse n p) = Opaque

-- the size that the first `ispe` among the boxes declares
unfoldable pub declared_in : List (List ℕ) → Size
declared_in [] = size 0 0
declared_in (b ∷ bs) = pick (eqb (kind_of b) ispe) (ispe_of b) (declared_in bs)

-- "Opaque items have 0 in the size and depth words": they are no pictures
unfoldable pub picture_of : ℕ → List ℕ → File → Item → Picture
picture_of total head f item =
    pick (image item.type)
    (record {
      id = item.id;
      recipe = recipe_or (recipe_of total head f item);
      inputs = map (λ t. row_of t f.items) (targets_of f item.id);
      declared = declared_in (boxes_of f item.id);
      turns = turns_of (declared_in (boxes_of f item.id)) (boxes_of f item.id);
    })
    (record { id = item.id; recipe = Opaque; inputs = []; declared = size 0 0; turns = [] })

abbrev pub scene_of : ℕ → List ℕ → File → Scene
scene_of total head f = map (λ i. picture_of total head f i) f.items
