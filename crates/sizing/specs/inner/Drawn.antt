-- A table with sizes and depths, whose items keep 13 to 17: what 18 to 20 are judged by.
--   sizes_in f r d        the five words of the record in row r that say its sizes and its depth d; an opaque item has none
--   told_properties f r   the sizes of the item in row r; none where its properties break 15, 29 or 16
--   ToldBefore t f r     what the record before row r says of sizes, where it says a width, is what its item's properties say
--   tiles_fit s p g       what rule 20 says of the tiles of a grid g
--   Drawn t rows head total f    the table t and the resolved rows are those of the file f
use Rattle.std.specs.Prelude.{ℕ, suc, ◌≡◌, List, [], ◌∷◌, Bool, ◌&&◌, replicate, Option, None}
use Rattle.fields.specs.Choice.{pick}
use Rattle.boxes.specs.Types.{image}
use Rattle.contents.specs.File.{File}
use Rattle.pictures.specs.declared.Size.{Size}
use Rattle.pictures.specs.Turn.{size, size_through}
use Rattle.pictures.specs.Decode.{turns_of}
use Rattle.pictures.specs.Recipe.{Grid}
use Rattle.pictures.specs.Scene.{Picture, Scene, first_input, all_size, covered, same_size}
use Rattle.rules.specs.Joined.{boxes_of, item_at}
use Rattle.rules.specs.Derivations.{declared_in, scene_of}
use Rattle.rules.specs.Rules.{configured}
use Rattle.views.specs.inner.View.{SizesAre, AllFed, id_of, record_word}
use Rattle.declared.specs.inner.Told.{are, told_sizes}
use Rattle.declared.specs.declared.Sizes.{Sizes}
use Rattle.derived.specs.inner.Told.{Resolved, Followed}

unfoldable pub sizes_for : Size → Size → ℕ → List ℕ
sizes_for s o d = s.wide ∷ s.high ∷ o.wide ∷ o.high ∷ d ∷ []

unfoldable pub sizes_in : File → ℕ → ℕ → List ℕ
sizes_in f r d =
    pick (image (item_at f r).type)
    (sizes_for (declared_in (boxes_of f (id_of f r))) (size_through
    (turns_of (declared_in (boxes_of f (id_of f r))) (boxes_of f (id_of f r))) (declared_in (boxes_of f (id_of f r)))) d)
    (replicate 5 0)

-- what the properties of the item in row r say of sizes, where it is configured
unfoldable pub told_properties : File → ℕ → Option Sizes
told_properties f r = pick (configured f (item_at f r)) (told_sizes f (id_of f r)) None

abbrev pub ToldBefore : List ℕ → File → ℕ → Type 0
ToldBefore t f r = (k : ℕ) → suc k ≡ r → (record_word t k 10 ≡ 0 → ⊥) →
    told_properties f k ≡ are (size (record_word t k 10) (record_word t k 11))
    (size (record_word t k 12) (record_word t k 13))

pub record Drawn (t rows head : List ℕ) (total : ℕ) (f : File) : Type 0 where
  pub followed : Followed t rows head total f
  pub sizes : SizesAre t (scene_of total head f)
  pub resolved : Resolved t rows f
  pub fed : AllFed total head f

-- what rule 20 says of the tiles of a grid g
unfoldable pub tiles_fit : Scene → Picture → Grid → Bool
tiles_fit s p g = all_size s (first_input s p) p.inputs && (covered g (first_input s p) && same_size p.declared (size g.wide g.high))
