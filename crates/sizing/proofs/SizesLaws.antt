-- Rule 20 for one picture, over a table that has sizes: the sizes of a row, those of a picture's inputs, and what its recipe makes of them. Assumes nothing.
--   made_by s p x    what rule 20 says of a picture whose derivation is read as x
--   Feeds x is      the inputs `is` of a derivation that is read as x, where a first one is asked for
use Prim.Native.Nat.{ℕ, ◌+◌, ◌*◌, ◌<◌, ◌≤◌}
use native.Mathlib.Omega.{arith}
use mathlib.Core.Path.{◌≡◌, refl, sym, ap, subst, ◌∙◌}
use mathlib.Core.List.{List}
use mathlib.Core.Bool.{Bool, true, false, ◌&&◌}
use Rattle.std.specs.Prelude.{Option, Some, None}
use lib.ListN.{length, get_or, drop, length-map, drop_of_length-le}
use lib.Dec.{leb}
use Rattle.boxes.specs.Answer.{ok}
use Rattle.boxes.specs.Types.{derived, image}
use Rattle.contents.specs.File.{File}
use Rattle.pictures.specs.declared.Size.{Size}
use Rattle.pictures.specs.Turn.{size}
use Rattle.pictures.specs.Recipe.{Recipe, Coded, Copy, Opaque, Tiles, Layers, Grid}
use Rattle.pictures.specs.Scene.{Picture, Scene, picture_at, output_of, same_size, good_size, first_input, all_size, made_up, good_sizes}
use Rattle.pictures.specs.inner.GoodScene.{Shaped}
use Rattle.rules.specs.Joined.{targets_of, row_of, item_at}
use Rattle.rules.specs.Derivations.{scene_of}
use Rattle.rules.proofs.SceneLaws.{inputs-at, recipe-ok, inputs-fed}
use Rattle.rules.specs.Places.{Places}
use Rattle.views.specs.inner.View.{TableOf, SizesAre, record_word, id_of}
use Rattle.views.proofs.LookupLaws.{row_listed}
use Rattle.derived.specs.inner.Told.{Readable, derivation_for, told_derivation}
use Rattle.derived.specs.declared.Derivation.{Derivation}
use Rattle.derived.specs.declared.Derivation.TheVariants as made
use Rattle.derived.proofs.RecipeLaws.{plain-recipe, derived-recipe, fed-body}
use Rattle.fields.specs.Choice.{pick}
use Rattle.fields.proofs.FieldLaws.{both}
use Rattle.fields.proofs.ListLaws.{left-from, map_at}
use Rattle.sizing.specs.inner.Drawn.{Drawn, tiles_fit}

-- SizesAre: the two sizes in a row
module _ {t : List ℕ} {s : Scene} (w : SizesAre t s) (r : ℕ) (h : r < length s) (a b : ℕ) where
  row_here : r < 256
  row_here = omega (arith, w.few)

  pub declared-read : (r < 256 → a ≡ record_word t r 10) → (r < 256 → b ≡ record_word t r 11) → size a b ≡ (picture_at s r).declared
  declared-read p q = rw (p row_here ∙ w.wide r h, q row_here ∙ w.high r h)

  pub output-read : (r < 256 → a ≡ record_word t r 12) → (r < 256 → b ≡ record_word t r 13) → size a b ≡ output_of (picture_at s r)
  output-read p q = rw (p row_here ∙ w.output-wide r h, q row_here ∙ w.output-high r h)

-- all_size, input by input
module _ (s : Scene) (z : Size) (is : List ℕ) where
  module _ (j : ℕ) (l : j < length is) (b : Bool) (e : b ≡ same_size (output_of (picture_at s (get_or is j 0))) z) where
    size_next : all_size s z (drop j is) ≡ (b && all_size s z (drop (j + 1) is))
    unfolding all_size
    size_next = ap (all_size s z) (left-from is j 0 l) ∙ rw e

    pub size-other : b ≡ false → all_size s z is ≡ all_size s z (drop j is) → false ≡ all_size s z is
    size-other q w = sym (w ∙ size_next ∙ rw q)

    pub size-more : b ≡ true → all_size s z is ≡ all_size s z (drop j is) → all_size s z is ≡ all_size s z (drop (j + 1) is)
    size-more q w = w ∙ size_next ∙ rw q

  pub size-all : (j : ℕ) → length is ≤ j → all_size s z is ≡ all_size s z (drop j is) → true ≡ all_size s z is
  unfolding all_size
  size-all j h w = sym (w ∙ ap (all_size s z) (drop_of_length-le is {i = j} h))

-- scene_of: as many pictures as items
pub scene_many : (total : ℕ) (head : List ℕ) (f : File) → length (scene_of total head f) ≡ length f.items
scene_many total head f = rw length-map

-- v is what the code makes of a && b, asking for b where a holds
pub and-then : (a b v : Bool) → a ≡ true → v ≡ b → v ≡ (a && b)
and-then a b v e q = q ∙ ap (λ (x : Bool). x && b) (sym e)

pub and-not : (a b v : Bool) → a ≡ false → v ≡ a → v ≡ (a && b)
and-not a b v e q = q ∙ e ∙ ap (λ (x : Bool). x && b) (sym e)

-- tiles_fit, by what the code has of its tests one after the other
module _ (s : Scene) (p : Picture) (g : Grid) (tile : Size) (e : tile ≡ first_input s p) where
  three : (a b c d : Bool) → (a && ((b && c) && d)) ≡ (((a && b) && c) && d)
  three true b c d = refl
  three false b c d = refl

  pub tiles-told : (m x y : Bool) → m ≡ all_size s tile p.inputs → x ≡ (m && leb g.wide (tile.wide * g.columns)) →
      y ≡ (x && leb g.high (tile.high * g.rows)) → (z : Size) → z ≡ p.declared → tiles_fit s p g ≡ (y && same_size z (size g.wide g.high))
  unfolding tiles_fit
  tiles-told m x y em ex ey z ez =
      rw (← e, ey, ex, em, ez)
      (three (all_size s tile p.inputs) (leb g.wide (tile.wide * g.columns)) (leb g.high (tile.high * g.rows)) (same_size p.declared (size g.wide g.high)))

-- made_up, by the derivation that is read
abbrev pub made_by : Scene → Picture → Option Derivation → Bool
made_by s p (Some made.Copy) = same_size p.declared (first_input s p)
made_by s p (Some (made.Tiles down across wide high)) = tiles_fit s p (record { rows = down; columns = across; wide = wide; high = high })
made_by s p (Some (made.Layers wide high)) = same_size p.declared (size wide high)
made_by s p None = true

made_told : (s : Scene) (p : Picture) (r : Recipe) → made_up s p r ≡ made_by s p (told_derivation (ok r))
unfolding made_up told_derivation tiles_fit
made_told s p Coded = refl
made_told s p Copy = refl
made_told s p Opaque = refl
made_told s p (Tiles g) = refl
made_told s p (Layers o) = refl

-- made_up of a recipe by a type that is not derived
made_underived : (s : Scene) (p : Picture) (t : Bool) → true ≡ made_up s p (pick t Coded Opaque)
unfolding made_up
made_underived s p t = both (λ (r : Recipe). true ≡ made_up s p r) t Coded Opaque (λ q. refl) (λ q. refl)

abbrev pub Feeds : Option Derivation → List ℕ → Type 0
Feeds (Some made.Copy) is = 0 < length is
Feeds (Some (made.Tiles down across wide high)) is = 0 < length is
Feeds (Some (made.Layers wide high)) is = Unit {0}
Feeds None is = Unit {0}

shaped_feeds : (r : Recipe) (is : List ℕ) → Shaped r is → Feeds (told_derivation (ok r)) is
unfolding told_derivation
shaped_feeds Coded is h = tt
shaped_feeds Copy is h = omega arith
shaped_feeds Opaque is h = tt
shaped_feeds (Tiles g) is h = h.1
shaped_feeds (Layers o) is h = tt

-- scene_of: the inputs of the picture of an image item
module _ (total : ℕ) (head : List ℕ) (f : File) (r : ℕ) (i : image (item_at f r).type ≡ true) where
  pub scene_inputs : length (picture_at (scene_of total head f) r).inputs ≡ length (targets_of f (id_of f r))
  scene_inputs = ap length (inputs-at total head f r i) ∙ length-map (targets_of f (id_of f r)) (λ (t : ℕ). row_of t f.items)

  pub scene_input : (j : ℕ) → j < length (targets_of f (id_of f r)) →
      get_or (picture_at (scene_of total head f) r).inputs j 0 ≡ row_of (get_or (targets_of f (id_of f r)) j 0) f.items
  scene_input j l = ap (λ (is : List ℕ). get_or is j 0) (inputs-at total head f r i) ∙ map_at (λ (t : ℕ). row_of t f.items) (targets_of f (id_of f r)) j l

  -- k is the row of the input with number j, z the output size in that row
  pub scene_input-size : {t : List ℕ} {pl : Places} → TableOf t head pl f → SizesAre t (scene_of total head f) →
      (j : ℕ) → j < length (targets_of f (id_of f r)) → (k : ℕ) → k ≡ row_of (get_or (targets_of f (id_of f r)) j 0) f.items
      → (z : Size) → ((s : Scene) → SizesAre t s → k < length s → z ≡ output_of (picture_at s k)) →
      z ≡ output_of (picture_at (scene_of total head f) (get_or (picture_at (scene_of total head f) r).inputs j 0))
  scene_input-size v w j l k e z o =
      let m = row_listed f.items (get_or (targets_of f (id_of f r)) j 0) (v.sound.listed (id_of f r) j l) in
      o (scene_of total head f) w (omega (arith, scene_many total head f)) ∙
      ap (λ (k : ℕ). output_of (picture_at (scene_of total head f) k)) (e ∙ sym (scene_input j l))

-- Drawn: the inputs of a picture, and the sizes that the table has of them
module _ {t rows head : List ℕ} {total : ℕ} {f : File} (d : Drawn t rows head total f) (r : ℕ) (i : image (item_at f r).type ≡ true) where
  abbrev s : Scene
  s = scene_of total head f

  abbrev p : Picture
  p = picture_at s r

  abbrev targets : List ℕ
  targets = targets_of f (id_of f r)

  pub inputs-many : length p.inputs ≡ length targets
  inputs-many = scene_inputs total head f r i

  pub input-size : (j : ℕ) → j < length targets → (k : ℕ) → k ≡ row_of (get_or targets j 0) f.items → (z : Size) →
      ((s : Scene) → SizesAre t s → k < length s → z ≡ output_of (picture_at s k)) →
      z ≡ output_of (picture_at s (get_or p.inputs j 0))
  input-size = scene_input-size total head f r i d.followed.view d.sizes

  module _ (h : r < length f.items) where
    pub made_plain : derived (item_at f r).type ≡ false → true ≡ made_up s p p.recipe
    made_plain n =
        let k = recipe-ok total head f r i (d.fed r h) in
        made_underived s p _ ∙ ap (made_up s p) (plain-recipe total head f (item_at f r) n k.0 k.1 ∙ sym k.2)

    -- a derived item has a body
    pub fed-known : derived (item_at f r).type ≡ true → Readable total head f (id_of f r)
    fed-known kind = λ z. fed-body total head f (item_at f r) kind (d.fed r h)

    -- the item is derived
    module _ (kind : derived (item_at f r).type ≡ true) where
      abbrev told : Option Derivation
      told = told_derivation (derivation_for total head f (item_at f r))

      -- and its derivation is read as x
      module _ (x : Option Derivation) (e : x ≡ told) where
        recipe-read : told_derivation (ok p.recipe) ≡ x
        recipe-read = let k = recipe-ok total head f r i (d.fed r h) in
            sym (e ∙ ap told_derivation (derived-recipe total head f (item_at f r) kind k.0 k.1 ∙ ap ok (sym k.2)))

        pub made-read : made_by s p x ≡ made_up s p p.recipe
        made-read = sym (made_told s p p.recipe ∙ ap (made_by s p) recipe-read)

        fed-read : Feeds x targets
        fed-read = subst (λ (y : Option Derivation). Feeds y targets) recipe-read
            (shaped_feeds p.recipe targets (inputs-fed total head f r i (d.fed r h)).0)

      pub made-copy : Some made.Copy ≡ told → (k : ℕ) → (0 < length targets → k ≡ row_of (get_or targets 0 0) f.items) →
          (a z : Size) → a ≡ p.declared → ((s : Scene) → SizesAre t s → k < length s → z ≡ output_of (picture_at s k)) →
          (b : Bool) → b ≡ same_size a z
          → b ≡ made_up s p p.recipe
      made-copy e k g a z ea o b eb =
          let l = fed-read _ e in
          eb ∙ ap (λ (y : Size). same_size y z) ea ∙ ap (same_size p.declared) (input-size 0 l k (g l) z o) ∙ made-read _ e

      pub made_tiles : (down across wide high : ℕ) → Some (made.Tiles down across wide high) ≡ told → (b : Bool) →
          (0 < length p.inputs → b ≡ tiles_fit s p (record
          { rows = down; columns = across; wide = wide; high = high })) → b ≡ made_up s p p.recipe
      made_tiles down across wide high e b g =
          let l = fed-read _ e in
          g (omega (arith, inputs-many)) ∙ made-read _ e

      pub made_layers : (wide high : ℕ) → Some (made.Layers wide high) ≡ told → (a : Size) → a ≡ p.declared → (b : Bool) →
          b ≡ same_size a (size wide high) → b ≡ made_up s p p.recipe
      made_layers wide high e a ea b eb = eb ∙ ap (λ (y : Size). same_size y (size wide high)) ea ∙ made-read _ e

-- good_sizes, by what the code has of its tests one after the other
module _ (s : Scene) (p : Picture) where
  two : (a b c : Bool) → (a && (b && c)) ≡ ((a && b) && c)
  two true b c = refl
  two false b c = refl

  pub good-told : (m x : Bool) → m ≡ made_up s p p.recipe → x ≡ (m && good_size p.declared) → (z : Size) → z ≡ output_of p →
      good_sizes s p ≡ (x && good_size z)
  unfolding good_sizes
  good-told m x em ex z ez = rw (ex, em, ez) (two (made_up s p p.recipe) (good_size p.declared) (good_size (output_of p)))
