-- Copies and grids: what lies beneath a point of one. Assumes nothing.
use Rattle.std.proofs.Common.{
  ◌≡◌,
  ℕ,
  ◌+◌,
  ◌*◌,
  ◌/◌,
  ◌%◌,
  ◌<◌,
  Bool,
  true,
  false,
  eqb,
  List,
  length,
  get_or,
  sym,
  refl,
  ap,
  ◌∙◌,
  subst,
  ⊎_elim,
  mul-le-mul_right,
  div-le_self,
  arith,
  eq-eqb,
}
use Rattle.std.specs.Prelude.{Option, Some, None}
use Rattle.fields.specs.Choice.{pick}
use Rattle.fields.proofs.FieldLaws.{pick_yes, pick_no}
use Rattle.fields.proofs.TestLaws.{and_both}
use Rattle.boxes.specs.Answer.{ok}
use Rattle.boxes.specs.Types.{iden, grid, derived, image}
use Rattle.boxes.proofs.AnswerLaws.{then_ok, ok_inj, ok_bind}
use Rattle.forms.specs.Form.{whole}
use Rattle.table.specs.declared.ItemRow.{ItemRow}
use Rattle.contents.specs.Iinf.{Item}
use Rattle.contents.specs.File.{File}
use Rattle.pictures.specs.declared.Size.{Size}
use Rattle.pictures.specs.declared.Point.{Point}
use Rattle.pictures.specs.declared.Grid as grids
use Rattle.pictures.specs.Turn.{size, point, Inside}
use Rattle.pictures.specs.inner.Told.{told_grid}
use Rattle.pictures.specs.Recipe.{Recipe, Copy, Opaque, Tiles, Grid, grid_form}
use Rattle.pictures.specs.Scene.{Picture, Scene, picture_at, output_of, first_input, all_size, covered, made_up}
use Rattle.pictures.specs.Trace.{tile_at, source_by, source_of}
use Rattle.pictures.specs.inner.GoodScene.{Shaped, GoodPicture}
use Rattle.pictures.proofs.GridLaws.{told-grid}
use Rattle.pictures.proofs.SceneLaws.{same_size_lem, is-made_up}
use Rattle.pictures.proofs.SourceLaws.{tile_in_lem}
use Rattle.rules.specs.Joined.{targets_of, row_of, item_at}
use Rattle.rules.specs.Bytes.{body_of}
use Rattle.rules.specs.Derivations.{its_body, copy_of, tiles_of, layers_of, recipe_for, recipe_of, scene_of}
use Rattle.rules.proofs.DerivationLaws.{rule-17-ok, body-read}
use Rattle.rules.proofs.SceneLaws.{opaque-at, recipe-ok, inputs-fed}
use Rattle.views.specs.inner.View.{SizesAre, id_of}
use Rattle.derived.specs.inner.Told.{Readable, grid_in}
use Rattle.sizing.proofs.SizesLaws.{scene_many, scene_input, scene_input-size}
use Rattle.tracing.specs.inner.Told.{Shown, told_source}
use Rattle.tracing.specs.declared.Source.TheVariants as source

-- the number of a tile fits in 64 bits
pub tile_number : (x y w h c : ℕ) → x < 4294967296 → y < 4294967296 → c < 4294967296 →
    (y / h * c < 18446744073709551616) × (y / h * c + x / w < 18446744073709551616)
tile_number x y w h c i j k =
    let a = div-le_self x w in
    let b = div-le_self y h in
    let m = mul-le-mul_right {m = y / h} {n = 4294967295} c (omega arith) in
    (omega arith, omega arith)

-- recipe_of of a derived item, by its type
module _ (total : ℕ) (head : List ℕ) (f : File) (item : Item) (r : Recipe) (e : recipe_of total head f item ≡ ok r) where
  pub derived-by : derived item.type ≡ true → pick (eqb item.type iden) (copy_of total head f item)
      (pick (eqb item.type grid) (tiles_of total head f item) (layers_of total head f item)) ≡ ok r
  unfolding recipe_for
  derived-by d = (then_ok _ _ r (sym (pick_yes _ _ d) ∙ rule-17-ok item.id (recipe_for total head f item) r e)).2

  copy-by : item.type ≡ iden → r ≡ Copy
  unfolding copy_of
  copy-by q = sym (ok_inj Copy r (then_ok _ _ r (sym (pick_yes _ _ (eq-eqb item.type iden q)) ∙ derived-by (ap (λ (k : ℕ). derived k) q))).2)

  tiles_by : item.type ≡ grid → (b : List ℕ) × (its_body total head f item ≡ ok b) × (g : Grid) × (whole grid_form 0 b ≡ ok g) × (r ≡ Tiles g)
  unfolding tiles_of
  tiles_by q =
      let x = body-read _ _ 17 _ _ Tiles r (sym (pick_no _ _ (ap (λ (k : ℕ). eqb k iden) q) ∙
      pick_yes _ _ (eq-eqb item.type grid q)) ∙ derived-by (ap (λ (k : ℕ). derived k) q)) in
      (x.0, x.1, x.2, x.3, sym x.5)

-- Tiles is not Opaque
tiles_drawn : (g : Grid) → Tiles g ≡ Opaque → ⊥
tiles_drawn g e = let z : ◌≡◌ {A = ℕ} 0 1 = cc in absurd (omega arith)

module _ {t rows head : List ℕ} {total : ℕ} {f : File} (d : Shown t rows head total f) (r : ℕ) (h : r < length f.items) where
  abbrev s : Scene
  s = scene_of total head f

  abbrev picture : Picture
  picture = picture_at s r

  abbrev targets : List ℕ
  targets = targets_of f (id_of f r)

  -- `iden`
  module _ (q : (item_at f r).type ≡ iden) where
    copy-drawn : image (item_at f r).type ≡ true
    copy-drawn = ap (λ (k : ℕ). image k) q

    copied : picture.recipe ≡ Copy
    copied = let x = recipe-ok total head f r copy-drawn (d.fed r h) in x.2 ∙ copy-by total head f (item_at f r) x.0 x.1 q

    copied_one : length targets ≡ 1
    copied_one = subst (λ (x : Recipe). Shaped x targets) copied (inputs-fed total head f r copy-drawn (d.fed r h)).0

    pub copied_source : (k : ItemRow) (p : Point) → (0 < length targets → k.0 ≡ row_of (get_or targets 0 0) f.items) →
        source.Input k p ≡ told_source (source_of s r p)
    unfolding source_by told_source
    copied_source k p g =
        let l : 0 < length targets = omega (arith, copied_one) in
        ap (λ (n : ℕ). source.Input (record { 0 = n }) p) (g l ∙ sym (scene_input total head f r copy-drawn 0 l))
        ∙ sym (ap (λ (x : Recipe). told_source (source_by s picture x p)) copied)

  -- `grid`: its body is read as x, if it can be read
  module _ (q : (item_at f r).type ≡ grid) (x : Option grids.Grid)
      (told : Readable total head f (id_of f r) → x ≡ told_grid (grid_in (body_of total head f (id_of f r)))) where
    grid-told : (g : Grid) × (x ≡ told_grid (ok g)) × (picture.recipe ≡ Tiles g)
    grid-told =
        let k = recipe-ok total head f r (ap (λ (k : ℕ). image k) q) (d.fed r h) in
        let y = tiles_by total head f (item_at f r) k.0 k.1 q in
        (y.2, told (λ j. (y.0, y.1)) ∙ ap told_grid (ok_bind _ (whole grid_form 0) y.0 y.1 ∙ y.3), k.2 ∙ y.4)

    pub grid-there : x ≡ None → ⊥
    unfolding told_grid
    grid-there w = let k = sym w ∙ grid-told.1 in cc

    pub grid_tiles : (a : grids.Grid) → x ≡ Some a →
        picture.recipe ≡ Tiles (record { rows = a.rows; columns = a.columns; wide = a.wide; high = a.high })
    grid_tiles a e = let y = grid-told in y.2 ∙ ap Tiles (ok_inj y.0 _ (told-grid (ok y.0) a (sym y.1 ∙ e)))

  -- tiles, p being a point of the picture
  module _ (g : Grid) (q : picture.recipe ≡ Tiles g) (p : Point) (i : Inside picture.declared p) where
    tiles_image : image (item_at f r).type ≡ true
    tiles_image = by (image (item_at f r).type) refl
      where
        by : (t : Bool) → image (item_at f r).type ≡ t → t ≡ true
        by true e = refl
        by false e = absurd (tiles_drawn g (sym q ∙ opaque-at total head f r e))

    tiles_good : GoodPicture s r
    tiles_good = ⊎_elim (λ o. absurd (tiles_drawn g (sym q ∙ o))) (λ x. x) (d.good r (omega (arith, scene_many total head f)))

    tiles_many : (length targets ≡ g.rows * g.columns) × (0 < length targets)
    tiles_many = subst (λ (x : Recipe). Shaped x targets) q (inputs-fed total head f r tiles_image (d.fed r h)).0

    tiles_under : (p.y / (first_input s picture).high * g.columns + p.x / (first_input s picture).wide < length targets)
        × Inside (first_input s picture) (point (p.x % (first_input s picture).wide) (p.y % (first_input s picture).high))
    unfolding made_up
    tiles_under =
        let m : made_up s picture (Tiles g) ≡ true = subst (λ (x : Recipe). made_up s picture x ≡ true) q (is-made_up s picture tiles_good.sizes) in
        let k = (and_both (all_size s (first_input s picture) picture.inputs) _ m).1 in
        let l = and_both (covered g (first_input s picture)) _ k in
        let w = tile_in_lem g (first_input s picture) p l.0
        (subst (λ (z : Size). Inside z p) (same_size_lem picture.declared (size g.wide g.high) l.1) i) in
        (omega (arith, w.0, tiles_many.0), w.1)

    -- k is the row of the first input, z its output size
    module _ (k : ℕ) (ek : 0 < length targets → k ≡ row_of (get_or targets 0 0) f.items) (z : Size)
        (ez : (s : Scene) → SizesAre t s → k < length s → z ≡ output_of (picture_at s k)) where
      tile_read : z ≡ first_input s picture
      tile_read = scene_input-size total head f r tiles_image d.followed.view d.sizes 0 tiles_many.1 k (ek tiles_many.1) z ez

      pub tile_wide : z.wide ≡ 0 → ⊥
      tile_wide e = omega (arith, e, ap (λ (z : Size). z.wide) tile_read, tiles_under.1.in_x)

      pub tile_high : z.high ≡ 0 → ⊥
      tile_high e = omega (arith, e, ap (λ (z : Size). z.high) tile_read, tiles_under.1.in_y)

      abbrev Tiled : Size → ℕ → Type 0
      Tiled z c = (x : ItemRow) → (p.y / z.high * c + p.x / z.wide < length targets →
          x.0 ≡ row_of (get_or targets (p.y / z.high * c + p.x / z.wide) 0) f.items)
          → source.Input x (point (p.x % z.wide) (p.y % z.high)) ≡ told_source (source_of s r p)

      tiled : Tiled (first_input s picture) g.columns
      unfolding source_by tile_at told_source
      tiled x w =
          let l = tiles_under.0 in
          ap (λ (n : ℕ). source.Input (record { 0 = n })
          (point (p.x % (first_input s picture).wide) (p.y % (first_input s picture).high))) (w l ∙
          sym (scene_input total head f r tiles_image _ l))
          ∙ sym (ap (λ (x : Recipe). told_source (source_by s picture x p)) q)

      pub tiled_source : (c : ℕ) → g.columns ≡ c → Tiled z c
      tiled_source c e = subst (λ (z : Size). Tiled z c) (sym tile_read) (subst (λ (c : ℕ). Tiled (first_input s picture) c) e tiled)
