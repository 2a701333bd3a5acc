-- The scene of a file that is judged well is good. Assumes nothing.
use Prim.Native.Nat.{ℕ, ◌≤◌, ◌<◌}
use native.Mathlib.Decide.{dec_lt}
use native.Mathlib.Omega.{arith}
use mathlib.Core.Path.{◌≡◌, refl, sym, ap, subst, ◌∙◌}
use mathlib.Core.List.{List, [], ◌∷◌, map}
use mathlib.Core.Bool.{Bool, true, false}
use mathlib.Core.Logic.{◌⊎◌, inl, inr}
use lib.ListN.{length, length-map, get_or-map, get_or-eq_default}
use borrow.Author.Tests.{leb-true, eq-eqb}
use Rattle.fields.specs.Choice.{pick}
use Rattle.fields.specs.Lists.{All}
use Rattle.fields.proofs.FieldLaws.{pick_yes, pick_no}
use Rattle.fields.proofs.TestLaws.{untrue, both-and}
use Rattle.boxes.specs.Answer.{ok}
use Rattle.boxes.specs.Types.{image}
use Rattle.boxes.proofs.AnswerLaws.{bind_ok, then_ok, check-ok, ok_inj}
use Rattle.contents.specs.Iinf.{Item}
use Rattle.contents.specs.File.{File}
use Rattle.pictures.specs.Turn.{AllFit}
use Rattle.pictures.specs.Decode.{turns_of}
use Rattle.pictures.specs.Recipe.{Recipe, Opaque}
use Rattle.pictures.specs.Scene.{Picture, Scene, picture_at, output_of, good_sizes}
use Rattle.pictures.specs.Depth.{depth}
use Rattle.pictures.specs.inner.GoodScene.{Shaped, GoodPicture, GoodScene}
use Rattle.pictures.proofs.SceneLaws.{good-output}
use Rattle.pictures.proofs.DecodeLaws.{turns_fit}
use Rattle.rules.specs.Joined.{targets_of, boxes_of, row_of, no_item, item_at}
use Rattle.rules.specs.Derivations.{recipe_of, recipe_or, declared_in, picture_of, scene_of}
use Rattle.rules.specs.Rules.{rule17, rule19, rule20, judged}
use Rattle.rules.specs.Opening.{accepted}
use Rattle.rules.proofs.RuleLaws.{Judged, judged-each}
use Rattle.rules.proofs.DerivationLaws.{Images, shaped-map, shaped-drawn, recipe-fed}

-- All
all_map : (P Q : ℕ → Type 0) (g : ℕ → ℕ) → ((t : ℕ) → Q t → P (g t)) → (ts : List ℕ) → All Q ts → All P (map g ts)
all_map P Q g h [] a = tt
all_map P Q g h (t ∷ ts) a = (h t a.0, all_map P Q g h ts a.1)

module _ (total : ℕ) (head : List ℕ) (f : File) where
  abbrev s : Scene
  s = scene_of total head f

  -- picture_of
  pub picture-at : (i : ℕ) → picture_at s i ≡ picture_of total head f (item_at f i)
  unfolding picture_of pick
  picture-at i = get_or-map (λ (i : Item). picture_of total head f i) f.items i no_item

  pub opaque-at : (i : ℕ) → image (item_at f i).type ≡ false → (picture_at s i).recipe ≡ Opaque
  unfolding picture_of
  opaque-at i e = ap (λ (p : Picture). p.recipe) (picture-at i ∙ pick_no _ _ e)

  module _ (i : ℕ) (e : image (item_at f i).type ≡ true) where
    abbrev id : ℕ
    id = (item_at f i).id

    pub recipe-at : (picture_at s i).recipe ≡ recipe_or (recipe_of total head f (item_at f i))
    unfolding picture_of
    recipe-at = ap (λ (p : Picture). p.recipe) (picture-at i ∙ pick_yes _ _ e)

    pub inputs-at : (picture_at s i).inputs ≡ map (λ t. row_of t f.items) (targets_of f id)
    unfolding picture_of
    inputs-at = ap (λ (p : Picture). p.inputs) (picture-at i ∙ pick_yes _ _ e)

    pub declared-at : (picture_at s i).declared ≡ declared_in (boxes_of f id)
    unfolding picture_of
    declared-at = ap (λ (p : Picture). p.declared) (picture-at i ∙ pick_yes _ _ e)

    pub turns_at : (picture_at s i).turns ≡ turns_of (picture_at s i).declared (boxes_of f id)
    unfolding picture_of
    turns_at = ap (λ (p : Picture). p.turns) (picture-at i ∙ pick_yes _ _ e) ∙ rw declared-at

    fit_at : good_sizes s (picture_at s i) ≡ true → AllFit (picture_at s i).turns (picture_at s i).declared
    unfolding output_of
    fit_at g = rw turns_at (turns_fit (boxes_of f id) (picture_at s i).declared (rw turns_at at (good-output s (picture_at s i) g)))

    -- an item that keeps 17 has a recipe, and the inputs that it asks for
    module _ (k : rule17 total head f (item_at f i) ≡ ok tt) where
      pub recipe-ok : (r : Recipe) × (recipe_of total head f (item_at f i) ≡ ok r) × ((picture_at s i).recipe ≡ r)
      unfolding rule17 recipe_or
      recipe-ok = let x = bind_ok _ _ tt k in (x.0, x.1, recipe-at ∙ ap recipe_or x.1)

      pub inputs-fed : Shaped (picture_at s i).recipe (targets_of f id) × Images f (targets_of f id)
      inputs-fed = let x = recipe-ok in rw x.2 (recipe-fed total head f (item_at f i) e x.0 x.1)

  module _ (j : Judged total head f) where
    -- an image item is in its row
    image-listed : (i : ℕ) → image (item_at f i).type ≡ true → i < length f.items
    image-listed i e = elim (dec_lt i (length f.items)) [
      | yes l ↦ l
      | no n ↦ untrue
          (rw (get_or-eq_default f.items no_item {n = i} (omega (arith, n))) at e)
    ]

    image-fed : (i : ℕ) → image (item_at f i).type ≡ true →
        Shaped (picture_at s i).recipe (targets_of f (item_at f i).id) × Images f (targets_of f (item_at f i).id)
    image-fed i e = inputs-fed i e (j.by-17 i (image-listed i e))

    image-drawn : (i : ℕ) → image (item_at f i).type ≡ true → (i < length s) × ((picture_at s i).recipe ≡ Opaque → ⊥)
    image-drawn i e = (rw length-map (image-listed i e), shaped-drawn _ _ (image-fed i e).0)

    image-shallow : (i : ℕ) → i < length f.items → depth s i ≤ 16
    unfolding rule19
    image-shallow i l = leb-true (depth s i) 16 (check-ok 19 _ _ tt (j.by-19 i l))

    image-sizes : (i : ℕ) → image (item_at f i).type ≡ true → depth s i ≤ 16 → good_sizes s (picture_at s i) ≡ true
    unfolding rule20
    image-sizes i e d =
        check-ok 20 _ _ tt (sym (pick_yes _ _ (both-and _ _ e (eq-eqb (depth s i) (depth s i) refl))) ∙ j.by-20 (depth s i) (omega arith) i (image-listed i e))

    image-good : (i : ℕ) → image (item_at f i).type ≡ true → GoodPicture s i
    image-good i e =
        let l = image-listed i e in
        let d = image-shallow i l in
        let z = image-sizes i e d in
        let x = image-fed i e in
        record {
          inputs-drawn = rw (inputs-at i e) (all_map _ _ (λ t. row_of t f.items)
              (λ t h. image-drawn (row_of t f.items) h) (targets_of f (item_at f i).id) x.1);
          shaped = rw (inputs-at i e) (shaped-map (λ t. row_of t f.items) (picture_at s i).recipe (targets_of f (item_at f i).id) x.0);
          fit = fit_at i e z;
          sizes = z;
          shallow = d;
        }

-- scene_of
pub judged-good : (total : ℕ) (head : List ℕ) (f : File) → judged total head f ≡ ok tt → GoodScene (scene_of total head f)
judged-good total head f e i l = by (image (item_at f i).type) refl
  where
    by : (t : Bool) → image (item_at f i).type ≡ t → ((picture_at (scene_of total head f) i).recipe ≡ Opaque) ⊎ GoodPicture (scene_of total head f) i
    by false q = inl (opaque-at total head f i q)
    by true q = inr (image-good total head f (judged-each total head f e) i q)

-- accepted
pub accepted_scene : (total : ℕ) (head : List ℕ) (f : File) → accepted total head ≡ ok f → GoodScene (scene_of total head f)
unfolding accepted
accepted_scene total head f e =
    let x = bind_ok _ _ f e in
    let y = then_ok _ _ f x.2 in
    subst (λ (f : File). GoodScene (scene_of total head f)) (ok_inj _ f y.2) (judged-good total head x.0 y.1)
