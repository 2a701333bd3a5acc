-- What rule 17 tells of an image item. Assumes nothing.
use Prim.Native.Nat.{ℕ, ◌*◌}
use native.Mathlib.Nat.{mul-pos}
use native.Mathlib.Omega.{arith}
use mathlib.Core.Path.{◌≡◌, refl, sym, subst, ◌∙◌}
use mathlib.Core.List.{List, [], ◌∷◌, map}
use mathlib.Core.Bool.{Bool, true, false}
use mathlib.Core.Logic.{⊎_elim}
use lib.ListN.{length, length-map}
use lib.Dec.{eqb}
use borrow.Author.Tests.{eqb-true, ltb-true}
use Rattle.fields.specs.Choice.{pick}
use Rattle.fields.specs.Lists.{All}
use Rattle.fields.proofs.FieldLaws.{both, pick_yes}
use Rattle.fields.proofs.TestLaws.{untrue, and_both, or_either}
use Rattle.boxes.specs.Answer.{Answer, ok, refuse, check, ◌>>=◌, ◌>>◌}
use Rattle.boxes.specs.Types.{iden, grid, coded, derived, image}
use Rattle.boxes.proofs.AnswerLaws.{bind_ok, then_ok, check-ok, ok_inj}
use Rattle.forms.proofs.WholeLaws.{whole-sound}
use Rattle.contents.specs.Iinf.{Item}
use Rattle.contents.specs.File.{File}
use Rattle.pictures.specs.Recipe.{Recipe, Coded, Copy, Opaque, Tiles, Layers, grid_form, iovl_form}
use Rattle.pictures.specs.inner.GoodScene.{Shaped}
use Rattle.pictures.proofs.RecipeLaws.{grid-some, iovl-offsets}
use Rattle.rules.specs.Joined.{targets_of, row_of, item_at}
use Rattle.rules.specs.Derivations.{nothing_in, all_images, inputs_of, copy_of, tiles_of, layers_of, recipe_for, as_rule17, recipe_of}

-- Shaped, by the number of inputs only
pub shaped-map : (g : ℕ → ℕ) (r : Recipe) (is : List ℕ) → Shaped r is → Shaped r (map g is)
shaped-map g Coded is h = rw h
shaped-map g Opaque is h = h
shaped-map g Copy is h = length-map is g ∙ h
shaped-map g (Tiles t) is h = rw length-map h
shaped-map g (Layers o) is h = rw length-map h

pub shaped-drawn : (r : Recipe) (is : List ℕ) → Shaped r is → r ≡ Opaque → ⊥
shaped-drawn r is h e = rw e at h

-- nothing_in
module _ {A : Type 0} where
  pub nothing_in_lem : (l : List A) → nothing_in l ≡ true → l ≡ []
  nothing_in_lem [] e = refl
  nothing_in_lem (x ∷ xs) e = untrue e

  pub nothing-none : (l : List A) → length l ≡ 0 → nothing_in l ≡ true
  nothing-none [] e = refl
  nothing-none (x ∷ xs) e = absurd (omega arith)

  pub nothing-some : (l : List A) → (length l ≡ 0 → ⊥) → nothing_in l ≡ false
  nothing-some [] n = absurd (n refl)
  nothing-some (x ∷ xs) n = refl

-- all_images
abbrev pub Images : File → List ℕ → Type 0
Images f ts = All (λ (t : ℕ). image (item_at f (row_of t f.items)).type ≡ true) ts

all_images_lem : (f : File) (ts : List ℕ) → all_images f ts ≡ true → Images f ts
unfolding all_images
all_images_lem f [] e = tt
all_images_lem f (t ∷ ts) e = let k = and_both (image (item_at f (row_of t f.items)).type) (all_images f ts) e in (k.0, all_images_lem f ts k.1)

-- a body that is read by w and tested, before it is a recipe
pub body-read : {A : Type 0} (m : Answer (List ℕ)) (w : List ℕ → Answer A) (n p : ℕ) (t : A → Bool) (K : A → Recipe) (r : Recipe)
    → (m >>= (λ b. w b >>= (λ a. check n p (t a) >> ok (K a)))) ≡ ok r → (b : List ℕ) × (m ≡ ok b) × (a : A) × (w b ≡ ok a) × (t a ≡ true) × (K a ≡ r)
body-read m w n p t K r e =
    let x = bind_ok _ _ r e in
    let y = bind_ok _ _ r x.2 in
    let z = then_ok _ _ r y.2 in
    (x.0, x.1, y.0, y.1, check-ok n p _ z.0 z.1, ok_inj _ _ z.2)

module _ (total : ℕ) (head : List ℕ) (f : File) (item : Item) where
  abbrev ins : List ℕ
  ins = inputs_of total head f item

  abbrev Fed : Recipe → Type 0
  Fed r = Shaped r ins

  -- copy_of, tiles_of, layers_of
  copy-fed : (r : Recipe) → copy_of total head f item ≡ ok r → Fed r
  unfolding copy_of
  copy-fed r e =
      let x = then_ok _ _ r e in
      subst Fed (ok_inj Copy r x.2) (eqb-true _ 1 (and_both (eqb (length ins) 1) _ (check-ok 17 _ _ x.0 x.1)).0)

  tiles_fed : (r : Recipe) → tiles_of total head f item ≡ ok r → Fed r
  unfolding tiles_of
  tiles_fed r e =
      let x = body-read _ _ 17 _ _ Tiles r e in
      let g = x.2 in
      let n : length ins ≡ g.rows * g.columns = eqb-true _ _ x.4 in
      let some = grid-some _ g (whole-sound grid_form 0 _ g x.3) in
      subst Fed x.5 (n, rw n (mul-pos some.0 some.1))

  layers_fed : (r : Recipe) → layers_of total head f item ≡ ok r → Fed r
  unfolding layers_of
  layers_fed r e =
      let x = body-read _ _ 17 _ _ Layers r e in
      subst Fed x.5 (iovl-offsets _ _ x.2 (whole-sound (iovl_form (length ins)) 0 _ x.2 x.3), ltb-true 0 _ x.4)

  -- recipe_for: the inputs of an image item are as many as its recipe says, and images
  recipe_for_lem : image item.type ≡ true → (r : Recipe) → recipe_for total head f item ≡ ok r → Fed r × Images f ins
  unfolding recipe_for
  recipe_for_lem i r =
      both (λ (m : Answer Recipe). m ≡ ok r → Fed r × Images f ins) _ _ _
      (λ d e. let x = then_ok _ _ r e in (by-type x.2, all_images_lem f ins (check-ok 17 _ _ x.0 x.1)))
      (λ d e. let x = then_ok _ _ r e in
      let z = nothing_in_lem ins (check-ok 17 _ _ x.0 x.1) in
      (subst Fed (sym (pick_yes _ _ (is-coded d)) ∙ ok_inj _ r x.2) z, subst (Images f) (sym z) tt))
    where
      by-type : pick (eqb item.type iden) (copy_of total head f item)
          (pick (eqb item.type grid) (tiles_of total head f item) (layers_of total head f item)) ≡ ok r → Fed r
      by-type = both (λ (m : Answer Recipe). m ≡ ok r → Fed r) _ _ _ (λ q. copy-fed r)
          (λ q. both (λ (m : Answer Recipe). m ≡ ok r → Fed r) _ _ _ (λ q. tiles_fed r) (λ q. layers_fed r))

      is-coded : derived item.type ≡ false → coded item.type ≡ true
      is-coded d = ⊎_elim (λ h. h) (λ h. untrue (sym d ∙ h)) (or_either (coded item.type) (derived item.type) i)

-- recipe_of
pub rule-17-ok : (id : ℕ) (m : Answer Recipe) (r : Recipe) → as_rule17 id m ≡ ok r → m ≡ ok r
unfolding as_rule17
rule-17-ok id (ok x) r e = e
rule-17-ok id (refuse n p) r e = let z : ◌≡◌ {A = ℕ} 0 1 = cc in absurd (omega arith)

pub recipe-fed : (total : ℕ) (head : List ℕ) (f : File) (item : Item) → image item.type ≡ true → (r : Recipe) →
    recipe_of total head f item ≡ ok r → Shaped r (targets_of f item.id) × Images f (targets_of f item.id)
recipe-fed total head f item i r e = recipe_for_lem total head f item i r (rule-17-ok item.id (recipe_for total head f item) r e)
