-- 17: the recipe of an item is refused exactly where its derivation is wrong, the item being one that 30 lets pass, as 17 is asked only
-- where all items are such. Assumes nothing.
--   Denies m W     m is refused where W is there, and a value where it is not
use Prim.Native.Nat.{ℕ, ◌*◌, ◌<◌}
use native.Mathlib.Omega.{arith}
use mathlib.Core.Path.{◌≡◌, refl, sym, ap, ◌∙◌}
use mathlib.Core.List.{List, [], ◌∷◌}
use mathlib.Core.Bool.{Bool, true, false, ◌||◌}
use mathlib.Core.Logic.{◌⊎◌, inl, inr}
use lib.ListN.{length}
use lib.Dec.{eqb}
use borrow.Author.Tests.{ltb-true, lt-ltb, eqb-true, eq-eqb}
use Rattle.fields.specs.Choice.{pick}
use Rattle.fields.proofs.TestLaws.{untrue, or_either}
use Rattle.boxes.specs.Answer.{Answer, ok, refuse, check, ◌>>=◌, ◌>>◌}
use Rattle.boxes.specs.Types.{iden, grid, iovl, derived, image}
use Rattle.boxes.proofs.AnswerLaws.{bind_ok, ok_bind, then_ok, ok-then, check-ok, ok-check}
use Rattle.forms.proofs.WholeLaws.{whole-sound, whole-complete}
use Rattle.contents.specs.Iinf.{Item}
use Rattle.contents.specs.Iloc.{Location}
use Rattle.contents.specs.File.{File}
use Rattle.pictures.specs.Recipe.{Recipe, Tiles, Layers, Grid, Overlay, grid_form, iovl_form}
use Rattle.rules.specs.Joined.{location_of, targets_of, row_of, item_at}
use Rattle.rules.specs.Bytes.{chained}
use Rattle.rules.specs.Bodies.{ItsBody}
use Rattle.rules.specs.Derivations.{nothing_in, all_images, its_body, copy_of, tiles_of, layers_of, recipe_for, as_rule17}
use Rattle.rules.specs.Rules.{rule17}
use Rattle.rules.proofs.DerivationLaws.{rule-17-ok}
use Rattle.rules.proofs.ByteLaws.{body-joined}
use Rattle.faults.specs.Fault.{Any, Not, WrongDerivation, not-derived, no_picture, copy-inputs, copy-extents, no_tiles, no_layers}
use Rattle.faults.proofs.TellsLaws.{Tells, tells_and, tells_itself, tells_equal, tells_each}

pub record Denies {A : Type 0} (m : Answer A) (W : Type 0) : Type 0 where
  pub there : (n p : ℕ) → m ≡ refuse n p → W
  pub absent : (a : A) → m ≡ ok a → W → ⊥

never : {A B : Type 0} (a : A) (n p : ℕ) → ok a ≡ refuse n p → B
never a n p e = let z : ◌≡◌ {A = ℕ} 0 1 = cc in absurd (omega arith)

denies_as : {A : Type 0} {m : Answer A} {W U : Type 0} → (W → U) → (U → W) → Denies m W → Denies m U
denies_as to from k = record { there = λ n p e. to (k.there n p e); absent = λ a e u. k.absent a e (from u) }

-- check, then more
denies_then : {A : Type 0} (n p : ℕ) (t : Bool) (m : Answer A) {W U : Type 0} → Tells t W → Denies m U → Denies (check n p t >> m) (W ⊎ U)
unfolding check ◌>>◌
denies_then n p true m {W} {U} k l = record { there = λ i j e. inr (l.there i j e); absent = λ a e w. by a e w }
  where
    by : (a : _) → m ≡ ok a → W ⊎ U → ⊥
    by a e (inl w) = k.absent refl w
    by a e (inr u) = l.absent a e u
denies_then n p false m k l = record { there = λ i j e. inl (k.there refl); absent = λ a e w. let z : ◌≡◌ {A = ℕ} 0 1 = cc in omega arith }

denies_nothing : {A : Type 0} (a : A) → Denies (ok a) ⊥
denies_nothing a = record { there = λ n p e. never a n p e; absent = λ b e w. w }

denies_pick : {A : Type 0} (t : Bool) (a b : Answer A) {W U : Type 0} → (t ≡ true → Denies a W) →
    (t ≡ false → Denies b U) → Denies (pick t a b) (((t ≡ true) × W) ⊎ ((t ≡ false) × U))
unfolding pick
denies_pick true a b {W} {U} k l = denies_as (λ w. inl (refl, w)) by (k refl)
  where
    by : ((true ≡ true) × W) ⊎ ((true ≡ false) × U) → W
    by (inl w) = w.1
    by (inr u) = untrue (sym u.0)
denies_pick false a b {W} {U} k l = denies_as (λ u. inr (refl, u)) by (l refl)
  where
    by : ((false ≡ true) × W) ⊎ ((false ≡ false) × U) → U
    by (inl w) = untrue w.0
    by (inr u) = u.1

nothing-there : {A : Type 0} (l : List A) → Tells (nothing_in l) (Not (l ≡ []))
nothing-there [] = record { there = λ e. untrue (sym e); absent = λ e w. w refl }
nothing-there (x ∷ xs) = record { there = λ e q. let z : ◌≡◌ {A = ℕ} 0 1 = cc in omega arith; absent = λ e w. untrue e }

module _ (total : ℕ) (head : List ℕ) (f : File) (item : Item) (good : chained 8 f item.id ≡ true) where
  abbrev l : Location
  l = location_of f item.id

  abbrev Body : List ℕ → Type 0
  Body b = ItsBody total head f item.id b

  abbrev ts : List ℕ
  ts = targets_of f item.id

  abbrev Wrong : Type 0
  Wrong = WrongDerivation total head f item.id l item.type ts

  abbrev NoPicture : Type 0
  NoPicture = Any (λ (t : ℕ). image (item_at f (row_of t f.items)).type ≡ false) ts

  abbrev NoTiles : Type 0
  NoTiles = (b : List ℕ) (g : Grid) → Body b → grid_form.Spells b g → length ts ≡ g.rows * g.columns → ⊥

  abbrev NoLayers : Type 0
  NoLayers = (b : List ℕ) (o : Overlay) → Body b → (iovl_form (length ts)).Spells b o → 0 < length ts → ⊥

  -- its_body
  body-sound : (b : List ℕ) → its_body total head f item ≡ ok b → Body b
  body-sound b = (body-joined total head f item.id b good).0

  body-complete : (b : List ℕ) → Body b → its_body total head f item ≡ ok b
  body-complete b = (body-joined total head f item.id b good).1

  copy_denied : Denies (copy_of total head f item) ((Not (length ts ≡ 1) ⊎ Not (l.extents ≡ [])) ⊎ ⊥)
  unfolding copy_of
  copy_denied = denies_then 17 item.id _ _ (tells_and (eqb (length ts) 1) (nothing_in l.extents) (tells_equal _ 1)
      (nothing-there l.extents)) (denies_nothing _)

  tiles_denied : Denies (tiles_of total head f item) NoTiles
  unfolding tiles_of
  tiles_denied =
      record {
        there = λ n p e b g h s q.
            never (Tiles g) n p
            (sym (ok_bind _ _ b (body-complete b h) ∙ ok_bind _ _ g (whole-complete grid_form 0 b g s) ∙ ok-then _ _ tt (ok-check 17 _ _ (eq-eqb _ _ q)))
            ∙ e);
        absent = λ a e w.
            let x = bind_ok _ _ a e in
            let y = bind_ok _ _ a x.2 in
            let z = then_ok _ _ a y.2 in
            w x.0 y.0 (body-sound _ x.1) (whole-sound grid_form 0 _ _ y.1) (eqb-true _ _ (check-ok 17 _ _ z.0 z.1));
      }

  layers_denied : Denies (layers_of total head f item) NoLayers
  unfolding layers_of
  layers_denied =
      record {
        there = λ n p e b o h s q.
            never (Layers o) n p
            (sym (ok_bind _ _ b (body-complete b h) ∙
            ok_bind _ _ o (whole-complete (iovl_form (length ts)) 0 b o s) ∙
            ok-then _ _ tt (ok-check 17 _ _ (lt-ltb _ _ q)))
            ∙ e);
        absent = λ a e w.
            let x = bind_ok _ _ a e in
            let y = bind_ok _ _ a x.2 in
            let z = then_ok _ _ a y.2 in
            w x.0 y.0 (body-sound _ x.1) (whole-sound (iovl_form (length ts)) 0 _ _ y.1) (ltb-true _ _ (check-ok 17 _ _ z.0 z.1));
      }

  abbrev Joined : Type 0
  Joined =
      ((derived item.type ≡ true)
      × (NoPicture
      ⊎ (((eqb item.type iden ≡ true) × ((Not (length ts ≡ 1) ⊎ Not (l.extents ≡ [])) ⊎ ⊥))
      ⊎ ((eqb item.type iden ≡ false) × (((eqb item.type grid ≡ true) × NoTiles) ⊎ ((eqb item.type grid ≡ false) × NoLayers))))))
      ⊎ ((derived item.type ≡ false) × (Not (ts ≡ []) ⊎ ⊥))

  joined_denied : Denies (recipe_for total head f item) Joined
  unfolding recipe_for all_images
  joined_denied =
      denies_pick (derived item.type) _ _
      (λ d. denies_then 17 item.id _ _ (tells_each (λ (t : ℕ). image (item_at f (row_of t f.items)).type) _
      (all_images f) refl (λ x xs. refl) (λ t. tells_itself _) ts) (denies_pick (eqb item.type iden) _ _
      (λ q. copy_denied) (λ q. denies_pick (eqb item.type grid) _ _ (λ q. tiles_denied) (λ q. layers_denied))))
      (λ d. denies_then 17 item.id _ _ (nothing-there ts) (denies_nothing _))

  -- `iovl` is what a derived item is that is neither `iden` nor `grid`
  is_layers : derived item.type ≡ true → eqb item.type iden ≡ false → eqb item.type grid ≡ false → item.type ≡ iovl
  is_layers d i g = by (or_either (eqb item.type iden) (eqb item.type grid || eqb item.type iovl) d)
    where
      then : (eqb item.type grid ≡ true) ⊎ (eqb item.type iovl ≡ true) → item.type ≡ iovl
      then (inl e) = untrue (sym g ∙ e)
      then (inr e) = eqb-true _ _ e

      by : (eqb item.type iden ≡ true) ⊎ ((eqb item.type grid || eqb item.type iovl) ≡ true) → item.type ≡ iovl
      by (inl e) = untrue (sym i ∙ e)
      by (inr e) = then (or_either (eqb item.type grid) (eqb item.type iovl) e)

  to : Joined → Wrong
  to (inr (d, inl n)) = not-derived d n
  to (inl (d, inl a)) = no_picture d a
  to (inl (d, inr (inl (i, inr x)))) = elim x [ ]
  to (inr (d, inr x)) = elim x [ ]
  to (inl (d, inr (inl (i, inl (inl n))))) = copy-inputs (eqb-true _ _ i) n
  to (inl (d, inr (inl (i, inl (inr n))))) = copy-extents (eqb-true _ _ i) n
  to (inl (d, inr (inr (i, inl (g, n))))) = no_tiles (eqb-true _ _ g) n
  to (inl (d, inr (inr (i, inr (g, n))))) = no_layers (is_layers d i g) n

  from : Wrong → Joined
  from (not-derived d n) = inr (d, inl n)
  from (no_picture d a) = inl (d, inl a)
  from (copy-inputs e n) = inl (ap derived e, inr (inl (ap (λ (t : ℕ). eqb t iden) e, inl (inl n))))
  from (copy-extents e n) = inl (ap derived e, inr (inl (ap (λ (t : ℕ). eqb t iden) e, inl (inr n))))
  from (no_tiles e n) = inl (ap derived e, inr (inr (ap (λ (t : ℕ). eqb t iden) e, inl (ap (λ (t : ℕ). eqb t grid) e, n))))
  from (no_layers e n) = inl (ap derived e, inr (inr (ap (λ (t : ℕ). eqb t iden) e, inr (ap (λ (t : ℕ). eqb t grid) e, n))))

  -- rule17
  abbrev passed : Recipe → Answer (Unit {0})
  passed r = ok tt

  as-17 : (m : Answer Recipe) (n p : ℕ) → (as_rule17 item.id m >>= passed) ≡ refuse n p → ((n ≡ 17) × (p ≡ item.id)) × ((i : ℕ) × (j : ℕ) × (m ≡ refuse i j))
  unfolding as_rule17 ◌>>=◌
  as-17 (ok r) n p e = never tt n p e
  as-17 (refuse i j) n p e = ((cc, cc), (i, j, refl))

  pub rule-17-there : (n p : ℕ) → rule17 total head f item ≡ refuse n p → ((n ≡ 17) × (p ≡ item.id)) × Wrong
  unfolding rule17
  rule-17-there n p e = let x = as-17 (recipe_for total head f item) n p e in (x.0, to (joined_denied.there x.1.0 x.1.1 x.1.2))

  pub rule-17-absent : rule17 total head f item ≡ ok tt → Wrong → ⊥
  unfolding rule17
  rule-17-absent e w = let x = bind_ok _ _ tt e in joined_denied.absent x.0 (rule-17-ok item.id _ x.0 x.1) (from w)
