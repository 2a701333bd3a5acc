-- What the code says of a derivation, and rule 17 by it. Assumes nothing.
use Prim.Native.Nat.{ℕ, ◌*◌}
use native.Mathlib.Omega.{arith}
use mathlib.Core.Path.{◌≡◌, refl, sym, ap, subst, ◌∙◌}
use mathlib.Core.List.{List, []}
use mathlib.Core.Bool.{Bool, true, false}
use Rattle.std.specs.Prelude.{Option, Some, None}
use Rattle.std.specs.Option.{is_some}
use lib.ListN.{length}
use lib.Dec.{eqb, ltb}
use borrow.Author.Tests.{eq-eqb, ne_eqb, lt-ltb, le-ltb}
use Rattle.fields.specs.Choice.{pick}
use Rattle.fields.proofs.FieldLaws.{both, pick_yes, pick_no}
use Rattle.fields.proofs.TestLaws.{both-and, and_none}
use Rattle.boxes.specs.Answer.{Answer, ok, refuse, check, ◌>>=◌, ◌>>◌}
use Rattle.boxes.specs.Types.{iden, grid, coded, derived}
use Rattle.boxes.proofs.AnswerLaws.{then_ok, ok-then, ok-check, ok_inj, bind_assoc, refuse_bind}
use Rattle.forms.specs.Form.{whole}
use Rattle.contents.specs.Iinf.{Item}
use Rattle.contents.specs.File.{File}
use Rattle.pictures.specs.Recipe.{Recipe, Coded, Copy, Opaque, Tiles, Layers, Grid, Overlay, grid_form, iovl_form}
use Rattle.pictures.specs.inner.Told.{told_grid}
use Rattle.pictures.specs.declared.Grid as grids
use Rattle.pictures.specs.declared.Overlay as overlays
use Rattle.pictures.proofs.RefusedLaws.{Refused, refused-ok}
use Rattle.pictures.proofs.GridLaws.{told-grid, told_no_grid}
use Rattle.pictures.proofs.OverlayLaws.{told-overlay, told_no_overlay}
use Rattle.rules.specs.Joined.{location_of, targets_of}
use Rattle.rules.specs.Derivations.{nothing_in, all_images, its_body, copy_of, tiles_of, layers_of, recipe_for, as_rule17, recipe_of}
use Rattle.rules.specs.Rules.{rule17}
use Rattle.views.specs.inner.Told.{fault_of}
use Rattle.rules.proofs.DerivationLaws.{nothing-none, nothing-some, body-read, rule-17-ok}
use Rattle.derived.proofs.BodyLaws.{body-none}
use Rattle.derived.specs.inner.Told.{grid_in, OverlayIs, derivation_for, told_derivation}
use Rattle.derived.specs.declared.Derivation.{Derivation}
use Rattle.derived.specs.declared.Derivation.TheVariants as made

-- check
check-refused : (n p : ℕ) (t : Bool) (m : Answer Recipe) → t ≡ false → Refused (check n p t >> m)
unfolding check ◌>>◌
check-refused n p t m e = (n, p, rw e)

then-refused : (n p : ℕ) (t : Bool) (m : Answer Recipe) → Refused m → Refused (check n p t >> m)
unfolding check ◌>>◌
then-refused n p true m r = r
then-refused n p false m r = (n, p, refl)

check-then : (n p : ℕ) (t : Bool) (m : Answer Recipe) → t ≡ true → (check n p t >> m) ≡ m
check-then n p t m e = ok-then _ m tt (ok-check n p t e)

-- told_derivation of a refusal, and of what a check guards
told-refused : (m : Answer Recipe) → Refused m → told_derivation m ≡ None
unfolding told_derivation
told-refused m r = ap told_derivation r.2

checked_yes : (n p : ℕ) (t : Bool) (m : Answer Recipe) → t ≡ true → told_derivation (check n p t >> m) ≡ told_derivation m
checked_yes n p t m e = ap told_derivation (check-then n p t m e)

checked_no : (n p : ℕ) (t : Bool) (m : Answer Recipe) → t ≡ false → told_derivation (check n p t >> m) ≡ None
checked_no n p t m e = told-refused _ (check-refused n p t m e)

-- what is read, by g: refused, a value, or one that no value will do for
module _ {A : Type 0} (g : A → Answer Recipe) where
  read-refused : (m : Answer A) → Refused m → told_derivation (m >>= g) ≡ None
  unfolding ◌>>=◌ told_derivation
  read-refused m r = ap (λ (x : Answer A). told_derivation (x >>= g)) r.2

  read_ok : (m : Answer A) (a : A) → m ≡ ok a → told_derivation (m >>= g) ≡ told_derivation (g a)
  unfolding ◌>>=◌
  read_ok m a e = ap (λ (x : Answer A). told_derivation (x >>= g)) e

  read-never : ((a : A) → told_derivation (g a) ≡ None) → (m : Answer A) → told_derivation (m >>= g) ≡ None
  unfolding ◌>>=◌ told_derivation
  read-never h (ok a) = h a
  read-never h (refuse n p) = refl

-- OverlayIs: what is refused, and what is a value
overlay-refused : (m : Answer (List ℕ)) (n : ℕ) → OverlayIs m n None → Refused (m >>= whole (iovl_form n) 0)
unfolding ◌>>=◌
overlay-refused (ok b) n e = told_no_overlay b _ (sym e)
overlay-refused (refuse k p) n e = (k, p, refl)

overlay_read : (m : Answer (List ℕ)) (n : ℕ) (r : overlays.Overlay) → OverlayIs m n (Some r) →
    (o : Overlay) × ((m >>= whole (iovl_form n) 0) ≡ ok o) × (o.wide ≡ r.wide) × (o.high ≡ r.high)
unfolding ◌>>=◌
overlay_read (ok b) n r e = let o = told-overlay b _ r (sym e) in (o.overlay, o.is, o.wide, o.high)
overlay_read (refuse i p) n r e = cc

-- tiles_of
module _ (total : ℕ) (head : List ℕ) (f : File) (item : Item) where
  abbrev tile : Grid → Answer Recipe
  tile g = check 17 item.id (eqb (length (targets_of f item.id)) (g.rows * g.columns)) >> ok (Tiles g)

  abbrev its_grid : Answer Grid
  its_grid = grid_in (its_body total head f item)

  tiles_read : told_derivation (tiles_of total head f item) ≡ told_derivation (its_grid >>= tile)
  unfolding tiles_of
  tiles_read = ap told_derivation (sym (bind_assoc (its_body total head f item) (whole grid_form 0) tile))

  pub tiles_wrong : None ≡ told_grid its_grid → None ≡ told_derivation (tiles_of total head f item)
  tiles_wrong e = sym (tiles_read ∙ read-refused tile its_grid (told_no_grid _ (sym e)))

  module _ (g : grids.Grid) (e : Some g ≡ told_grid its_grid) where
    abbrev read_tiles : Recipe
    read_tiles = Tiles (record { rows = g.rows; columns = g.columns; wide = g.wide; high = g.high })

    tiles_told : told_derivation (tiles_of total head f item) ≡ told_derivation
        (check 17 item.id (eqb (length (targets_of f item.id)) (g.rows * g.columns)) >> ok read_tiles)
    tiles_told = tiles_read ∙ read_ok tile its_grid _ (told-grid _ g (sym e))

    module _ (n : ℕ) (counted : n ≡ length (targets_of f item.id)) where
      pub tiles_is : n ≡ g.rows * g.columns → Some (made.Tiles g.rows g.columns g.wide g.high) ≡ told_derivation (tiles_of total head f item)
      unfolding told_derivation
      tiles_is q = sym (tiles_told ∙ checked_yes 17 item.id _ (ok read_tiles) (eq-eqb _ (g.rows * g.columns) (sym counted ∙ q)))

      pub tiles_inputs : (n ≡ g.rows * g.columns → ⊥) → None ≡ told_derivation (tiles_of total head f item)
      tiles_inputs q = sym (tiles_told ∙ checked_no 17 item.id _ (ok read_tiles) (ne_eqb _ (g.rows * g.columns) (λ z. q (counted ∙ z))))

-- n being how many inputs an item has
module _ (total : ℕ) (head : List ℕ) (f : File) (item : Item) (n : ℕ) (counted : n ≡ length (targets_of f item.id)) where
  -- copy_of
  module _ (k : ℕ) (extents : k ≡ length (location_of f item.id).extents) where
    pub copy_is : n ≡ 1 → k ≡ 0 → Some made.Copy ≡ told_derivation (copy_of total head f item)
    unfolding copy_of told_derivation
    copy_is e z = sym (checked_yes 17 item.id _ (ok Copy)
        (both-and _ _ (eq-eqb _ 1 (sym counted ∙ e))
        (nothing-none (location_of f item.id).extents (sym extents ∙ z))))

    pub copy-extents : (k ≡ 0 → ⊥) → None ≡ told_derivation (copy_of total head f item)
    unfolding copy_of
    copy-extents z = sym (checked_no 17 item.id _ (ok Copy)
        (and_none (eqb (length (targets_of f item.id)) 1) _
        (nothing-some (location_of f item.id).extents (λ q. z (extents ∙ q)))))

  pub copy-inputs : (n ≡ 1 → ⊥) → None ≡ told_derivation (copy_of total head f item)
  unfolding copy_of
  copy-inputs e = sym (checked_no 17 item.id _ (ok Copy) (rw (ne_eqb (length (targets_of f item.id)) 1 (λ q. e (counted ∙ q)))))

  -- layers_of
  abbrev lay : Overlay → Answer Recipe
  lay o = check 17 item.id (ltb 0 (length (targets_of f item.id))) >> ok (Layers o)

  abbrev its_overlay : Answer Overlay
  its_overlay = its_body total head f item >>= whole (iovl_form (length (targets_of f item.id))) 0

  layers_read : told_derivation (layers_of total head f item) ≡ told_derivation (its_overlay >>= lay)
  unfolding layers_of
  layers_read = ap told_derivation (sym (bind_assoc (its_body total head f item) (whole (iovl_form (length (targets_of f item.id))) 0) lay))

  pub layers_none : n ≡ 0 → None ≡ told_derivation (layers_of total head f item)
  layers_none e = sym (layers_read ∙ read-never lay
      (λ o. checked_no 17 item.id _ (ok (Layers o)) (le-ltb 0 (length (targets_of f item.id)) (omega arith))) its_overlay)

  pub layers_wrong : OverlayIs (its_body total head f item) n None → None ≡ told_derivation (layers_of total head f item)
  layers_wrong e =
      sym (layers_read ∙ read-refused lay its_overlay (overlay-refused _ _
      (subst (λ (k : ℕ). OverlayIs (its_body total head f item) k None) counted e)))

  pub layers_is : (r : overlays.Overlay) → OverlayIs (its_body total head f item) n (Some r) → (n ≡ 0 → ⊥) →
      Some (made.Layers r.wide r.high) ≡ told_derivation (layers_of total head f item)
  unfolding told_derivation
  layers_is r e some =
      let o = overlay_read _ _ r (subst (λ (i : ℕ). OverlayIs (its_body total head f item) i (Some r)) counted e) in
      sym
      (layers_read
      ∙ read_ok lay its_overlay o.0 o.1
      ∙ checked_yes 17 item.id _ (ok (Layers o.0)) (lt-ltb 0 (length (targets_of f item.id)) (omega (arith, some)))
      ∙ rw (o.2, o.3))

-- derivation_for, by the type of the item
module _ (total : ℕ) (head : List ℕ) (f : File) (item : Item) where
  pub type-copy : item.type ≡ iden → told_derivation (copy_of total head f item) ≡ told_derivation (derivation_for total head f item)
  type-copy e = sym (ap told_derivation (pick_yes _ _ (eq-eqb _ iden e)))

  module _ (other : item.type ≡ iden → ⊥) where
    pub type_tiles : item.type ≡ grid → told_derivation (tiles_of total head f item) ≡ told_derivation (derivation_for total head f item)
    type_tiles e = sym (ap told_derivation (pick_no _ _ (ne_eqb _ iden other) ∙ pick_yes _ _ (eq-eqb _ grid e)))

    pub type_layers : (item.type ≡ grid → ⊥) → told_derivation (layers_of total head f item) ≡ told_derivation (derivation_for total head f item)
    type_layers e = sym (ap told_derivation (pick_no _ _ (ne_eqb _ iden other) ∙ pick_no _ _ (ne_eqb _ grid e)))

  -- without a body there is none: an item without extents has one, which is empty
  pub bodyless : Refused (its_body total head f item) → Refused (derivation_for total head f item)
  unfolding copy_of tiles_of layers_of
  bodyless r =
      both (λ (m : Answer Recipe). Refused m) _ _ _
      (λ q. check-refused 17 item.id _ (ok Copy) (and_none (eqb (length (targets_of f item.id)) 1) _
      (nothing-some (location_of f item.id).extents (λ z. refused-ok _ [] r (body-none total head f item.id z)))))
      (λ q. both (λ (m : Answer Recipe). Refused m) _ _ _ (λ x. (r.0, r.1, refuse_bind _ _ _ r.2 _)) (λ x. (r.0, r.1, refuse_bind _ _ _ r.2 _)))

-- derivation_for gives what derivations make, and nothing else
abbrev Made : Recipe → Type 0
Made Coded = ⊥
Made Copy = Unit {0}
Made Opaque = ⊥
Made (Tiles g) = Unit {0}
Made (Layers o) = Unit {0}

module _ (total : ℕ) (head : List ℕ) (f : File) (item : Item) (r : Recipe) where
  copy-made : copy_of total head f item ≡ ok r → Made r
  unfolding copy_of
  copy-made e = subst Made (ok_inj Copy r (then_ok _ _ r e).2) tt

  tiles_made : tiles_of total head f item ≡ ok r → Made r
  unfolding tiles_of
  tiles_made e = subst Made (body-read _ _ 17 _ _ Tiles r e).5 tt

  layers_made : layers_of total head f item ≡ ok r → Made r
  unfolding layers_of
  layers_made e = subst Made (body-read _ _ 17 _ _ Layers r e).5 tt

  derivation_made : derivation_for total head f item ≡ ok r → Made r
  derivation_made = both (λ (m : Answer Recipe). m ≡ ok r → Made r) _ _ _ (λ q. copy-made)
      (λ q. both (λ (m : Answer Recipe). m ≡ ok r → Made r) _ _ _ (λ q. tiles_made) (λ q. layers_made))

-- told_derivation of what derivations make
told_wrong : (m : Answer Recipe) → ((r : Recipe) → m ≡ ok r → Made r) → is_some (told_derivation m) ≡ false → Refused m
unfolding told_derivation
told_wrong (ok Coded) h e = absurd (h Coded refl)
told_wrong (ok Copy) h e = cc
told_wrong (ok Opaque) h e = absurd (h Opaque refl)
told_wrong (ok (Tiles g)) h e = cc
told_wrong (ok (Layers o)) h e = cc
told_wrong (refuse n p) h e = (n, p, refl)

told-right : (m : Answer Recipe) → is_some (told_derivation m) ≡ true → (r : Recipe) × (m ≡ ok r)
unfolding told_derivation
told-right (ok r) e = (r, refl)
told-right (refuse k p) e = cc

-- rule17
unfaulted : (m : Answer (Unit {0})) → m ≡ ok tt → Some 17 ≡ fault_of m → ⊥
unfolding fault_of
unfaulted m e q = let z : ◌≡◌ {A = Option ℕ} (Some 17) None = q ∙ ap fault_of e in cc

module _ (total : ℕ) (head : List ℕ) (f : File) (item : Item) where
  for_refused : Refused (recipe_for total head f item) → Some 17 ≡ fault_of (rule17 total head f item)
  unfolding rule17 as_rule17 fault_of ◌>>=◌
  for_refused r = rw r.2 refl

  for_right : (r : Recipe) → recipe_for total head f item ≡ ok r → None ≡ fault_of (rule17 total head f item)
  unfolding rule17 as_rule17 fault_of ◌>>=◌
  for_right r e = rw e refl

  -- of an item that is not derived
  module _ (plain : derived item.type ≡ false) where
    recipe-plain : recipe_for total head f item ≡ (check 17 item.id (nothing_in (targets_of f item.id)) >> ok (pick (coded item.type) Coded Opaque))
    unfolding recipe_for
    recipe-plain = pick_no _ _ plain

    -- the recipe is by its type
    pub plain-recipe : (r : Recipe) → recipe_of total head f item ≡ ok r → pick (coded item.type) Coded Opaque ≡ r
    plain-recipe r e = ok_inj _ r (then_ok _ _ r (sym recipe-plain ∙ rule-17-ok item.id (recipe_for total head f item) r e)).2

    -- n being how many inputs it has
    module _ (n : ℕ) (counted : n ≡ length (targets_of f item.id)) where
      pub plain-fed : n ≡ 0 → None ≡ fault_of (rule17 total head f item)
      plain-fed z = for_right _ (recipe-plain ∙ check-then 17 item.id _ _ (nothing-none (targets_of f item.id) (sym counted ∙ z)))

      pub plain_inputs : (n ≡ 0 → ⊥) → Some 17 ≡ fault_of (rule17 total head f item)
      plain_inputs z = for_refused (rw recipe-plain (check-refused 17 item.id _ _ (nothing-some (targets_of f item.id) (λ q. z (counted ∙ q)))))

  -- of a derived item
  module _ (d : derived item.type ≡ true) where
    recipe-derived : recipe_for total head f item ≡ (check 17 item.id (all_images f (targets_of f item.id)) >> derivation_for total head f item)
    unfolding recipe_for
    recipe-derived = pick_yes _ _ d

    pub derived-inputs : all_images f (targets_of f item.id) ≡ false → Some 17 ≡ fault_of (rule17 total head f item)
    derived-inputs e = for_refused (rw recipe-derived (check-refused 17 item.id _ _ e))

    -- the recipe is what the derivation makes
    pub derived-recipe : (r : Recipe) → recipe_of total head f item ≡ ok r → derivation_for total head f item ≡ ok r
    derived-recipe r e = (then_ok _ _ r (sym recipe-derived ∙ rule-17-ok item.id (recipe_for total head f item) r e)).2

    pub derived_bodyless : Refused (its_body total head f item) → Some 17 ≡ fault_of (rule17 total head f item)
    derived_bodyless r = for_refused (rw recipe-derived (then-refused 17 item.id _ _ (bodyless total head f item r)))

    -- so that an item that keeps 17 has a body
    pub fed-body : rule17 total head f item ≡ ok tt → (b : List ℕ) × (its_body total head f item ≡ ok b)
    fed-body e = by (its_body total head f item) refl
      where
        by : (m : Answer (List ℕ)) → its_body total head f item ≡ m → (b : List ℕ) × (its_body total head f item ≡ ok b)
        by (ok b) z = (b, z)
        by (refuse n p) z = absurd (unfaulted _ e (derived_bodyless (n, p, z)))

    module _ (x : Option Derivation) (told : x ≡ told_derivation (derivation_for total head f item)) where
      pub derived_wrong : is_some x ≡ false → Some 17 ≡ fault_of (rule17 total head f item)
      derived_wrong e = for_refused (rw recipe-derived (then-refused 17 item.id _ _
          (told_wrong (derivation_for total head f item) (derivation_made total head f item) (sym (ap is_some told) ∙ e))))

      pub derived-fed : is_some x ≡ true → all_images f (targets_of f item.id) ≡ true → None ≡ fault_of (rule17 total head f item)
      derived-fed s e = let r = told-right (derivation_for total head f item) (sym (ap is_some told) ∙ s) in
          for_right r.0 (recipe-derived ∙ check-then 17 item.id _ _ e ∙ r.1)
