-- 20: the test of sizes tells wrong sizes. Assumes nothing.
use Prim.Native.Nat.{ℕ, ◌*◌, ◌<◌}
use mathlib.Core.Path.{◌≡◌, refl, sym, ap, subst}
use mathlib.Core.List.{[]}
use mathlib.Core.Bool.{Bool, true, false}
use mathlib.Core.Logic.{◌⊎◌, inl, inr}
use lib.Dec.{leb}
use borrow.Author.Tests.{leb-true, le-leb, eq-eqb}
use Rattle.fields.proofs.TestLaws.{untrue, and_both, both-and}
use Rattle.pictures.specs.declared.Size.{Size}
use Rattle.pictures.specs.Turn.{size, AllFit}
use Rattle.pictures.specs.Recipe.{Recipe, Coded, Copy, Opaque, Tiles, Layers}
use Rattle.pictures.specs.Scene.{Picture, Scene, picture_at, output_of, first_input, same_size, good_side, good_size, all_size, covered, made_up, good_sizes}
use Rattle.pictures.proofs.SceneLaws.{same_size_lem}
use Rattle.faults.specs.Fault.{
  Any,
  Not,
  GoodSides,
  WrongSizes,
  declared_side,
  output_side,
  crop,
  copy,
  unequal,
  too_narrow,
  too_low,
  tiles_canvas,
  layers_canvas,
}
use Rattle.faults.proofs.TellsLaws.{Tells, tells_as, tells_and, tells_most, tells_each}

-- a test of what holds tells that it does not
tells_lack : (t : Bool) {G : Type 0} → (t ≡ true → G) → (G → t ≡ true) → Tells t (Not G)
tells_lack true to from = record { there = λ e. untrue (sym e); absent = λ e w. w (to refl) }
tells_lack false to from = record { there = λ e g. untrue (from g); absent = λ e w. untrue e }

tells_never : Tells true ⊥
tells_never = record { there = λ e. untrue (sym e); absent = λ e w. w }

-- good_size, same_size
tells_sides : (z : Size) → Tells (good_size z) (Not (GoodSides z))
tells_sides z = tells_lack (good_size z) to from
  where
    to : good_size z ≡ true → GoodSides z
    to e =
        let k = and_both (good_side z.wide) (good_side z.high) e in
        let w = and_both (leb 1 z.wide) (leb z.wide 65535) k.0 in
        let h = and_both (leb 1 z.high) (leb z.high 65535) k.1 in
        record { some-wide = leb-true _ _ w.0; wide_fits = leb-true _ _ w.1; some-high = leb-true _ _ h.0; high_fits = leb-true _ _ h.1 }

    from : GoodSides z → good_size z ≡ true
    from g =
        both-and (good_side z.wide) (good_side z.high)
        (both-and _ _ (le-leb _ _ g.some-wide) (le-leb _ _ g.wide_fits))
        (both-and _ _ (le-leb _ _ g.some-high) (le-leb _ _ g.high_fits))

tells_same : (a b : Size) → Tells (same_size a b) (Not (a ≡ b))
tells_same a b = tells_lack (same_size a b) (same_size_lem a b) (λ e. both-and _ _
    (eq-eqb _ _ (ap (λ (z : Size). z.wide) e)) (eq-eqb _ _ (ap (λ (z : Size). z.high) e)))

module _ (s : Scene) (p : Picture) where
  -- made_up, by the recipe
  abbrev Made : Recipe → Type 0
  Made Coded = ⊥
  Made Opaque = ⊥
  Made Copy = Not (p.declared ≡ first_input s p)
  Made (Tiles g) =
      Any (λ (i : ℕ). Not (output_of (picture_at s i) ≡ first_input s p)) p.inputs
      ⊎ ((((first_input s p).wide * g.columns < g.wide) ⊎ ((first_input s p).high * g.rows < g.high)) ⊎ Not (p.declared ≡ size g.wide g.high))
  Made (Layers o) = Not (p.declared ≡ size o.wide o.high)

  tells_made : (r : Recipe) → Tells (made_up s p r) (Made r)
  unfolding made_up all_size
  tells_made Coded = tells_never
  tells_made Opaque = tells_never
  tells_made Copy = tells_same _ _
  tells_made (Tiles g) =
      tells_and (all_size s (first_input s p) p.inputs) _
      (tells_each (λ (i : ℕ). same_size (output_of (picture_at s i)) (first_input s p)) _ (all_size s (first_input s p)) refl
      (λ x xs. refl) (λ i. tells_same _ _) p.inputs)
      (tells_and (covered g (first_input s p)) _ (tells_and (leb g.wide ((first_input s p).wide * g.columns)) _
      (tells_most _ _) (tells_most _ _)) (tells_same _ _))
  tells_made (Layers o) = tells_same _ _

  made_wrong : (r : Recipe) → p.recipe ≡ r → Made r → WrongSizes s p
  made_wrong Coded e w = absurd w
  made_wrong Opaque e w = absurd w
  made_wrong Copy e w = copy e w
  made_wrong (Tiles g) e (inl a) = unequal g e a
  made_wrong (Tiles g) e (inr (inl (inl n))) = too_narrow g e n
  made_wrong (Tiles g) e (inr (inl (inr n))) = too_low g e n
  made_wrong (Tiles g) e (inr (inr n)) = tiles_canvas g e n
  made_wrong (Layers o) e w = layers_canvas o e w

  -- good_sizes; a transform that does not fit leaves no good output size
  pub tells_sizes : (good_size (output_of p) ≡ true → AllFit p.turns p.declared) → Tells (good_sizes s p) (WrongSizes s p)
  unfolding good_sizes
  tells_sizes fit = tells_as to from (tells_and (made_up s p p.recipe) _ (tells_made p.recipe)
      (tells_and (good_size p.declared) _ (tells_sides _) (tells_sides _)))
    where
      to : Made p.recipe ⊎ (Not (GoodSides p.declared) ⊎ Not (GoodSides (output_of p))) → WrongSizes s p
      to (inl w) = made_wrong p.recipe refl w
      to (inr (inl w)) = declared_side w
      to (inr (inr w)) = output_side w

      sides : Not (AllFit p.turns p.declared) → Not (GoodSides (output_of p))
      sides n g = elim_sides (good_size (output_of p)) refl
        where
          elim_sides : (t : Bool) → good_size (output_of p) ≡ t → ⊥
          elim_sides true e = n (fit e)
          elim_sides false e = (tells_sides (output_of p)).there e g

      from : WrongSizes s p → Made p.recipe ⊎ (Not (GoodSides p.declared) ⊎ Not (GoodSides (output_of p)))
      from (declared_side w) = inr (inl w)
      from (output_side w) = inr (inr w)
      from (crop w) = inr (inr (sides w))
      from (copy e w) = inl (subst Made (sym e) w)
      from (unequal g e w) = inl (subst Made (sym e) (inl w))
      from (too_narrow g e w) = inl (subst Made (sym e) (inr (inl (inl w))))
      from (too_low g e w) = inl (subst Made (sym e) (inr (inl (inr w))))
      from (tiles_canvas g e w) = inl (subst Made (sym e) (inr (inr w)))
      from (layers_canvas o e w) = inl (subst Made (sym e) w)
