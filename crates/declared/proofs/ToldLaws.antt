-- told_sizes, association by association. Assumes nothing.
--   told_from f id j s d o    what the associations from number j on tell behind those before it: where s holds, those declared d and led to o
--   Says f id x              what the code's value x says of the item's properties
use Prim.Native.Nat.{ℕ, ◌+◌, ◌≤◌, ◌<◌}
use native.Mathlib.Omega.{arith}
use mathlib.Core.Path.{◌≡◌, refl, sym, ◌∙◌, subst}
use mathlib.Core.Bool.{Bool, true, false, ◌&&◌}
use mathlib.Core.List.{List, []}
use mathlib.Core.Logic.{◌⊎◌, inl, inr}
use lib.ListN.{length, get_or, drop}
use Rattle.fields.specs.Choice.{pick}
use Rattle.fields.specs.Field.{be_at}
use Rattle.fields.proofs.FieldLaws.{pick_no, both}
use Rattle.fields.proofs.TestLaws.{untrue, and_none}
use Rattle.boxes.specs.Types.{ispe}
use Rattle.boxes.specs.Box.{body_of}
use Rattle.contents.specs.File.{File}
use Rattle.pictures.specs.declared.Size.{Size}
use Rattle.pictures.specs.declared.Turn.{Turn}
use Rattle.pictures.specs.Turn.{size, size_after}
use Rattle.pictures.specs.Decode.{transform}
use Rattle.pictures.specs.inner.Told.{LongAsAsked, turn_by}
use Rattle.rules.specs.Joined.{associations_of, boxes_of, types_of}
use Rattle.rules.specs.Places.{Places}
use Rattle.rules.specs.Derivations.{declared_in}
use Rattle.rules.specs.Rules.{essential_known, good_ispe}
use Rattle.views.specs.inner.View.{TableOf}
use Rattle.std.specs.Prelude.{Option, Some, None}
use Rattle.std.specs.Bool.{then_some}
use Rattle.declared.specs.inner.Told.{told_sizes}
use Rattle.declared.specs.declared.Sizes.{Sizes}
use Rattle.declared.proofs.NamedLaws.{boxes-many, types_many}
use Rattle.declared.proofs.EssentialLaws.{essential-none}
use Rattle.declared.proofs.IspeLaws.{good_behind, good-all, first-ispe, second-ispe, other-type, sized_turn, early_turn, good-end}
use Rattle.declared.proofs.SizeLaws.{through, sizes_behind, sizes-all, sizes-skip, sizes-declared, sizes-turned, sizes-end}

module _ (f : File) (id : ℕ) where
  unfoldable pub told_from : ℕ → Bool → Size → Size → Option Sizes
  told_from j s d o = pick (essential_known f (drop j (associations_of f id)) && good_behind s (drop j (types_of f id)))
      (sizes_behind s d o (drop j (boxes_of f id))) None

  pub told-all : (d o : Size) → told_sizes f id ≡ told_from 0 false d o
  unfolding told_sizes told_from
  told-all d o = rw (good-all (types_of f id), sizes-all d o (boxes_of f id))

  pub told-end : (j : ℕ) (s : Bool) (d o : Size) → length (associations_of f id) ≤ j → told_from j s d o ≡ then_some s (record { declared = d; output = o })
  unfolding told_from pick
  told-end j true d o h =
      rw (
        essential-none f (associations_of f id) j h,
        good-end (types_of f id) j true (omega (arith, types_many f id)),
        sizes-end d o (boxes_of f id) j (omega (arith, boxes-many f id)),
      )
  told-end j false d o h = rw (essential-none f (associations_of f id) j h, good-end (types_of f id) j false (omega (arith, types_many f id)))

  module _ (j : ℕ) (s : Bool) (d o : Size) where
    pub told-unknown : essential_known f (drop j (associations_of f id)) ≡ false → told_from j s d o ≡ None
    unfolding told_from pick
    told-unknown e = rw e

    told_misplaced : good_behind s (drop j (types_of f id)) ≡ false → told_from j s d o ≡ None
    unfolding told_from
    told_misplaced e = pick_no (sizes_behind s d o (drop j (boxes_of f id))) None (and_none (essential_known f (drop j (associations_of f id))) _ e)

    told-on : (t : Bool) (c p : Size) → essential_known f (drop j (associations_of f id)) ≡ essential_known f
        (drop (j + 1) (associations_of f id)) → good_behind s (drop j (types_of f id)) ≡ good_behind t
        (drop (j + 1) (types_of f id))
        → sizes_behind s d o (drop j (boxes_of f id)) ≡ sizes_behind t c p (drop (j + 1) (boxes_of f id)) → told_from j s d o ≡ told_from (j + 1) t c p
    unfolding told_from
    told-on t c p a b q = rw (a, b, q)

-- the association with number j, whose property is of type k
module _ {t head : List ℕ} {pl : Places} {f : File} (v : TableOf t head pl f) (id j : ℕ) (l : j < length (associations_of f id))
    (k : ℕ) (e : k ≡ get_or (types_of f id) j 0) (s : Bool) (d o : Size) where
  in_types : j < length (types_of f id)
  in_types = omega (arith, types_many f id)

  pub told-second : k ≡ ispe → s ≡ true → told_from f id j s d o ≡ None
  told-second i q = told_misplaced f id j s d o (rw q (second-ispe (types_of f id) j in_types k e i))

  -- a transform before an `ispe`, as the code meets it: s₁ is whether a size was declared, this property included
  pub told_early : (s₁ : Bool) → (s₁ ≡ true) ⊎ ((k ≡ ispe → ⊥) × (s₁ ≡ s)) → transform k ≡ true → s₁ ≡ false → told_from f id j s d o ≡ None
  told_early s₁ (inl a) q z = untrue (sym z ∙ a)
  told_early s₁ (inr a) q z = told_misplaced f id j s d o (rw (sym a.1 ∙ z) (early_turn (types_of f id) j in_types k e a.0 q))

  -- one turn of the code, where this association is none of an unknown essential property: s₁, d₁ and o₁ are what is
  -- behind an `ispe` or none, o₂ what is behind a transform or none
  module _ (known : essential_known f (drop j (associations_of f id)) ≡ essential_known f
      (drop (j + 1) (associations_of f id))) (s₁ : Bool) (d₁ o₁ o₂ : Size) where
    pub told-other : (k ≡ ispe → ⊥) → s₁ ≡ s → d₁ ≡ d → o₁ ≡ o → transform k ≡ false → o₂ ≡ o₁ → told_from f id j s d o ≡ told_from f id (j + 1) s₁ d₁ o₂
    told-other n es ed eo q et = rw (et, eo, ed, es) (told-on f id j s d o s d o known
        (other-type (types_of f id) j in_types k e s n q) (sizes-skip v id j l k e s d o n q))

    -- b is the box, and c its content
    module _ (b c : List ℕ) (eb : b ≡ get_or (boxes_of f id) j []) (ec : c ≡ body_of b) where
      pub told-declared : (r : Size) → k ≡ ispe → s ≡ false → (12 ≤ length c → r ≡ size (be_at c 4 4) (be_at c 8 4)) →
          s₁ ≡ true → d₁ ≡ r → o₁ ≡ r → o₂ ≡ o₁ → told_from f id j s d o ≡ told_from f id (j + 1) s₁ d₁ o₂
      told-declared r i z g es ed eo et = rw (et, eo, ed, es, z)
          (told-on f id j false d o true r r known (first-ispe (types_of f id) j in_types k e i)
          (sizes-declared v id j l k e b c eb ec d o r i g))

      pub told-turned : (u : Turn) → (k ≡ ispe → ⊥) → s₁ ≡ s → d₁ ≡ d → o₁ ≡ o → transform k ≡ true → s₁ ≡ true →
          (LongAsAsked k c → u ≡ turn_by o₁ k c) → o₂ ≡ size_after u o₁ → told_from f id j s d o ≡ told_from f id (j + 1) s₁ d₁ o₂
      told-turned u n es ed eo q z g et =
          rw (sym es ∙ z, z, ed)
          (told-on f id j true d o true d o₂ known (sized_turn (types_of f id) j in_types k e n)
          (rw (← eo) (sizes-turned v id j l k e b c eb ec d o₁ o₂ u q g et)))

-- the code's value
abbrev pub Says : File → ℕ → Option Sizes → Type 0
Says f id (Some s) = ((essential_known f (associations_of f id) && good_ispe (types_of f id)) ≡ true) ×
    (s.declared ≡ declared_in (boxes_of f id)) × (s.output ≡ through s.declared (boxes_of f id))
Says f id None = (essential_known f (associations_of f id) && good_ispe (types_of f id)) ≡ false

pub says : (f : File) (id : ℕ) (x y : Option Sizes) → x ≡ told_sizes f id → x ≡ y → Says f id y
unfolding told_sizes
says f id x y e q = subst (Says f id) (sym e ∙ q) (both (Says f id) _ _ _ (λ k. (k, refl, refl)) (λ k. k))
