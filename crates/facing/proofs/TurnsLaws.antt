-- Boxes among which no `clap` is: their transforms cut nothing, and are the same for every size of the picture. Assumes nothing.
--   Clear bs    no `clap` is among the boxes bs
use Prim.Native.Nat.{ℕ, ◌%◌}
use mathlib.Core.Path.{◌≡◌, refl, sym, ◌∙◌}
use mathlib.Core.List.{List, [], ◌∷◌, map}
use mathlib.Core.Bool.{Bool, true, false, ◌||◌}
use lib.Dec.{eqb}
use borrow.Author.Tests.{ne_eqb, eqb-false}
use Rattle.fields.specs.Choice.{pick}
use Rattle.fields.specs.Field.{be_at}
use Rattle.fields.specs.Lists.{member}
use Rattle.fields.proofs.FieldLaws.{both}
use Rattle.fields.proofs.TestLaws.{untrue, or_neither}
use Rattle.boxes.specs.Box.{kind_of, body_of}
use Rattle.boxes.specs.Types.{clap, irot, imir}
use Rattle.pictures.specs.declared.Size.{Size}
use Rattle.pictures.specs.declared.Turn.{Turn}
use Rattle.pictures.specs.Turn.{size_after}
use Rattle.pictures.specs.Clap.{crop_of}
use Rattle.pictures.specs.Decode.{transform, rotation, mirror, turn_of, turns_of}
use Rattle.facing.specs.Orientation.{Uncut, Plain}

abbrev pub Clear : List (List ℕ) → Type 0
Clear bs = member clap (map (λ (b : List ℕ). kind_of b) bs) ≡ false

-- the box b at the front
module _ (b : List ℕ) (bs : List (List ℕ)) where
  pub clear_more : (kind_of b ≡ clap → ⊥) → Clear bs → Clear (b ∷ bs)
  clear_more n c = rw (ne_eqb clap (kind_of b) (λ e. n (sym e))) c

  pub clear_here : Clear (b ∷ bs) → kind_of b ≡ clap → ⊥
  clear_here c e = eqb-false clap (kind_of b) (or_neither _ _ c).0 (sym e)

  pub clear_behind : Clear (b ∷ bs) → Clear bs
  clear_behind c = (or_neither (eqb clap (kind_of b)) _ c).1

-- turn_of: a transform that is no `clap`
module _ (b : List ℕ) (n : kind_of b ≡ clap → ⊥) (e : transform (kind_of b) ≡ true) where
  abbrev quarters : Turn
  quarters = rotation (be_at (body_of b) 0 1 % 4)

  abbrev mirrors : Turn
  mirrors = mirror (be_at (body_of b) 0 1 % 2)

  turn_is : (s : Size) → turn_of s b ≡ pick (eqb (kind_of b) irot) quarters mirrors
  unfolding turn_of pick
  turn_is s = by (eqb (kind_of b) irot) (eqb (kind_of b) imir) (rw (ne_eqb (kind_of b) clap n) at e)
    where
      by : (t u : Bool) → (t || (u || false)) ≡ true → pick t quarters (pick u mirrors (crop_of s (body_of b))) ≡ pick t quarters mirrors
      by true u q = refl
      by false true q = refl
      by false false q = untrue q

  pub turn_same : (s z : Size) → turn_of s b ≡ turn_of z b
  turn_same s z = turn_is s ∙ sym (turn_is z)

  turn_uncut : (s : Size) → Uncut (turn_of s b)
  unfolding rotation mirror
  turn_uncut s =
      rw (turn_is s)
      (both Uncut _ _ _
      (λ q. both Uncut _ _ _ (λ q. tt) (λ q. both Uncut _ _ _ (λ q. tt) (λ q. both Uncut _ _ _ (λ q. tt) (λ q. tt))))
      (λ q. both Uncut _ _ _ (λ q. tt) (λ q. tt)))

-- turns_of
pub turns-plain : (bs : List (List ℕ)) → Clear bs → (s : Size) → Plain (turns_of s bs)
unfolding turns_of
turns-plain [] c s = tt
turns-plain (b ∷ bs) c s =
    let k = clear_behind b bs c in
    both Plain _ _ _ (λ q. (turn_uncut b (clear_here b bs c) q s, turns-plain bs k (size_after (turn_of s b) s))) (λ q. turns-plain bs k s)

pub turns_same : (bs : List (List ℕ)) → Clear bs → (s z : Size) → turns_of s bs ≡ turns_of z bs
unfolding turns_of pick
turns_same [] c s z = refl
turns_same (b ∷ bs) c s z = by (transform (kind_of b)) refl (turns_same bs (clear_behind b bs c))
  where
    by : (t : Bool) → transform (kind_of b) ≡ t → ((s z : Size) → turns_of s bs ≡ turns_of z bs)
        → pick t (turn_of s b ∷ turns_of (size_after (turn_of s b) s) bs) (turns_of s bs) ≡ pick t
        (turn_of z b ∷ turns_of (size_after (turn_of z b) z) bs) (turns_of z bs)
    by true q h = λ j. turn_same b (clear_here b bs c) q s z j ∷ h (size_after (turn_of s b) s) (size_after (turn_of z b) z) j
    by false q h = h s z
