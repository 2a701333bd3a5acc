-- Q-3: "Show that exactly one number fits each chain, the pixel rules taken as maps over all W and H, and that number
-- to list to number returns the same." Assumes nothing.
--   OneFits n ts       n is the one number of 1 to 8 that fits the chain ts
--   one-fits           each chain of transforms that cut nothing has such a number
--   there_and_back     number to boxes to number, over the boxes' own bytes
--   shortest           no shorter chain does the same as the list of an orientation;   irot-first    no `irot` stands behind an `imir` in it
use Prim.Native.Nat.{ℕ, zero, suc, ◌+◌, ◌-◌, ◌≤◌, ◌<◌}
use native.Mathlib.Omega.{arith}
use mathlib.Core.Path.{◌≡◌, refl, sym, ap, subst, ◌∙◌}
use mathlib.Core.List.{List, [], ◌∷◌, map}
use mathlib.Core.Bool.{Bool, true, false}
use lib.ListN.{length, get_or, replicate}
use Rattle.fields.specs.Choice.{pick}
use Rattle.fields.specs.Field.{be_at}
use Rattle.fields.proofs.ListLaws.{map_at}
use Rattle.boxes.specs.Box.{head_of}
use Rattle.pictures.specs.declared.Size.{Size}
use Rattle.pictures.specs.declared.Turn.{Turn}
use Rattle.pictures.specs.declared.Turn.TheVariants.{Stay, Left, Half, Right, FlipX, FlipY, Crop, Misfit}
use Rattle.pictures.specs.Turn.{size, Inside, size_after, size_through}
use Rattle.pictures.specs.Decode.{rotation, mirror, turn_of, turns_of}
use Rattle.facing.specs.declared.Facing.{Facing}
use Rattle.facing.specs.Facings.{facing, turn_facing, joined_facing, chain_facing, number_of}
use Rattle.facing.specs.Orientation.{Transform, irot, imir, box_for, lists, transforms_for, turns_for, Plain, Fits}
use Rattle.facing.proofs.FacingLaws.{faced, faced_size, chain-size, chain_back, one-facing}
use Rattle.facing.proofs.TurnsLaws.{Clear, turns-plain}

pub record OneFits (n : ℕ) (ts : List Turn) : Type 0 where
  pub from : 1 ≤ n
  pub to : n ≤ 8
  pub fits : Fits n ts
  pub only : (m : ℕ) → 1 ≤ m → m ≤ 8 → Fits m ts → m ≡ n

-- "number to list to number returns the same"
pub there_and_back : map (λ n. number_of (chain_facing (turns_for n))) (1 ∷ 2 ∷ 3 ∷ 4 ∷ 5 ∷ 6 ∷ 7 ∷ 8 ∷ []) ≡ (1 ∷ 2 ∷ 3 ∷ 4 ∷ 5 ∷ 6 ∷ 7 ∷ 8 ∷ [])
unfolding number_of chain_facing turn_facing joined_facing turns_for transforms_for lists box_for turns_of turn_of rotation mirror size_after pick be_at head_of
there_and_back = refl

-- the n numbers from k on
abbrev run : ℕ → ℕ → List ℕ
run k zero = []
run k (suc n) = k ∷ run (suc k) n

run_at : (k n i : ℕ) → i < n → get_or (run k n) i 0 ≡ k + i
run_at k zero i l = elim l [ ]
run_at k (suc n) zero l = omega arith
run_at k (suc n) (suc i) l = run_at (suc k) n i (omega arith) ∙ omega arith

-- the same for each of the numbers
number-back : (m : ℕ) → 1 ≤ m → m ≤ 8 → number_of (chain_facing (turns_for m)) ≡ m
number-back m h l =
    let e : get_or (run 1 8) (m - 1) 0 ≡ m = run_at 1 8 (m - 1) (omega arith) ∙ omega arith in
    ap (λ (n : ℕ). number_of (chain_facing (turns_for n))) (sym e)
    ∙ sym (map_at (λ n. number_of (chain_facing (turns_for n))) (run 1 8) (m - 1) (omega arith))
    ∙ ap (λ (ns : List ℕ). get_or ns (m - 1) 0) there_and_back
    ∙ e

-- what the list of a facing's number is
record Serves (m : Facing) : Type 0 where
  from : 1 ≤ number_of m
  to : number_of m ≤ 8
  serves : chain_facing (turns_for (number_of m)) ≡ m
  few : length (transforms_for (number_of m)) ≤ 2

facing_serves : (d x y : Bool) → Serves (facing d x y)
unfolding number_of chain_facing turn_facing joined_facing turns_for transforms_for lists box_for turns_of turn_of rotation mirror size_after pick be_at head_of
facing_serves false false false = record { from = omega arith; to = omega arith; serves = refl; few = omega arith }
facing_serves false false true = record { from = omega arith; to = omega arith; serves = refl; few = omega arith }
facing_serves false true false = record { from = omega arith; to = omega arith; serves = refl; few = omega arith }
facing_serves false true true = record { from = omega arith; to = omega arith; serves = refl; few = omega arith }
facing_serves true false false = record { from = omega arith; to = omega arith; serves = refl; few = omega arith }
facing_serves true false true = record { from = omega arith; to = omega arith; serves = refl; few = omega arith }
facing_serves true true false = record { from = omega arith; to = omega arith; serves = refl; few = omega arith }
facing_serves true true true = record { from = omega arith; to = omega arith; serves = refl; few = omega arith }

number_serves : (m : Facing) → Serves m
number_serves m = facing_serves m.swap m.across m.down

-- the boxes of an orientation cut nothing
boxes_clear : (ts : List Transform) → Clear (map box_for ts)
unfolding box_for be_at
boxes_clear [] = refl
boxes_clear (irot a ∷ ts) = boxes_clear ts
boxes_clear (imir a ∷ ts) = boxes_clear ts

plain_for : (n : ℕ) → Plain (turns_for n)
unfolding turns_for
plain_for n = turns-plain _ (boxes_clear (transforms_for n)) (size 0 0)

-- a number fits exactly where its list faces as the chain does
module _ (n : ℕ) (ts : List Turn) (c : Plain ts) where
  for_size : (s : Size) → size_through (turns_for n) s ≡ faced_size (chain_facing (turns_for n)) s
  for_size = chain-size (turns_for n) (plain_for n)

  fits_by : chain_facing (turns_for n) ≡ chain_facing ts → Fits n ts
  fits_by e =
      record {
        sizes = λ s. for_size s ∙ ap (λ (m : Facing). faced_size m s) e ∙ sym (chain-size ts c s);
        pixels = λ s p i.
            let j = subst (λ (z : Size). Inside z p) (chain-size ts c s) i in
            chain_back (turns_for n) (plain_for n) s p (subst (λ (m : Facing). Inside (faced_size m s) p) (sym e) j) ∙
            ap (λ (m : Facing). faced m s p) e ∙ sym (chain_back ts c s p j);
      }

  fits-facing : Fits n ts → chain_facing (turns_for n) ≡ chain_facing ts
  fits-facing h =
      one-facing (chain_facing (turns_for n)) (chain_facing ts) (λ s p i j.
      sym (chain_back (turns_for n) (plain_for n) s p i) ∙ h.pixels s p (subst (λ (z : Size). Inside z p) (sym (chain-size ts c s)) j) ∙ chain_back ts c s p j)

-- "exactly one number fits each chain"
pub one-fits : (ts : List Turn) → Plain ts → OneFits (number_of (chain_facing ts)) ts
one-fits ts c =
    let w = number_serves (chain_facing ts) in
    record {
      from = w.from;
      to = w.to;
      fits = fits_by (number_of (chain_facing ts)) ts c w.serves;
      only = λ m h l f. sym (number-back m h l) ∙ ap number_of (fits-facing m ts c f);
    }

-- "from an orientation give the shortest list"
shortest_own : (ts : List Turn) → Plain ts → length (transforms_for (number_of (chain_facing ts))) ≤ length ts
unfolding number_of chain_facing turn_facing joined_facing transforms_for lists
shortest_own [] c = omega arith
shortest_own (Stay ∷ []) c = omega arith
shortest_own (Left ∷ []) c = omega arith
shortest_own (Half ∷ []) c = omega arith
shortest_own (Right ∷ []) c = omega arith
shortest_own (FlipX ∷ []) c = omega arith
shortest_own (FlipY ∷ []) c = omega arith
shortest_own (Crop l t w h ∷ []) c = absurd c.0
shortest_own (Misfit ∷ []) c = absurd c.0
shortest_own (t ∷ u ∷ ts) c = omega (arith, (number_serves (chain_facing (t ∷ u ∷ ts))).few)

pub shortest : (n : ℕ) → 1 ≤ n → n ≤ 8 → (ts : List Turn) → Plain ts → Fits n ts → length (transforms_for n) ≤ length ts
shortest n h l ts c f = subst (λ (m : ℕ). length (transforms_for m) ≤ length ts) (sym ((one-fits ts c).only n h l f)) (shortest_own ts c)

-- "`irot` first"
abbrev no_irot : List Transform → Bool
no_irot [] = true
no_irot (irot a ∷ ts) = false
no_irot (imir a ∷ ts) = no_irot ts

abbrev pub irot_first : List Transform → Bool
irot_first [] = true
irot_first (irot a ∷ ts) = irot_first ts
irot_first (imir a ∷ ts) = no_irot ts

pub irot-first : map (λ n. irot_first (transforms_for n)) (1 ∷ 2 ∷ 3 ∷ 4 ∷ 5 ∷ 6 ∷ 7 ∷ 8 ∷ []) ≡ replicate 8 true
unfolding transforms_for lists
irot-first = refl
