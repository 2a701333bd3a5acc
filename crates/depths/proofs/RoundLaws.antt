-- The rounds give the depths, the sweeps give at least the rounds and no more than the depths, and a sweep that is not
-- to be done again is the last that is needed. Assumes nothing.
use Prim.Native.Nat.{ℕ, zero, suc, ◌+◌, ◌*◌, ◌≤◌, ◌<◌, max}
use native.Mathlib.Decide.{dec_lt}
use native.Mathlib.Numerals.{add-one}
use native.Mathlib.Omega.{arith}
use mathlib.Core.Path.{◌≡◌, refl, sym, ap, subst, ◌∙◌}
use mathlib.Core.List.{List, [], ◌∷◌}
use mathlib.Core.Bool.{Bool, false}
use lib.ListN.{length, get_or, replicate}
use borrow.Author.Tests.{lt-ltb, le-ltb, ltb-true, ltb-false}
use Rattle.fields.proofs.FieldLaws.{both, pick_yes, pick_no}
use Rattle.pictures.specs.Scene.{Scene, picture_at}
use Rattle.pictures.specs.Depth.{largest, depth_by, depth_n, depth}
use Rattle.pictures.proofs.DepthLaws.{depth_rule}
use Rattle.depths.specs.inner.Inputs.{InputsAre}
use Rattle.depths.specs.inner.Rounds.{inputs, input_at, at, deepest, next_depth, rounds, capped, Above, Low, Deepened}
use Rattle.depths.proofs.InputLaws.{input-inside}

-- deepest
pub deepest-none : (f g : ℕ → ℕ) → 0 ≡ deepest f g 0
unfolding deepest
deepest-none f g = refl

-- one more: it is read at j, its depth is d, and the larger is kept
pub deepest-more : (f g : ℕ → ℕ) (k b j d : ℕ) → b ≡ deepest f g k → j ≡ g k → d ≡ f j → max b (d + 1) ≡ deepest f g (k + 1)
unfolding deepest
deepest-more f g k b j d e₁ e₂ e₃ = rw (add-one k, ← e₁, ← e₂, ← e₃)

deepest-front : (f g : ℕ → ℕ) (k : ℕ) → deepest f g (suc k) ≡ max (f (g 0) + 1) (deepest f (λ j. g (suc j)) k)
unfolding deepest
deepest-front f g zero = omega arith
deepest-front f g (suc k) = let h = deepest-front f g k in omega arith

deepest-over : (f h g : ℕ → ℕ) → ((i : ℕ) → f i ≤ h i) → (k : ℕ) → deepest f g k ≤ deepest h g k
unfolding deepest
deepest-over f h g l zero = omega arith
deepest-over f h g l (suc k) = omega (arith, deepest-over f h g l k, l (g k))

pub deepest-low : (f g : ℕ → ℕ) (m : ℕ) → ((i : ℕ) → f i ≤ m) → (k : ℕ) → deepest f g k ≤ m + 1
unfolding deepest
deepest-low f g m h zero = omega arith
deepest-low f g m h (suc k) = omega (arith, deepest-low f g m h k, h (g k))

-- depth_by
largest-front : (f : ℕ → ℕ) (i : ℕ) (is : List ℕ) → largest f (i ∷ is) ≡ max (f i) (largest f is)
unfolding largest
largest-front f i is =
    both (λ (n : ℕ). n ≡ max (f i) (largest f is)) _ _ _
    (λ e. let h = ltb-true (largest f is) (f i) e in omega arith)
    (λ e. let h = ltb-false (largest f is) (f i) e in omega arith)

depth-by-front : (f : ℕ → ℕ) (i : ℕ) (is : List ℕ) → depth_by (i ∷ is) f ≡ max (f i + 1) (depth_by is f)
unfolding depth_by
depth-by-front f i [] = let h = largest-front f i [] in unfold largest in omega arith
depth-by-front f i (j ∷ js) = let h = largest-front f i (j ∷ js) in omega arith

-- the depth by the table is the depth by the scene's inputs, where f and e give the inputs the same depths
deepest-depth : (f g e : ℕ → ℕ) (is : List ℕ) → ((j : ℕ) → j < length is → f (g j) ≡ e (get_or is j 0)) → deepest f g (length is) ≡ depth_by is e
unfolding deepest depth_by
deepest-depth f g e [] h = refl
deepest-depth f g e (i ∷ is) h =
    let q = deepest-front f g (length is) in
    let d = depth-by-front e i is in
    let r = deepest-depth f (λ j. g (suc j)) e is (λ j k. h (suc j) (omega arith)) in
    let z = h 0 (omega arith) in
    omega arith

-- next_depth, by the count and the first place that were read
pub next_depth_lem : (t rows : List ℕ) (f : ℕ → ℕ) (r k first d : ℕ) → k ≡ inputs t r → first ≡ get_or t (21 + 16 * r) 0 →
    d ≡ deepest f (λ i. get_or rows (first + i) 0) k → d ≡ next_depth t rows f r
unfolding next_depth
next_depth_lem t rows f r k first d e₁ e₂ e = e ∙ ap (λ (p : ℕ). deepest f (λ i. get_or rows (p + i) 0) k) e₂ ∙ ap (deepest f (input_at t rows r)) e₁

-- deeper inputs, a deeper row
pub next_more : (t rows : List ℕ) (f h : ℕ → ℕ) (r : ℕ) → ((i : ℕ) → f i ≤ h i) → next_depth t rows f r ≤ next_depth t rows h r
unfolding next_depth
next_more t rows f h r l = deepest-over f h (input_at t rows r) l (inputs t r)

-- zeros
pub zeros : (n m : ℕ) → ◌≡◌ {A = ℕ} (get_or (replicate n 0) m 0) 0
zeros zero m = refl
zeros (suc n) zero = refl
zeros (suc n) (suc m) = zeros n m

-- rounds
module _ (t rows : List ℕ) (n : ℕ) where
  rounds_in : (k r : ℕ) → r < n → rounds t rows n (suc k) r ≡ next_depth t rows (rounds t rows n k) r
  unfolding rounds
  rounds_in k r h = pick_yes _ _ (lt-ltb r n h)

  rounds-past : (k r : ℕ) → n ≤ r → rounds t rows n k r ≡ 0
  unfolding rounds
  rounds-past zero r h = refl
  rounds-past (suc k) r h = pick_no _ _ (le-ltb r n h)

  -- by the place of a row: among the n, or past them
  by_place : {A : Type 0} (r : ℕ) → (r < n → A) → (n ≤ r → A) → A
  by_place r f g = elim (dec_lt r n) [ yes l ↦ f l | no l ↦ g (omega (arith, l)) ]

  rounds-low : (k r : ℕ) → rounds t rows n k r ≤ k
  unfolding rounds next_depth
  rounds-low zero r = omega arith
  rounds-low (suc k) r = both (λ (d : ℕ). d ≤ suc k) _ _ _
      (λ e. omega (arith, deepest-low (rounds t rows n k) (input_at t rows r) k (rounds-low k) (inputs t r)))
      (λ e. omega arith)

  -- a round gives no more than words that are at least what follows from at least those of the round before
  rounds_under : (k : ℕ) (a b : List ℕ) → k < 17 → ((r : ℕ) → rounds t rows n k r ≤ get_or a r 0) →
      ((r : ℕ) → r < n → capped (next_depth t rows (at a) r) ≤ get_or b r 0) → (r : ℕ) →
      rounds t rows n (suc k) r ≤ get_or b r 0
  rounds_under k a b l h d r =
      by_place r
      (λ i. omega (arith, rounds_in k r i, rounds-low (suc k) r, next_more t rows (rounds t rows n k) (at a) r h, d r i))
      (λ i. omega (arith, rounds-past (suc k) r i))

  rounds_still : (b : List ℕ) → ((r : ℕ) → r < n → capped (next_depth t rows (at b) r) ≤ get_or b r 0) → (k : ℕ) → k ≤ 17 →
      (r : ℕ) → rounds t rows n k r ≤ get_or b r 0
  unfolding rounds
  rounds_still b d zero l r = omega arith
  rounds_still b d (suc k) l r = rounds_under k b b (omega arith) (rounds_still b d k (omega arith)) d r

-- the words after k sweeps: at least the depths of k rounds, and no more than anything that lies above
pub record Deep (t rows : List ℕ) (n k : ℕ) (a : List ℕ) : Type 0 where
  pub low : Low a
  pub least : (r : ℕ) → rounds t rows n k r ≤ get_or a r 0
  pub most : (top : ℕ → ℕ) → Above t rows n top → (r : ℕ) → get_or a r 0 ≤ top r

module _ (t rows : List ℕ) (n : ℕ) where
  pub deep_none : Deep t rows n 0 (replicate 256 0)
  unfolding rounds
  deep_none = record { low = λ r. omega (arith, zeros 256 r); least = λ r. omega arith; most = λ top w r. omega (arith, zeros 256 r) }

  module _ (k : ℕ) (a b : List ℕ) (again : Bool) (w : Deep t rows n k a) (d : Deepened t rows n a b again) where
    pub deep_next : k < 17 → Deep t rows n (k + 1) b
    deep_next l = record {
      low = d.low;
      least = λ r. rw (add-one k)
          (rounds_under t rows n k a b l w.least d.done r);
      most = λ top v. d.sound top v (w.most top v);
    }

    -- where the sweep is not to be done again the words follow from themselves, and no further round gives more
    pub deep_last : again ≡ false → Deep t rows n 17 b
    deep_last e =
        record {
          low = d.low;
          least = rounds_still t rows n b (d.settled e) 17 (omega arith);
          most = λ top v. d.sound top v (w.most top v);
        }

-- the rounds give the depths of the scene
module _ (t rows : List ℕ) (s : Scene) (i : InputsAre t rows s) where
  rounds-depth : (k r : ℕ) → r < length s → rounds t rows (length s) k r ≡ depth_n k s r
  unfolding depth_n next_depth rounds
  rounds-depth zero r h = refl
  rounds-depth (suc k) r h = rounds_in t rows (length s) k r h ∙
      rw (i.count r h) (deepest-depth (rounds t rows (length s) k) (input_at t rows r) (λ j. depth_n k s j)
      (picture_at s r).inputs (λ j l. ap (rounds t rows (length s) k) (i.row r j h l) ∙
      rounds-depth k _ (input-inside t rows s i r h j l)))

  -- the depths lie above what follows from them
  next_by : (f : ℕ → ℕ) (r : ℕ) → r < length s → next_depth t rows f r ≡ depth_by (picture_at s r).inputs f
  unfolding next_depth
  next_by f r h = rw (i.count r h) (deepest-depth f (input_at t rows r) f (picture_at s r).inputs (λ j l. ap f (i.row r j h l)))

  depth-above : Above t rows (length s) (λ j. depth s j)
  depth-above r h = elim (dec_lt (depth s r) 17) [ yes l ↦ omega (arith, depth_rule s r (omega arith), next_by (λ j. depth s j) r h) | no l ↦ omega (arith, l) ]

-- the words after the 17th sweep are the depths
pub depth-found : (t rows : List ℕ) (n k : ℕ) (a : List ℕ) → Deep t rows n k a → k ≡ 17 → (s : Scene) → length s ≡ n →
    InputsAre t rows s → (r : ℕ) → r < n → get_or a r 0 ≡ depth s r
depth-found t rows n k a w e s l i r q =
    let v = subst (λ (m : ℕ). Deep t rows m 17 a) (sym l) (subst (λ (j : ℕ). Deep t rows n j a) e w) in
    omega (arith, v.least r, rounds-depth t rows s i 17 r (omega arith), v.most (λ j. depth s j) (depth-above t rows s i) r)
