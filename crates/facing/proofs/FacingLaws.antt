-- What a facing does to a picture: over all sizes every chain of transforms that cut nothing does what its facing says,
-- and a facing is told from the others by what it does. Assumes nothing.
--   faced m s p        the point of the picture of size s that the point p comes from when the picture faces by m;   faced_size m s    its size then
--   told p q           the facing, by where (0, 0) and (1, 0) come from in a picture of 2 × 3
use Prim.Native.Nat.{ℕ, ◌-◌, ◌<◌}
use native.Mathlib.Omega.{arith}
use mathlib.Core.Path.{◌≡◌, refl, sym, ap, subst, ◌∙◌}
use mathlib.Core.List.{List, [], ◌∷◌}
use mathlib.Core.Bool.{Bool, true, false}
use lib.Dec.{eqb}
use Rattle.pictures.specs.declared.Size.{Size}
use Rattle.pictures.specs.declared.Point.{Point}
use Rattle.pictures.specs.declared.Turn.{Turn}
use Rattle.pictures.specs.declared.Turn.TheVariants.{Stay, Left, Half, Right, FlipX, FlipY, Crop, Misfit}
use Rattle.pictures.specs.Turn.{size, point, size_after, back, size_through, undone, Inside}
use Rattle.facing.specs.declared.Facing.{Facing}
use Rattle.facing.specs.Facings.{facing, flipped, turn_facing, joined_facing, chain_facing}
use Rattle.facing.specs.Orientation.{Uncut, Plain}

-- one coordinate along a side of n, mirrored or not
abbrev mirrored : Bool → ℕ → ℕ → ℕ
mirrored true n u = n - 1 - u
mirrored false n u = u

-- the first, or where the axes are exchanged the second
abbrev along : Bool → ℕ → ℕ → ℕ
along true u v = v
along false u v = u

abbrev pub faced : Facing → Size → Point → Point
faced m s p = point (mirrored m.across s.wide (along m.swap p.x p.y)) (mirrored m.down s.high (along m.swap p.y p.x))

abbrev pub faced_size : Facing → Size → Size
faced_size m s = size (along m.swap s.wide s.high) (along m.swap s.high s.wide)

-- turn_facing: a transform does what its facing says
turn_back : (t : Turn) → Uncut t → (s : Size) (p : Point) → back t s p ≡ faced (turn_facing t) s p
unfolding back turn_facing
turn_back Stay c s p = refl
turn_back Left c s p = refl
turn_back Half c s p = refl
turn_back Right c s p = refl
turn_back FlipX c s p = refl
turn_back FlipY c s p = refl
turn_back (Crop _ _ _ _) c s p = elim c [ ]
turn_back Misfit c s p = elim c [ ]

turn_size : (t : Turn) → Uncut t → (s : Size) → size_after t s ≡ faced_size (turn_facing t) s
unfolding size_after turn_facing
turn_size Stay c s = refl
turn_size Left c s = refl
turn_size Half c s = refl
turn_size Right c s = refl
turn_size FlipX c s = refl
turn_size FlipY c s = refl
turn_size (Crop _ _ _ _) c s = elim c [ ]
turn_size Misfit c s = elim c [ ]

-- joined_facing: two facings do what the joined one does
twice : (a b : Bool) (n u : ℕ) → u < n → mirrored a n (mirrored b n u) ≡ mirrored (flipped a b) n u
twice true true n u l = omega arith
twice true false n u l = refl
twice false b n u l = refl

module _ (a b : Facing) (s : Size) where
  joined-size : faced_size b (faced_size a s) ≡ faced_size (joined_facing a b) s
  unfolding joined_facing
  joined-size = by a.swap b.swap
    where
      by : (d e : Bool) → faced_size (facing e b.across b.down) (faced_size (facing d a.across a.down) s) ≡
          faced_size (joined_facing (facing d a.across a.down) (facing e b.across b.down)) s
      by false e = refl
      by true true = refl
      by true false = refl

  joined_back : (p : Point) → Inside (faced_size (joined_facing a b) s) p → faced a s (faced b (faced_size a s) p) ≡ faced (joined_facing a b) s p
  unfolding joined_facing
  joined_back p i = by a.swap b.swap i
    where
      by : (d e : Bool) → Inside (faced_size (joined_facing (facing d a.across a.down) (facing e b.across b.down)) s) p
          → faced (facing d a.across a.down) s (faced (facing e b.across b.down)
          (faced_size (facing d a.across a.down) s) p) ≡ faced (joined_facing (facing d a.across a.down)
          (facing e b.across b.down)) s p
      by false false i = λ j. point (twice a.across b.across s.wide p.x i.in_x j) (twice a.down b.down s.high p.y i.in_y j)
      by false true i = λ j. point (twice a.across b.across s.wide p.y i.in_y j) (twice a.down b.down s.high p.x i.in_x j)
      by true false i = λ j. point (twice a.across b.down s.wide p.y i.in_y j) (twice a.down b.across s.high p.x i.in_x j)
      by true true i = λ j. point (twice a.across b.down s.wide p.x i.in_x j) (twice a.down b.across s.high p.y i.in_y j)

-- chain_facing: and so does a chain, over all sizes
pub chain-size : (ts : List Turn) → Plain ts → (s : Size) → size_through ts s ≡ faced_size (chain_facing ts) s
unfolding size_through chain_facing
chain-size [] c s = refl
chain-size (t ∷ ts) c s =
    ap (size_through ts) (turn_size t c.0 s)
    ∙ chain-size ts c.1 (faced_size (turn_facing t) s)
    ∙ joined-size (turn_facing t) (chain_facing ts) s

pub chain_back : (ts : List Turn) → Plain ts → (s : Size) (p : Point) → Inside (faced_size (chain_facing ts) s) p → undone ts s p ≡ faced (chain_facing ts) s p
unfolding undone chain_facing
chain_back [] c s p i = refl
chain_back (t ∷ ts) c s p i =
    turn_back t c.0 s (undone ts (size_after t s) p)
    ∙ ap (faced (turn_facing t) s)
    (ap (λ (z : Size). undone ts z p) (turn_size t c.0 s)
    ∙ chain_back ts c.1 (faced_size (turn_facing t) s) p (subst (λ (z : Size). Inside z p) (sym (joined-size (turn_facing t) (chain_facing ts) s)) i))
    ∙ joined_back (turn_facing t) (chain_facing ts) s p i

-- A picture of 2 × 3 tells the facings apart. One that is one pixel wide would not, and a square one alone not by its size.
abbrev told : Point → Point → Facing
told p q = facing (eqb p.x q.x) (eqb p.x 1) (eqb p.y 2)

tells : (d x y : Bool) → told (faced (facing d x y) (size 2 3) (point 0 0)) (faced (facing d x y) (size 2 3) (point 1 0)) ≡ facing d x y
tells false false false = refl
tells false false true = refl
tells false true false = refl
tells false true true = refl
tells true false false = refl
tells true false true = refl
tells true true false = refl
tells true true true = refl

-- both points are in it, however it faces
near : (m : Facing) (x : ℕ) → x < 2 → Inside (faced_size m (size 2 3)) (point x 0)
near m x l = by m.swap
  where
    by : (d : Bool) → Inside (faced_size (facing d m.across m.down) (size 2 3)) (point x 0)
    by false = record { in_x = omega arith; in_y = omega arith }
    by true = record { in_x = omega arith; in_y = omega arith }

-- two facings that do the same are the same
pub one-facing : (a b : Facing) → ((s : Size) (p : Point) → Inside (faced_size a s) p → Inside (faced_size b s) p → faced a s p ≡ faced b s p) → a ≡ b
one-facing a b h =
    let at : (x : ℕ) → x < 2 → faced a (size 2 3) (point x 0) ≡ faced b (size 2 3) (point x 0) = λ x l. h (size 2 3) (point x 0) (near a x l) (near b x l) in
    sym (tells a.swap a.across a.down) ∙ (λ j. told (at 0 (omega arith) j) (at 1 (omega arith) j)) ∙ tells b.swap b.across b.down
