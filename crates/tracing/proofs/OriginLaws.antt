-- Where pixels come from, coordinate by coordinate, where the code's arithmetic wraps. Assumes nothing.
--   Leads t s o    o says where the pixels come from that the transform t has moved
use Rattle.std.proofs.Common.{◌≡◌, ℕ, ◌+◌, ◌-◌, ◌*◌, ◌/◌, ◌%◌, ◌<◌, Bool, true, false, not, ap, ◌∙◌, arith}
use mathlib.Core.Bool.{beq}
use Rattle.fields.specs.Choice.{pick}
use Rattle.pictures.specs.declared.Size.{Size}
use Rattle.pictures.specs.declared.Point.{Point}
use Rattle.pictures.specs.declared.Turn.{Turn}
use Rattle.pictures.specs.declared.Turn.TheVariants.{Stay, Left, Half, Right, FlipX, FlipY, Crop, Misfit}
use Rattle.pictures.specs.Turn.{size_after, back, Inside, Fits}
use Rattle.tracing.specs.declared.Coordinate.{Coordinate}
use Rattle.tracing.specs.declared.Origin.{Origin}
use Rattle.tracing.specs.inner.Origins.{coordinate, origin, moved_by, of_point, coordinate_at, origin_at}

-- two rests that differ by a multiple of 2^32
same_rest : (x y a b : ℕ) → x % 4294967296 + 4294967296 * a ≡ y % 4294967296 + 4294967296 * b → x % 4294967296 ≡ y % 4294967296
same_rest x y a b e = omega arith

rest-small : (x : ℕ) → x % 4294967296 < 4294967296
rest-small x = omega arith

rest_of : (x : ℕ) → x % 4294967296 + 4294967296 * (x / 4294967296) ≡ x
rest_of x = omega arith

-- moved_by: a number by another one, which goes by v: back where just one of them goes back. i and l are the number moved by the other
-- and then by v, j and r the other moved by v and the number moved by that; a to d are how often each wraps.
module _ (from by v i l j r a b c d : ℕ) where
  wraps_on-on : i + 4294967296 * a ≡ from + by → l + 4294967296 * b ≡ i + v → j + 4294967296 * c ≡ by + v → r + 4294967296 * d ≡ from + j →
      l + 4294967296 * (a + b) ≡ r + 4294967296 * (c + d)
  wraps_on-on e g h z = omega arith

  module _ (f : from < 4294967296) (k : by < 4294967296) (m : v < 4294967296) (n : j < 4294967296) where
    wraps_back-back : i + 4294967296 * a ≡ from + 4294967296 - by → l + 4294967296 * b ≡ i + v → j + 4294967296 * c ≡ by + 4294967296 - v →
        r + 4294967296 * d ≡ from + 4294967296 - j → l + 4294967296 * (a + b + c) ≡ r + 4294967296 * (d + 1)
    wraps_back-back e g h z = omega arith

    wraps_back-on : i + 4294967296 * a ≡ from + 4294967296 - by → l + 4294967296 * b ≡ i + 4294967296 - v → j + 4294967296 * c ≡ by + v →
        r + 4294967296 * d ≡ from + 4294967296 - j → l + 4294967296 * (a + b + c) ≡ r + 4294967296 * (d + 1)
    wraps_back-on e g h z = omega arith

    wraps_on-back : i + 4294967296 * a ≡ from + by → l + 4294967296 * b ≡ i + 4294967296 - v → j + 4294967296 * c ≡ by + 4294967296 - v →
        r + 4294967296 * d ≡ from + j → l + 4294967296 * (a + b) ≡ r + 4294967296 * (c + d)
    wraps_on-back e g h z = omega arith

moved-moved : (from by v : ℕ) (a b : Bool) → from < 4294967296 → by < 4294967296 → v < 4294967296 →
    moved_by (moved_by from a by) (not (beq a b)) v ≡ moved_by from a (moved_by by b v)
unfolding moved_by pick
moved-moved from by v true true f k l =
    let i = from + 4294967296 - by in let j = by + 4294967296 - v in
    let x = i % 4294967296 + v in let y = from + 4294967296 - j % 4294967296 in
    same_rest x y _ _
    (wraps_back-back from by v (i % 4294967296) (x % 4294967296) (j % 4294967296) (y % 4294967296) _ _ _ _ f k l (rest-small j)
    (rest_of i) (rest_of x) (rest_of j) (rest_of y))
moved-moved from by v true false f k l =
    let i = from + 4294967296 - by in let j = by + v in
    let x = i % 4294967296 + 4294967296 - v in let y = from + 4294967296 - j % 4294967296 in
    same_rest x y _ _
    (wraps_back-on from by v (i % 4294967296) (x % 4294967296) (j % 4294967296) (y % 4294967296) _ _ _ _ f k l (rest-small j)
    (rest_of i) (rest_of x) (rest_of j) (rest_of y))
moved-moved from by v false true f k l =
    let i = from + by in let j = by + 4294967296 - v in
    let x = i % 4294967296 + 4294967296 - v in let y = from + j % 4294967296 in
    same_rest x y _ _
    (wraps_on-back from by v (i % 4294967296) (x % 4294967296) (j % 4294967296) (y % 4294967296) _ _ _ _ f k l (rest-small j)
    (rest_of i) (rest_of x) (rest_of j) (rest_of y))
moved-moved from by v false false f k l =
    let i = from + by in let j = by + v in
    let x = i % 4294967296 + v in let y = from + j % 4294967296 in
    same_rest x y _ _
    (wraps_on-on from by v (i % 4294967296) (x % 4294967296) (j % 4294967296) (y % 4294967296) _ _ _ _
    (rest_of i) (rest_of x) (rest_of j) (rest_of y))

-- of_point: a coordinate of p
point-small : (tall : Bool) (p : Point) → p.x < 4294967296 → p.y < 4294967296 → of_point tall p < 4294967296
unfolding of_point pick
point-small true p h k = k
point-small false p h k = h

-- coordinate_at
pub coordinate-moved : (c other : Coordinate) → c.from < 4294967296 → other.from < 4294967296 → (r : ℕ) → r ≡ moved_by c.from c.back other.from →
    (p : Point) → p.x < 4294967296 → p.y < 4294967296 →
    coordinate_at (coordinate r (not (beq c.back other.back)) other.tall) p ≡ moved_by c.from c.back (coordinate_at other p)
coordinate-moved c other f k r e p h l =
    ap (λ (r : ℕ). moved_by r (not (beq c.back other.back)) (of_point other.tall p)) e
    ∙ moved-moved c.from other.from (of_point other.tall p) c.back other.back f k (point-small other.tall p h l)

module _ (c : Coordinate) (p : Point) where
  pub coordinate_tall : c.tall ≡ true → moved_by c.from c.back p.y ≡ coordinate_at c p
  unfolding of_point pick
  coordinate_tall e = rw e

  pub coordinate-wide : c.tall ≡ false → moved_by c.from c.back p.x ≡ coordinate_at c p
  unfolding of_point pick
  coordinate-wide e = rw e

-- moved_by: where nothing wraps
on_exact : (from v : ℕ) → from + v < 4294967296 → moved_by from false v ≡ v + from
unfolding moved_by pick
on_exact from v h = omega arith

kept_exact : (v : ℕ) → v < 4294967296 → moved_by 0 false v ≡ v
unfolding moved_by pick
kept_exact v h = omega arith

-- the last coordinate of a side, as the code subtracts
abbrev last : ℕ → ℕ
last side = (side + 4294967295) % 4294967296

back_exact : (side v : ℕ) → side < 4294967296 → v < side → moved_by (last side) true v ≡ side - 1 - v
unfolding moved_by pick
back_exact side v h l = omega arith

origin_stays : (p : Point) → p.x < 4294967296 → p.y < 4294967296 → origin_at (origin (coordinate 0 false false) (coordinate 0 false true)) p ≡ p
unfolding of_point pick
origin_stays p h k = rw (kept_exact p.x (omega arith), kept_exact p.y (omega arith))

pub origin-kept : (o : Origin) (x y : Coordinate) → o ≡ origin x y → x ≡ coordinate 0 false false → y ≡ coordinate 0 false true →
    (p : Point) → p.x < 4294967296 → p.y < 4294967296 → origin_at o p ≡ p
origin-kept o x y eo a b p h k = rw (eo, a, b, origin_stays p h k)

-- the transform t of a picture of size s
abbrev Leads : Turn → Size → Origin → Type 0
Leads t s o = (p : Point) → Fits t s → Inside (size_after t s) p → origin_at o p ≡ back t s p

module _ (t : Turn) (s : Size) (w : s.wide < 4294967296) (h : s.high < 4294967296) (o : Origin) (x y : Coordinate) (eo : o ≡ origin x y) where
  pub leads-stay : t ≡ Stay → x ≡ coordinate 0 false false → y ≡ coordinate 0 false true → Leads t s o
  unfolding back size_after
  leads-stay e a b p f i =
      let j = rw e at i in rw (e, eo, a, b, origin_stays p (omega (arith, j.in_x)) (omega (arith, j.in_y)))

  pub leads-crop : (l u m n : ℕ) → t ≡ Crop l u m n → x ≡ coordinate l false false → y ≡ coordinate u false true → Leads t s o
  unfolding back size_after of_point pick
  leads-crop l u m n e a b p f i =
      let j = rw e at i in let g = rw e at f in
      rw (e, eo, a, b, on_exact l p.x (omega (arith, j.in_x, g.0)), on_exact u p.y (omega (arith, j.in_y, g.1)))

  pub leads_misfit : t ≡ Misfit → Leads t s o
  leads_misfit e p f i = absurd (rw e at f)

  pub leads-left : t ≡ Left → x ≡ coordinate (last s.wide) true true → y ≡ coordinate 0 false false → Leads t s o
  unfolding back size_after of_point pick
  leads-left e a b p f i =
      let j = rw e at i in
      rw (e, eo, a, b, back_exact s.wide p.y w j.in_y, kept_exact p.x (omega (arith, j.in_x)))

  pub leads-half : t ≡ Half → x ≡ coordinate (last s.wide) true false → y ≡ coordinate (last s.high) true true → Leads t s o
  unfolding back size_after of_point pick
  leads-half e a b p f i =
      let j = rw e at i in
      rw (e, eo, a, b, back_exact s.wide p.x w j.in_x, back_exact s.high p.y h j.in_y)

  pub leads-right : t ≡ Right → x ≡ coordinate 0 false true → y ≡ coordinate (last s.high) true false → Leads t s o
  unfolding back size_after of_point pick
  leads-right e a b p f i =
      let j = rw e at i in
      rw (e, eo, a, b, kept_exact p.y (omega (arith, j.in_y)), back_exact s.high p.x h j.in_x)

  pub leads_flip_x : t ≡ FlipX → x ≡ coordinate (last s.wide) true false → y ≡ coordinate 0 false true → Leads t s o
  unfolding back size_after of_point pick
  leads_flip_x e a b p f i =
      let j = rw e at i in
      rw (e, eo, a, b, back_exact s.wide p.x w j.in_x, kept_exact p.y (omega (arith, j.in_y)))

  pub leads_flip_y : t ≡ FlipY → x ≡ coordinate 0 false false → y ≡ coordinate (last s.high) true true → Leads t s o
  unfolding back size_after of_point pick
  leads_flip_y e a b p f i =
      let j = rw e at i in
      rw (e, eo, a, b, kept_exact p.x (omega (arith, j.in_x)), back_exact s.high p.y h j.in_y)
