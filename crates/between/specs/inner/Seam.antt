-- A seam between two pixels, as whole points.
--   apart a b            how far two numbers lie apart;   longer a b    the larger of two
--   count_of across down  how many points: one for each pixel of the longer way, both ends counted, at most 512
--   step_of far k n       how far point k of n lies from the first, where the last lies `far` from it: whole, rounded towards
--                        the first; 0 where there is one point
--   on_the_way a b k n     where point k of n lies on the way from a to b
use Rattle.std.specs.Prelude.{ℕ, ◌+◌, ◌-◌, ◌*◌, ◌/◌, ltb}
use Rattle.fields.specs.Choice.{pick}

unfoldable pub apart : ℕ → ℕ → ℕ
apart a b = pick (ltb a b) (b - a) (a - b)

unfoldable pub longer : ℕ → ℕ → ℕ
longer a b = pick (ltb a b) b a

unfoldable pub count_of : ℕ → ℕ → ℕ
count_of across down = pick (ltb (longer across down) 511) (longer across down + 1) 512

unfoldable pub step_of : ℕ → ℕ → ℕ → ℕ
step_of far k n = pick (ltb n 2) 0 (far * k / (n - 1))

unfoldable pub on_the_way : ℕ → ℕ → ℕ → ℕ → ℕ
on_the_way a b k n = pick (ltb a b) (a + step_of (apart a b) k n) (a - step_of (apart a b) k n)
