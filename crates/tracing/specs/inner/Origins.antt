-- Where the pixels of a picture come from, each coordinate by itself, as the code has it: with numbers of 32 bits, which wrap where no pixel is.
--   moved_by from back by    so far on from a number, or back
--   of_point tall p          a coordinate of p: its y, or its x
--   coordinate_at c p        the coordinate c of the point that p comes from;   origin_at o p    that point
use Rattle.std.specs.Prelude.{ℕ, ◌+◌, ◌-◌, ◌%◌, Bool}
use Rattle.fields.specs.Choice.{pick}
use Rattle.pictures.specs.declared.Point.{Point}
use Rattle.pictures.specs.Turn.{point}
use Rattle.tracing.specs.declared.Coordinate.{Coordinate}
use Rattle.tracing.specs.declared.Origin.{Origin}

abbrev pub coordinate : ℕ → Bool → Bool → Coordinate
coordinate from back tall = record { from = from; back = back; tall = tall }

abbrev pub origin : Coordinate → Coordinate → Origin
origin x y = record { x = x; y = y }

unfoldable pub moved_by : ℕ → Bool → ℕ → ℕ
moved_by from back by = pick back ((from + 4294967296 - by) % 4294967296) ((from + by) % 4294967296)

unfoldable pub of_point : Bool → Point → ℕ
of_point tall p = pick tall p.y p.x

abbrev pub coordinate_at : Coordinate → Point → ℕ
coordinate_at c p = moved_by c.from c.back (of_point c.tall p)

abbrev pub origin_at : Origin → Point → Point
origin_at o p = point (coordinate_at o.x p) (coordinate_at o.y p)
