-- Where inputs lie on a canvas, and what is seen of them. Numbers that may be negative have 2^31 added to them.
--   raised z                   a signed number so
--   tile_in columns k s         the corner of tile k, of size s, in a grid of so many columns
--   span_of first last c side   what of a side that begins at c is seen from a first to a last pixel
--   seen_in part c s            what of an input of size s at the corner c is seen in a part of its canvas
--   seen_of part z around c s   the same; if nothing is and what is cut away is drawn too, what lies on a canvas of size z
use Rattle.std.specs.Prelude.{ℕ, ◌+◌, ◌*◌, ◌-◌, ◌/◌, ◌%◌, min, Bool, ltb, leb, eqb, Option, Some, None}
use Rattle.fields.specs.Choice.{pick}
use Rattle.pictures.specs.declared.Size.{Size}
use Rattle.pictures.specs.Signed.{Signed, plus, minus}
use Rattle.layout.specs.declared.part.Part.{Part}
use Rattle.layout.specs.inner.Part.{whole_of}
use Rattle.corners.specs.declared.Corner.{Corner}
use Rattle.corners.specs.declared.Span.{Span}

abbrev pub raised : Signed → ℕ
raised (plus n) = 2147483648 + n
raised (minus n) = 2147483648 - n

-- "Row by row from top left."
abbrev pub tile_in : ℕ → ℕ → Size → Corner
tile_in columns k s = record { x = 2147483648 + k % columns * s.wide; y = 2147483648 + k / columns * s.high }

unfoldable pub span_of : ℕ → ℕ → ℕ → ℕ → Option Span
span_of first last c side =
    pick (eqb side 0) None
    (pick (ltb (2147483648 + last) c) None
    (pick (leb (c + side) (2147483648 + first)) None
    (Some (record { from = 2147483648 + first - c; to = min (2147483648 + last - c) (side - 1) }))))

abbrev pub both : Option Span → Option Span → Option Part
both (Some x) (Some y) = Some (record { left = x.from; top = y.from; right = x.to; bottom = y.to })
both (Some x) None = None
both None y = None

abbrev pub seen_in : Part → Corner → Size → Option Part
seen_in part c s = both (span_of part.left part.right c.x s.wide) (span_of part.top part.bottom c.y s.high)

abbrev pub or_else : Bool → Option Part → Option Part → Option Part
or_else around (Some p) other = Some p
or_else around None other = pick around other None

abbrev pub seen_of : Part → Size → Bool → Corner → Size → Option Part
seen_of part z around c s = or_else around (seen_in part c s) (seen_in (whole_of z) c s)
