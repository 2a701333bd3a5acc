-- How much was cut away at each side of a picture.
--   margins_after t s m  the margins of a picture of size s, which has margins m, after a transform
use Rattle.std.specs.Prelude.{ℕ, ◌+◌, ◌-◌}
use Rattle.pictures.specs.declared.Size.{Size}
use Rattle.pictures.specs.declared.Turn.{Turn}
use Rattle.pictures.specs.declared.Turn.TheVariants.{Stay, Left, Half, Right, FlipX, FlipY, Crop, Misfit}
use Rattle.layout.specs.declared.margins.Margins.{Margins}

abbrev pub margins : ℕ → ℕ → ℕ → ℕ → Margins
margins l t r b = record { left = l; top = t; right = r; bottom = b }

-- A turn takes the margins round with it; a crop adds to them what it cuts away.
unfoldable pub margins_after : Turn → Size → Margins → Margins
margins_after Stay s m = m
margins_after Left s m = margins m.top m.right m.bottom m.left
margins_after Half s m = margins m.right m.bottom m.left m.top
margins_after Right s m = margins m.bottom m.left m.top m.right
margins_after FlipX s m = margins m.right m.top m.left m.bottom
margins_after FlipY s m = margins m.left m.bottom m.right m.top
margins_after (Crop l t w h) s m = margins (m.left + l) (m.top + t) (m.right + (s.wide - (l + w))) (m.bottom + (s.high - (t + h)))
margins_after Misfit s m = m
