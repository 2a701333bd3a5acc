-- How large a picture is drawn.
--   scale_of frame       how many millionths of a pixel a step on the screen is, for a frame in a field of 1,140 by 800 steps, in a number of 32 bits
use Rattle.std.specs.Prelude.{ℕ, ◌*◌, ◌/◌, min, max}
use Rattle.pictures.specs.declared.Size.{Size}

unfoldable pub scale_of : Size → ℕ
scale_of frame = min (max (frame.wide * 1000000 / 1140) (frame.high * 1000000 / 800)) 4294967295
