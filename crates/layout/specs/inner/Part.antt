-- What is seen of a picture, as it lies on the page.
--   whole_of s           all of a picture of size s
--   across_of part p     how wide a part is in the pose p;   down_of part p    how high
use Rattle.std.specs.Prelude.{ℕ, ◌+◌, ◌-◌, ◌%◌, ◌==◌}
use Rattle.fields.specs.Choice.{pick}
use Rattle.pictures.specs.declared.Size.{Size}
use Rattle.layout.specs.declared.part.Part.{Part}

abbrev pub whole_of : Size → Part
whole_of s = record { left = 0; top = 0; right = s.wide - 1; bottom = s.high - 1 }

unfoldable pub across_of : Part → ℕ → ℕ
across_of part p = pick (p % 2 == 1) (part.bottom + 1 - part.top) (part.right + 1 - part.left)

unfoldable pub down_of : Part → ℕ → ℕ
down_of part p = pick (p % 2 == 1) (part.right + 1 - part.left) (part.bottom + 1 - part.top)
