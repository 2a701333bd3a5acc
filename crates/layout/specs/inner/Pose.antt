-- How pictures lie on a page. A pose is a number below 8: so many quarter turns to the left, and 4 more if the picture is mirrored left to right before them.
--   pose_of t            how a transform lays a picture
--   composed_of o i      a picture that lies as i in a picture that lies as o: turns add up, but go the other way round in a mirrored picture
--   upright_of p         the pose that brings p back to 0
use Rattle.std.specs.Prelude.{ℕ, ◌+◌, ◌-◌, ◌*◌, ◌/◌, ◌%◌, nat_lt}
use Rattle.fields.specs.Choice.{pick}
use Rattle.pictures.specs.declared.Turn.{Turn}
use Rattle.pictures.specs.declared.Turn.TheVariants.{Stay, Left, Half, Right, FlipX, FlipY, Crop, Misfit}

unfoldable pub pose_of : Turn → ℕ
pose_of Stay = 0
pose_of Left = 1
pose_of Half = 2
pose_of Right = 3
pose_of FlipX = 4
pose_of FlipY = 6
pose_of (Crop l t w h) = 0
pose_of Misfit = 0

unfoldable pub composed_of : ℕ → ℕ → ℕ
composed_of o i = pick (nat_lt (o % 8) 4) ((o % 8 + i % 8 % 4) % 4 + 4 * ((o % 8 / 4 + i % 8 / 4) % 2))
    ((o % 8 + (4 - i % 8 % 4)) % 4 + 4 * ((o % 8 / 4 + i % 8 / 4) % 2))

unfoldable pub upright_of : ℕ → ℕ
upright_of p = pick (nat_lt (p % 8) 4) ((4 - p % 8) % 4) (p % 8)
