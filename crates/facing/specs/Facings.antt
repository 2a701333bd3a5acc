-- How the number is found: every chain of `irot` and `imir` exchanges the axes or not and then mirrors each or not.
-- Nobody must believe this: `Fits` says what the number means, and the theorems of proofs/FitsLaws tie the two.
--   flipped a b            whether one of the two holds and not the other
--   turn_facing t           which way a picture faces after a transform that cuts nothing
--   joined_facing a b       a's transforms, then b's
--   chain_facing ts         all of ts in order;   number_of    the orientation's number
use Rattle.std.specs.Prelude.{ℕ, List, [], ◌∷◌, Bool, true, false, not}
use Rattle.pictures.specs.declared.Turn.{Turn}
use Rattle.pictures.specs.declared.Turn.TheVariants.{Stay, Left, Half, Right, FlipX, FlipY, Crop, Misfit}
use Rattle.facing.specs.declared.Facing.{Facing}

abbrev pub facing : Bool → Bool → Bool → Facing
facing s x y = record { swap = s; across = x; down = y }

abbrev pub flipped : Bool → Bool → Bool
flipped true b = not b
flipped false b = b

-- a crop has none; a chain with one is never asked for
unfoldable pub turn_facing : Turn → Facing
turn_facing Stay = facing false false false
turn_facing Left = facing true true false
turn_facing Half = facing false true true
turn_facing Right = facing true false true
turn_facing FlipX = facing false true false
turn_facing FlipY = facing false false true
turn_facing (Crop l t w h) = facing false false false
turn_facing Misfit = facing false false false

-- by whether a exchanges the axes: what b mirrors is then mirrored along the other one
abbrev pub joined_by : Bool → Facing → Facing → Facing
joined_by false a b = facing b.swap (flipped a.across b.across) (flipped a.down b.down)
joined_by true a b = facing (not b.swap) (flipped a.across b.down) (flipped a.down b.across)

unfoldable pub joined_facing : Facing → Facing → Facing
joined_facing a b = joined_by a.swap a b

unfoldable pub chain_facing : List Turn → Facing
chain_facing [] = facing false false false
chain_facing (t ∷ ts) = joined_facing (turn_facing t) (chain_facing ts)

abbrev pub numbered : Bool → Bool → Bool → ℕ
numbered false false false = 1
numbered false true false = 2
numbered false true true = 3
numbered false false true = 4
numbered true false false = 5
numbered true false true = 6
numbered true true true = 7
numbered true true false = 8

unfoldable pub number_of : Facing → ℕ
number_of a = numbered a.swap a.across a.down
