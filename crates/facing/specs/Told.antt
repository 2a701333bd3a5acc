-- The code's values for the answers about orientations.
--   told_faced f s id       the orientation of the item's transforms; none where one of them is a `clap`
--   told_oriented           the code's value for an answer
--   told_transforms         the transforms of an orientation, or the refusal
use Rattle.std.specs.Prelude.{ℕ, List, [], ◌∷◌, Option, Some, None, Result, Ok, Err}
use Rattle.fields.specs.Choice.{pick}
use Rattle.fields.specs.Lists.{member}
use Rattle.boxes.specs.Answer.{Answer, ok, refuse}
use Rattle.boxes.specs.Types.{clap}
use Rattle.boxes.specs.declared.Refusal.{Refusal}
use Rattle.contents.specs.File.{File}
use Rattle.pictures.specs.declared.Size.{Size}
use Rattle.pictures.specs.Decode.{turns_of}
use Rattle.rules.specs.Joined.{boxes_of, types_of}
use Rattle.facing.specs.declared.Transform as code
use Rattle.facing.specs.declared.Transform.TheVariants as transform
use Rattle.facing.specs.declared.TransformList.{TransformList}
use Rattle.facing.specs.declared.TransformList.TheVariants as list
use Rattle.facing.specs.Facings.{number_of, chain_facing}
use Rattle.facing.specs.Orientation.{Transform, irot, imir}

-- the same for every size s
unfoldable pub told_faced : File → Size → ℕ → Option ℕ
told_faced f s id = pick (member clap (types_of f id)) None (Some (number_of (chain_facing (turns_of s (boxes_of f id)))))

unfoldable pub told_oriented : Answer ℕ → Result ℕ Refusal
told_oriented (ok n) = Ok n
told_oriented (refuse n p) = Err (record { number = n; place = p })

unfoldable pub told_transform : Transform → code.Transform
told_transform (irot a) = transform.Irot a
told_transform (imir a) = transform.Imir a

-- no orientation has more than two
unfoldable pub told_transforms : Answer (List Transform) → Result TransformList Refusal
told_transforms (ok []) = Ok list.None
told_transforms (ok (a ∷ [])) = Ok (list.One (told_transform a))
told_transforms (ok (a ∷ (b ∷ ts))) = Ok (list.Two (told_transform a) (told_transform b))
told_transforms (refuse n p) = Err (record { number = n; place = p })
