-- The code's values for what an item's properties say.
--   Alike f a b       the items in the rows a and b have the same type, and the same associations in the same order
--   are d o           a declared size and an output size
--   told_sizes f id    what the item declares and what its transforms make of it; none where its properties break 15 or 16
use Rattle.std.specs.Prelude.{ℕ, ◌≡◌, ◌&&◌, Option, Some, None}
use Rattle.fields.specs.Choice.{pick}
use Rattle.contents.specs.File.{File}
use Rattle.pictures.specs.declared.Size.{Size}
use Rattle.pictures.specs.Turn.{size_through}
use Rattle.pictures.specs.Decode.{turns_of}
use Rattle.rules.specs.Joined.{associations_of, boxes_of, types_of, item_at}
use Rattle.rules.specs.Derivations.{declared_in}
use Rattle.rules.specs.Rules.{essential_known, good_ispe}
use Rattle.declared.specs.declared.Sizes.{Sizes}

abbrev pub Alike : File → ℕ → ℕ → Type 0
Alike f a b = ((item_at f a).type ≡ (item_at f b).type) × (associations_of f (item_at f a).id ≡ associations_of f (item_at f b).id)

abbrev pub are : Size → Size → Option Sizes
are d o = Some (record { declared = d; output = o })

unfoldable pub told_sizes : File → ℕ → Option Sizes
told_sizes f id =
    pick (essential_known f (associations_of f id) && good_ispe (types_of f id))
    (are (declared_in (boxes_of f id)) (size_through (turns_of (declared_in (boxes_of f id)) (boxes_of f id)) (declared_in (boxes_of f id))))
    None
