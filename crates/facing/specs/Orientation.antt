-- Q-3, orientations: "Their viewer takes one Exif orientation, 1 to 8." What must be believed.
--   Transform             a transform as a property box says it: `irot` or `imir`, and the value that it holds
--   box_for t              the property box that says it
--   transforms_for n       the transforms of an orientation;   turns_for n    what their boxes do
--   Plain ts              none of the transforms ts cuts
--   Fits n ts             over all W and H, the orientation n makes the same picture of the same pixels as ts
--   orientation_in, transforms_in     the two questions;   orientation    the first as it is called
use Rattle.std.specs.Prelude.{ℕ, ◌≡◌, List, [], ◌∷◌, map, not, ◌&&◌, get_or, leb}
use Rattle.fields.specs.Lists.{member}
use Rattle.boxes.specs.Answer.{Answer, ok, check, ◌>>=◌, ◌>>◌}
use Rattle.boxes.specs.Types.{clap}
use Rattle.contents.specs.File.{File}
use Rattle.pictures.specs.declared.Size.{Size}
use Rattle.pictures.specs.declared.Point.{Point}
use Rattle.pictures.specs.declared.Turn.{Turn}
use Rattle.pictures.specs.declared.Turn.TheVariants.{Stay, Left, Half, Right, FlipX, FlipY, Crop, Misfit}
use Rattle.pictures.specs.Turn.{size, Inside, size_through, undone}
use Rattle.pictures.specs.Decode.{turns_of}
use Rattle.pictures.specs.Scene.{Scene, picture_at}
use Rattle.rules.specs.Joined.{types_of}
use Rattle.rules.specs.Opening.{opened, pictured}
use Rattle.rules.specs.Derivations.{scene_of}
use Rattle.facing.specs.Facings.{number_of, chain_facing}

pub data Transform : Type 0 where
  irot : ℕ → Transform
  imir : ℕ → Transform

-- 9 bytes: size, type, and the one byte of the content
unfoldable pub box_for : Transform → List ℕ
box_for (irot a) = 0 ∷ 0 ∷ 0 ∷ 9 ∷ 0x69 ∷ 0x72 ∷ 0x6f ∷ 0x74 ∷ a ∷ []
box_for (imir a) = 0 ∷ 0 ∷ 0 ∷ 9 ∷ 0x69 ∷ 0x6d ∷ 0x69 ∷ 0x72 ∷ a ∷ []

-- "1 is none; 2 left-right; 3 `irot` 2; 4 top-bottom; 5 `irot` 3 then left-right; 6 `irot` 3; 7 `irot` 1 then
-- left-right; 8 `irot` 1"; by Q-1 `imir` 1 is left-right and `imir` 0 top-bottom
unfoldable pub lists : List (List Transform)
lists =
    []
    ∷ (imir 1 ∷ [])
    ∷ (irot 2 ∷ [])
    ∷ (imir 0 ∷ [])
    ∷ (irot 3 ∷ imir 1 ∷ [])
    ∷ (irot 3 ∷ [])
    ∷ (irot 1 ∷ imir 1 ∷ [])
    ∷ (irot 1 ∷ [])
    ∷ []

-- the list of an orientation, which counts from 1
unfoldable pub transforms_for : ℕ → List Transform
transforms_for n = get_or ([] ∷ lists) n []

-- What the boxes of an orientation do. `irot` and `imir` do the same to every size, so any size serves to decode them.
unfoldable pub turns_for : ℕ → List Turn
turns_for n = turns_of (size 0 0) (map box_for (transforms_for n))

-- "transforms are only `irot` and `imir`"
abbrev pub Uncut : Turn → Type 0
Uncut Stay = Unit {0}
Uncut Left = Unit {0}
Uncut Half = Unit {0}
Uncut Right = Unit {0}
Uncut FlipX = Unit {0}
Uncut FlipY = Unit {0}
Uncut (Crop l t w h) = ⊥
Uncut Misfit = ⊥

abbrev pub Plain : List Turn → Type 0
Plain [] = Unit {0}
Plain (t ∷ ts) = Uncut t × Plain ts

-- "the pixel rules taken as maps over all W and H"
pub record Fits (n : ℕ) (ts : List Turn) : Type 0 where
  pub sizes : (s : Size) → size_through (turns_for n) s ≡ size_through ts s
  pub pixels : (s : Size) (p : Point) → Inside (size_through ts s) p → undone (turns_for n) s p ≡ undone ts s p

-- "Give it for any image item whose transforms are only `irot` and `imir`, however many"; "26, the item has a `clap`, after 22"
unfoldable pub orientation_in : Scene → File → ℕ → Answer ℕ
orientation_in s f id = do
  r ← pictured f id
  check 26 id (not (member clap (types_of f id)))
  ok (number_of (chain_facing (picture_at s r).turns))

-- "from an orientation give the shortest list, `irot` first"; "27, orientation not 1 to 8, the only check in that call"
unfoldable pub transforms_in : ℕ → Answer (List Transform)
transforms_in n = check 27 0 (leb 1 n && leb n 8) >> ok (transforms_for n)

-- the question as it is called, n being the length of the table that is lent: 1, 2 to 20, 21, 22, then 26
unfoldable pub orientation : ℕ → ℕ → List ℕ → ℕ → Answer ℕ
orientation n total head id = opened n total head >>= (λ f. orientation_in (scene_of total head f) f id)
