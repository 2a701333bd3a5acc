-- What a call leaves where it is refused: document 01, below "Refusal numbers". "Refusal 1 writes nothing. Refusals 2
-- to 20 set the table's first 11,280 words to 0. With 21 to 25 the table is the file's. .. Words past 11,280 are never
-- written."
--   IsListed f id, IsPicture f id        f lists the item with that ID, and it is no opaque one
--   shown_as s f id                       that item's picture
--   SizeUnmet, TraceUnmet, PointsUnmet, SourcesUnmet, PropertyUnmet, OrientationUnmet .. n
--                                        why a question of a good file is refused by n; the place is the asked ID
--   Call head total table Unmet n p left     a call that is refused by n at p: why, and the table that it leaves
use Rattle.std.specs.Prelude.{ℕ, ◌≤◌, ◌<◌, ◌≡◌, List, ◌++◌, true, false, ◌⊎◌, length, replicate, drop}
use Rattle.fields.specs.Lists.{member}
use Rattle.boxes.specs.Types.{image, clap}
use Rattle.contents.specs.Iinf.{ids_of}
use Rattle.contents.specs.File.{File}
use Rattle.pictures.specs.declared.Point.{Point}
use Rattle.pictures.specs.Turn.{Inside}
use Rattle.pictures.specs.Scene.{Picture, Scene, picture_at, output_of}
use Rattle.pictures.specs.Sources.{sources}
use Rattle.rules.specs.Joined.{associations_of, types_of, row_of, item_at}
use Rattle.rules.specs.Words.{words_of}
use Rattle.faults.specs.Good.{GoodFile, Refused}

abbrev pub IsListed : File → ℕ → Type 0
IsListed f id = member id (ids_of f.items) ≡ true

abbrev pub IsPicture : File → ℕ → Type 0
IsPicture f id = IsListed f id × (image (item_at f (row_of id f.items)).type ≡ true)

abbrev pub shown_as : Scene → File → ℕ → Picture
shown_as s f id = picture_at s (row_of id f.items)

-- 21: "asked item not listed"; 22: "asked item opaque (size, trace, sources)"
pub data SizeUnmet (f : File) (id n : ℕ) : Type 0 where
  unlisted : n ≡ 21 → member id (ids_of f.items) ≡ false → SizeUnmet f id n
  opaque : n ≡ 22 → IsListed f id → image (item_at f (row_of id f.items)).type ≡ false → SizeUnmet f id n

-- 23: "pixel outside output size"
pub data TraceUnmet (s : Scene) (f : File) (id : ℕ) (p : Point) (n : ℕ) : Type 0 where
  not-shown : SizeUnmet f id n → TraceUnmet s f id p n
  outside : n ≡ 23 → IsPicture f id → (Inside (output_of (shown_as s f id)) p → ⊥) → TraceUnmet s f id p n

-- 28: "Refusals 1 to 22 and a list over 512 (28, after 22) change no record." k is how many records are lent. No point is
-- among the reasons: "A point outside the picture gets 23 in its own record and the others are still answered."
pub data PointsUnmet (f : File) (id k n : ℕ) : Type 0 where
  no_pixels : SizeUnmet f id n → PointsUnmet f id k n
  too_many : n ≡ 28 → IsPicture f id → 512 < k → PointsUnmet f id k n

-- 24: "list shorter than the sources"
pub data SourcesUnmet (s : Scene) (f : File) (id room n : ℕ) : Type 0 where
  not-derived : SizeUnmet f id n → SourcesUnmet s f id room n
  too_short : n ≡ 24 → IsPicture f id → room < length (sources s (row_of id f.items)) → SourcesUnmet s f id room n

-- 25: "property number 0 or over the item's count"
pub data PropertyUnmet (f : File) (id k n : ℕ) : Type 0 where
  not_listed : n ≡ 21 → member id (ids_of f.items) ≡ false → PropertyUnmet f id k n
  no_such : n ≡ 25 → IsListed f id → (k ≡ 0) ⊎ (length (associations_of f id) < k) → PropertyUnmet f id k n

-- 26: "the item has a `clap`, after 22"
pub data OrientationUnmet (f : File) (id n : ℕ) : Type 0 where
  no_picture : SizeUnmet f id n → OrientationUnmet f id n
  cropped : n ≡ 26 → IsPicture f id → member clap (types_of f id) ≡ true → OrientationUnmet f id n

-- Unmet: why the question itself is refused, of a good file
pub data Call (head : List ℕ) (total : ℕ) (table : List ℕ) (Unmet : File → ℕ → ℕ → Type 0) (n p : ℕ) (left : List ℕ) : Type 0 where
  short : length table < 11280 → n ≡ 1 → p ≡ 0 → left ≡ table → Call head total table Unmet n p left
  bad : 11280 ≤ length table → Refused total head n p → left ≡ replicate 11280 0 ++ drop 11280 table → Call head total table Unmet n p left
  unmet : 11280 ≤ length table → (f : File) → GoodFile total head f → Unmet f n p → left ≡ words_of total head f ++
      drop 11280 table → Call head total table Unmet n p left
