-- What each export promises, whole: all that a call leaves, `out`, the list and the table, from what it was lent.
--   VerdictGiven, SizeGiven, TraceGiven, PointsGiven, SourcesGiven, PropertyGiven, OrientationGiven, TransformsGiven, BodyGiven
--   VerdictBy, .. by any layout of the table that is left: `left_by total head table`
use Rattle.std.specs.Prelude.{ℕ, ◌≡◌, List, length}
use Rattle.pictures.specs.Turn.{point}
use Rattle.rules.specs.Opening.{after}
use Rattle.questions.specs.Questions.{list_after}
use Rattle.questions.specs.Questions as Q
use Rattle.seam.specs.Points.{points}
use Rattle.seam.specs.Numbers.{numbers_after}
use Rattle.facing.specs.Orientation.{orientation, transforms_in}
use Rattle.bodied.specs.Body.{body, buffer_after, room_left}
use Rattle.out.specs.Out.{out_verdict, out_sized, out_traced, out_points, out_listed, out_part, out_orientation, out_transforms, out_bodied}

-- The promises, by what a call leaves in the table (crates/still/specs/Given.antt).
module _ (left_by : ℕ → List ℕ → List ℕ → List ℕ) (head : List ℕ) (total : ℕ) (table : List ℕ) where
  abbrev pub VerdictBy : List ℕ → List ℕ → Type 0
  VerdictBy out left = (out ≡ out_verdict (Q.verdict (length table) total head)) × (left ≡ left_by total head table)

  abbrev pub SizeBy : ℕ → List ℕ → List ℕ → Type 0
  SizeBy item out left = (out ≡ out_sized (Q.size (length table) total head item)) × (left ≡ left_by total head table)

  abbrev pub TraceBy : ℕ → ℕ → ℕ → List ℕ → List ℕ → Type 0
  TraceBy item x y out left = (out ≡ out_traced (Q.trace (length table) total head item (point x y))) × (left ≡ left_by total head table)

  -- `records` and `filled`: the records of nine numbers before and after
  abbrev pub PointsBy : ℕ → List (List ℕ) → List ℕ → List (List ℕ) → List ℕ → Type 0
  PointsBy item records out filled left =
      (out ≡ out_points (points (length table) total head item (length records)))
      × (filled ≡ numbers_after (points (length table) total head item (length records)) (Q.trace (length table) total head item) records)
      × (left ≡ left_by total head table)

  abbrev pub SourcesBy : ℕ → List ℕ → List ℕ → List ℕ → List ℕ → Type 0
  SourcesBy item list out written left =
      (out ≡ out_listed (Q.sources (length table) total head item (length list)))
      × (written ≡ list_after (Q.sources (length table) total head item (length list)) list)
      × (left ≡ left_by total head table)

  abbrev pub PropertyBy : ℕ → ℕ → List ℕ → List ℕ → Type 0
  PropertyBy item k out left = (out ≡ out_part (Q.property (length table) total head item k)) × (left ≡ left_by total head table)

  abbrev pub OrientationBy : ℕ → List ℕ → List ℕ → Type 0
  OrientationBy item out left = (out ≡ out_orientation (orientation (length table) total head item)) × (left ≡ left_by total head table)

  -- `buffer` and `written`: before and after
  abbrev pub BodyBy : ℕ → List ℕ → List ℕ → List ℕ → List ℕ → Type 0
  BodyBy item buffer out written left =
      (out ≡ out_bodied (body (length table) (length buffer) total head item))
      × (written ≡ buffer_after (body (length table) (length buffer) total head item) buffer)
      × (left ≡ room_left left_by (length buffer) total head table)

-- The promises of the exports.
abbrev pub VerdictGiven : List ℕ → ℕ → List ℕ → List ℕ → List ℕ → Type 0
VerdictGiven = VerdictBy after

abbrev pub SizeGiven : List ℕ → ℕ → List ℕ → ℕ → List ℕ → List ℕ → Type 0
SizeGiven = SizeBy after

abbrev pub TraceGiven : List ℕ → ℕ → List ℕ → ℕ → ℕ → ℕ → List ℕ → List ℕ → Type 0
TraceGiven = TraceBy after

abbrev pub PointsGiven : List ℕ → ℕ → List ℕ → ℕ → List (List ℕ) → List ℕ → List (List ℕ) → List ℕ → Type 0
PointsGiven = PointsBy after

abbrev pub SourcesGiven : List ℕ → ℕ → List ℕ → ℕ → List ℕ → List ℕ → List ℕ → List ℕ → Type 0
SourcesGiven = SourcesBy after

abbrev pub PropertyGiven : List ℕ → ℕ → List ℕ → ℕ → ℕ → List ℕ → List ℕ → Type 0
PropertyGiven = PropertyBy after

abbrev pub OrientationGiven : List ℕ → ℕ → List ℕ → ℕ → List ℕ → List ℕ → Type 0
OrientationGiven = OrientationBy after

abbrev pub BodyGiven : List ℕ → ℕ → List ℕ → ℕ → List ℕ → List ℕ → List ℕ → List ℕ → Type 0
BodyGiven = BodyBy after

abbrev pub TransformsGiven : ℕ → List ℕ → Type 0
TransformsGiven n out = out ≡ out_transforms (transforms_in n)
