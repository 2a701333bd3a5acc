-- What each public function promises, whole: for all heads, totals, tables, lists and numbers asked, the answer and
-- every word that is left. The contracts cite these.
--   VerdictGiven, SizeGiven, TraceGiven, SourcesGiven, OrientationGiven, AskedGiven, PropertyGiven, and TransformsGiven,
--   which reads no file;   PartPlaced, where a part that is returned lies;   PointsGiven, with all records;   BodyGiven, with every byte of the buffer
--   VerdictBy, .. by any layout of the table that is left: `left_by total head table`
-- In each, r is what is returned, `left` the table afterwards, and `list` what was lent beside it, before and after,
-- and `told` the two numbers that carry a refusal.
use Rattle.std.specs.Prelude.{ℕ, ◌≡◌, List, [], length, Result}
use Rattle.table.specs.declared.PropertyIndex.{PropertyIndex}
use Rattle.boxes.specs.Answer.{ok}
use Rattle.boxes.specs.declared.Refusal.{Refusal}
use Rattle.pictures.specs.declared.Point.{Point}
use Rattle.rules.specs.Opening.{after}
use Rattle.questions.specs.Questions.{list_after}
use Rattle.questions.specs.Questions as Q
use Rattle.views.specs.Lies.{LiesAt}
use Rattle.asked.specs.declared.Verdict.{Verdict}
use Rattle.asked.specs.declared.Sizes.{Sizes}
use Rattle.asked.specs.Told.{told_verdict, told_sized, told_asked}
use Rattle.traced.specs.declared.Traced.{Traced}
use Rattle.traced.specs.Told.{told_traced}
use Rattle.sourced.specs.Told.{told_listed}
use Rattle.facing.specs.declared.TransformList.{TransformList}
use Rattle.facing.specs.Orientation.{orientation, transforms_in}
use Rattle.facing.specs.Told.{told_oriented, told_transforms}
use Rattle.seam.specs.declared.PointRecord.{PointRecord}
use Rattle.seam.specs.Points.{points, single_trace, records_after, told_points_filled}
use Rattle.seam.specs.Numbers.{numbers_after}
use Rattle.bodied.specs.Body.{body, buffer_after, room_left}
use Rattle.bodied.specs.Told.{told_bodied}
use Rattle.still.specs.Told.{index_of, told_part, told_fault}

-- The promises, by what a call leaves in the table. (Q-6 lays its records out anew: crates/demands/specs/Same.antt has both.)
module _ (left_by : ℕ → List ℕ → List ℕ → List ℕ) (head : List ℕ) (total : ℕ) (table : List ℕ) where
  abbrev pub VerdictBy : Result Verdict Refusal → List ℕ → Type 0
  VerdictBy r left = (r ≡ told_verdict (Q.verdict (length table) total head)) × (left ≡ left_by total head table)

  abbrev pub SizeBy : ℕ → Result Sizes Refusal → List ℕ → Type 0
  SizeBy id r left = (r ≡ told_sized (Q.size (length table) total head id)) × (left ≡ left_by total head table)

  abbrev pub TraceBy : ℕ → Point → Result Traced Refusal → List ℕ → Type 0
  TraceBy id p r left = (r ≡ told_traced (Q.trace (length table) total head id p)) × (left ≡ left_by total head table)

  abbrev pub SourcesBy : ℕ → List ℕ → Result ℕ Refusal → List ℕ → List ℕ → Type 0
  SourcesBy id list r list_left left =
      (r ≡ told_listed (Q.sources (length table) total head id (length list)))
      × ((list_left ≡ list_after (Q.sources (length table) total head id (length list)) list) × (left ≡ left_by total head table))

  abbrev pub OrientationBy : ℕ → Result ℕ Refusal → List ℕ → Type 0
  OrientationBy id r left = (r ≡ told_oriented (orientation (length table) total head id)) × (left ≡ left_by total head table)

  abbrev pub AskedBy : ℕ → ℕ → Result PropertyIndex Refusal → List ℕ → Type 0
  AskedBy id k r left = (r ≡ told_asked (index_of (length table) total head id k)) × (left ≡ left_by total head table)

  abbrev pub PropertyBy : ℕ → ℕ → List ℕ → List ℕ → List ℕ → Type 0
  PropertyBy id k part told left =
      (part ≡ told_part (Q.property (length table) total head id k))
      × ((told ≡ told_fault (Q.property (length table) total head id k)) × (left ≡ left_by total head table))

  abbrev pub PointsBy : ℕ → List PointRecord → Result ℕ Refusal → List PointRecord → List ℕ → Type 0
  PointsBy id records r records-left left =
      (r ≡ told_points_filled (points (length table) total head id (length records)))
      × ((records-left ≡ records_after (points (length table) total head id (length records)) (single_trace (length table) total head id) records)
      × (left ≡ left_by total head table))

  -- the same with records of nine numbers
  abbrev pub PointNumbersBy : ℕ → List (List ℕ) → Result ℕ Refusal → List (List ℕ) → List ℕ → Type 0
  PointNumbersBy id records r records-left left =
      (r ≡ told_points_filled (points (length table) total head id (length records)))
      × ((records-left ≡ numbers_after (points (length table) total head id (length records)) (Q.trace (length table) total head id) records)
      × (left ≡ left_by total head table))

  -- `buffer`: before and after
  abbrev pub BodyBy : ℕ → List ℕ → Result ℕ Refusal → List ℕ → List ℕ → Type 0
  BodyBy id buffer r buffer-left left =
      (r ≡ told_bodied (body (length table) (length buffer) total head id))
      × ((buffer-left ≡ buffer_after (body (length table) (length buffer) total head id) buffer)
      × (left ≡ room_left left_by (length buffer) total head table))

-- The promises of the functions.
abbrev pub VerdictGiven : List ℕ → ℕ → List ℕ → Result Verdict Refusal → List ℕ → Type 0
VerdictGiven = VerdictBy after

abbrev pub SizeGiven : List ℕ → ℕ → List ℕ → ℕ → Result Sizes Refusal → List ℕ → Type 0
SizeGiven = SizeBy after

abbrev pub TraceGiven : List ℕ → ℕ → List ℕ → ℕ → Point → Result Traced Refusal → List ℕ → Type 0
TraceGiven = TraceBy after

abbrev pub SourcesGiven : List ℕ → ℕ → List ℕ → ℕ → List ℕ → Result ℕ Refusal → List ℕ → List ℕ → Type 0
SourcesGiven = SourcesBy after

abbrev pub OrientationGiven : List ℕ → ℕ → List ℕ → ℕ → Result ℕ Refusal → List ℕ → Type 0
OrientationGiven = OrientationBy after

abbrev pub AskedGiven : List ℕ → ℕ → List ℕ → ℕ → ℕ → Result PropertyIndex Refusal → List ℕ → Type 0
AskedGiven = AskedBy after

abbrev pub PropertyGiven : List ℕ → ℕ → List ℕ → ℕ → ℕ → List ℕ → List ℕ → List ℕ → Type 0
PropertyGiven = PropertyBy after

-- "as a part of the head": where the head points to and where the part does. It is the box that was asked for, not a
-- like one that lies elsewhere in the head. (Of an empty part nothing is said.)
abbrev pub PartPlaced : List ℕ → ℕ → List ℕ → ℕ × ℕ → ℕ × ℕ → ℕ → ℕ → Type 0
PartPlaced head total table base place id k =
    (p : Q.Part) → Q.property (length table) total head id k ≡ ok p → (p.bytes ≡ [] → ⊥) → LiesAt base p.offset place

abbrev pub PointsGiven : List ℕ → ℕ → List ℕ → ℕ → List PointRecord → Result ℕ Refusal → List PointRecord → List ℕ → Type 0
PointsGiven = PointsBy after

abbrev pub PointNumbersGiven : List ℕ → ℕ → List ℕ → ℕ → List (List ℕ) → Result ℕ Refusal → List (List ℕ) → List ℕ → Type 0
PointNumbersGiven = PointNumbersBy after

abbrev pub BodyGiven : List ℕ → ℕ → List ℕ → ℕ → List ℕ → Result ℕ Refusal → List ℕ → List ℕ → Type 0
BodyGiven = BodyBy after

abbrev pub TransformsGiven : ℕ → Result TransformList Refusal → Type 0
TransformsGiven n r = r ≡ told_transforms (transforms_in n)
