-- Determined: any two results of a public function that keep its promise are equal, the answer, what it leaves in a
-- list or in records, and every word of the table. Assumes nothing.
use Prim.Native.Nat.{ℕ}
use mathlib.Core.Path.{◌≡◌, sym, ◌∙◌}
use mathlib.Core.List.{List}
use Rattle.std.specs.Prelude.{Result}
use Rattle.boxes.specs.declared.Refusal.{Refusal}
use Rattle.table.specs.declared.PropertyIndex.{PropertyIndex}
use Rattle.asked.specs.declared.Verdict.{Verdict}
use Rattle.asked.specs.declared.Sizes.{Sizes}
use Rattle.pictures.specs.declared.Point.{Point}
use Rattle.traced.specs.declared.Traced.{Traced}
use Rattle.seam.specs.declared.PointRecord.{PointRecord}
use Rattle.facing.specs.declared.TransformList.{TransformList}
use Rattle.opening.specs.Told.{OpenedGiven}
use Rattle.still.specs.Given.{
  VerdictGiven,
  SizeGiven,
  TraceGiven,
  PointsGiven,
  PointNumbersGiven,
  SourcesGiven,
  BodyGiven,
  OrientationGiven,
  TransformsGiven,
  AskedGiven,
  PropertyGiven,
}

-- what is given by equations is given once
pub two : {A B : Type 0} {a r s : A} {b t u : B} → (r ≡ a) × (t ≡ b) → (s ≡ a) × (u ≡ b) → (r ≡ s) × (t ≡ u)
two x y = (x.0 ∙ sym y.0, x.1 ∙ sym y.1)

three : {A B C : Type 0} {a r s : A} {b t u : B} {c v w : C} → (r ≡ a) × ((t ≡ b) × (v ≡ c)) → (s ≡ a) × ((u ≡ b) × (w ≡ c)) → (r ≡ s) × ((t ≡ u) × (v ≡ w))
three x y = (x.0 ∙ sym y.0, two x.1 y.1)

module _ (head : List ℕ) (total : ℕ) (table : List ℕ) where
  pub opened-once : (r s : Result (Unit {0}) Refusal) (t u : List ℕ) → OpenedGiven head total table r t → OpenedGiven head total table s u → (r ≡ s) × (t ≡ u)
  opened-once r s t u = two

  pub verdict-once : (r s : Result Verdict Refusal) (t u : List ℕ) → VerdictGiven head total table r t → VerdictGiven head total table s u → (r ≡ s) × (t ≡ u)
  verdict-once r s t u = two

  pub size-once : (id : ℕ) (r s : Result Sizes Refusal) (t u : List ℕ) → SizeGiven head total table id r t →
      SizeGiven head total table id s u → (r ≡ s) × (t ≡ u)
  size-once id r s t u = two

  pub trace-once : (id : ℕ) (p : Point) (r s : Result Traced Refusal) (t u : List ℕ) → TraceGiven head total table id p r t →
      TraceGiven head total table id p s u → (r ≡ s) × (t ≡ u)
  trace-once id p r s t u = two

  pub points-once : (id : ℕ) (records : List PointRecord) (r s : Result ℕ Refusal) (l m : List PointRecord) (t u : List ℕ) →
      PointsGiven head total table id records r l t → PointsGiven head total table id records s m u → (r ≡ s) ×
      ((l ≡ m) × (t ≡ u))
  points-once id records r s l m t u = three

  pub point_numbers_once : (id : ℕ) (records : List (List ℕ)) (r s : Result ℕ Refusal) (l m : List (List ℕ)) (t u : List ℕ) →
      PointNumbersGiven head total table id records r l t → PointNumbersGiven head total table id records s m u → (r ≡ s) ×
      ((l ≡ m) × (t ≡ u))
  point_numbers_once id records r s l m t u = three

  pub sources-once : (id : ℕ) (list : List ℕ) (r s : Result ℕ Refusal) (l m t u : List ℕ) →
      SourcesGiven head total table id list r l t → SourcesGiven head total table id list s m u → (r ≡ s) ×
      ((l ≡ m) × (t ≡ u))
  sources-once id list r s l m t u = three

  pub body-once : (id : ℕ) (buffer : List ℕ) (r s : Result ℕ Refusal) (l m t u : List ℕ) →
      BodyGiven head total table id buffer r l t → BodyGiven head total table id buffer s m u → (r ≡ s) × ((l ≡ m) × (t ≡ u))
  body-once id buffer r s l m t u = three

  pub asked-once : (id k : ℕ) (r s : Result PropertyIndex Refusal) (t u : List ℕ) → AskedGiven head total table id k r t →
      AskedGiven head total table id k s u → (r ≡ s) × (t ≡ u)
  asked-once id k r s t u = two

  pub property-once : (id k : ℕ) (part same l m t u : List ℕ) → PropertyGiven head total table id k part l t →
      PropertyGiven head total table id k same m u → (part ≡ same) × ((l ≡ m) × (t ≡ u))
  property-once id k part same l m t u = three

  pub orientation-once : (id : ℕ) (r s : Result ℕ Refusal) (t u : List ℕ) → OrientationGiven head total table id r t →
      OrientationGiven head total table id s u → (r ≡ s) × (t ≡ u)
  orientation-once id r s t u = two

pub transforms-once : (n : ℕ) (r s : Result TransformList Refusal) → TransformsGiven n r → TransformsGiven n s → r ≡ s
transforms-once n r s x y = x ∙ sym y
