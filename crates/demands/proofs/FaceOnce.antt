-- Determined, for the C face: any two results of an export that keep its promise are equal, all eight numbers, the list
-- or the records, and every word of the table. Assumes nothing.
use Prim.Native.Nat.{ℕ}
use mathlib.Core.Path.{◌≡◌, sym, ◌∙◌}
use mathlib.Core.List.{List}
use Rattle.still_c.specs.Given.{VerdictGiven, SizeGiven, TraceGiven, PointsGiven, SourcesGiven, BodyGiven, PropertyGiven, OrientationGiven, TransformsGiven}
use Rattle.demands.proofs.Once.{two}

-- what is given by three equations
lent : {A B C : Type 0} {a r s : A} {b t u : B} {c v w : C} → (r ≡ a) × (t ≡ b) × (v ≡ c) → (s ≡ a) × (u ≡ b) × (w ≡ c) → (r ≡ s) × ((t ≡ u) × (v ≡ w))
lent x y = (x.0 ∙ sym y.0, two (x.1, x.2) (y.1, y.2))

module _ (head : List ℕ) (total : ℕ) (table : List ℕ) where
  pub verdict-once : (r s t u : List ℕ) → VerdictGiven head total table r t → VerdictGiven head total table s u → (r ≡ s) × (t ≡ u)
  verdict-once r s t u = two

  pub size-once : (item : ℕ) (r s t u : List ℕ) → SizeGiven head total table item r t → SizeGiven head total table item s u → (r ≡ s) × (t ≡ u)
  size-once item r s t u = two

  pub trace-once : (item x y : ℕ) (r s t u : List ℕ) → TraceGiven head total table item x y r t → TraceGiven head total table item x y s u → (r ≡ s) × (t ≡ u)
  trace-once item x y r s t u = two

  pub points-once : (item : ℕ) (records : List (List ℕ)) (r s : List ℕ) (l m : List (List ℕ)) (t u : List ℕ) →
      PointsGiven head total table item records r l t → PointsGiven head total table item records s m u → (r ≡ s) ×
      ((l ≡ m) × (t ≡ u))
  points-once item records r s l m t u = lent

  pub sources-once : (item : ℕ) (list r s l m t u : List ℕ) → SourcesGiven head total table item list r l t →
      SourcesGiven head total table item list s m u → (r ≡ s) × ((l ≡ m) × (t ≡ u))
  sources-once item list r s l m t u = lent

  pub body-once : (item : ℕ) (buffer r s l m t u : List ℕ) → BodyGiven head total table item buffer r l t →
      BodyGiven head total table item buffer s m u → (r ≡ s) × ((l ≡ m) × (t ≡ u))
  body-once item buffer r s l m t u = lent

  pub property-once : (item k : ℕ) (r s t u : List ℕ) → PropertyGiven head total table item k r t →
      PropertyGiven head total table item k s u → (r ≡ s) × (t ≡ u)
  property-once item k r s t u = two

  pub orientation-once : (item : ℕ) (r s t u : List ℕ) → OrientationGiven head total table item r t →
      OrientationGiven head total table item s u → (r ≡ s) × (t ≡ u)
  orientation-once item r s t u = two

pub transforms-once : (n : ℕ) (r s : List ℕ) → TransformsGiven n r → TransformsGiven n s → r ≡ s
transforms-once n r s x y = x ∙ sym y
