-- Demand 1 for every question of `still`: answered, and then the file keeps the rules; or refused, and exactly for the
-- reasons that `Call` names. (`transforms`, which reads no file, is in Facing.antt.) Assumes nothing.
use Prim.Native.Nat.{ℕ}
use mathlib.Core.Path.{◌≡◌}
use mathlib.Core.List.{List}
use lib.ListN.{length}
use Rattle.std.specs.Prelude.{Result}
use Rattle.boxes.specs.declared.Refusal.{Refusal}
use Rattle.asked.specs.declared.Verdict.{Verdict}
use Rattle.asked.specs.declared.Sizes.{Sizes}
use Rattle.pictures.specs.declared.Point.{Point}
use Rattle.rules.specs.Places.{places_in}
use Rattle.rules.specs.Derivations.{scene_of}
use Rattle.questions.specs.Questions.{verdict_in, size_in, trace_in, sources_in, property_in, list_after}
use Rattle.questions.specs.Questions as Q
use Rattle.seam.specs.Points.{points_in, single_trace, records_after, told_points_filled}
use Rattle.seam.specs.Numbers.{numbers_after}
use Rattle.facing.specs.Orientation.{orientation_in}
use Rattle.asked.specs.Told.{told_verdict, told_sized}
use Rattle.traced.specs.declared.Traced.{Traced}
use Rattle.traced.specs.Told.{told_traced}
use Rattle.seam.specs.declared.PointRecord.{PointRecord}
use Rattle.sourced.specs.Told.{told_listed}
use Rattle.facing.specs.Told.{told_oriented}
use Rattle.still.specs.Told.{told_part, told_fault}
use Rattle.still.specs.Given.{VerdictGiven, SizeGiven, TraceGiven, PointsGiven, PointNumbersGiven, SourcesGiven, OrientationGiven, PropertyGiven}
use Rattle.demands.specs.Call.{SizeUnmet, TraceUnmet, PointsUnmet, SourcesUnmet, PropertyUnmet, OrientationUnmet}
use Rattle.demands.specs.Outcome.{Decided}
use Rattle.demands.proofs.OutcomeLaws.{verdict_decides, size_decides, trace_decides, points_decides, sources_decides, property_decides, orientation_decides}

module _ (head : List ℕ) (total : ℕ) (table : List ℕ) where
  pub verdict_decided : (r : Result Verdict Refusal) (left : List ℕ) → VerdictGiven head total table r left →
      Decided head total table verdict_in told_verdict (λ f n p. ⊥) r left
  verdict_decided r left g = verdict_decides head total table left g.1 r told_verdict g.0

  pub size_decided : (id : ℕ) (r : Result Sizes Refusal) (left : List ℕ) → SizeGiven head total table id r left →
      Decided head total table (λ f. size_in (scene_of total head f) f id) told_sized (λ f n p. SizeUnmet f id n × (p ≡ id)) r left
  size_decided id r left g = size_decides head total table left g.1 r told_sized id g.0

  pub trace_decided : (id : ℕ) (q : Point) (r : Result Traced Refusal) (left : List ℕ) → TraceGiven head total table id q r left →
      Decided head total table (λ f. trace_in (scene_of total head f) f id q) told_traced
      (λ f n p. TraceUnmet (scene_of total head f) f id q n × (p ≡ id)) r left
  trace_decided id q r left g = trace_decides head total table left g.1 r told_traced id q g.0

  pub orientation_decided : (id : ℕ) (r : Result ℕ Refusal) (left : List ℕ) → OrientationGiven head total table id r left →
      Decided head total table (λ f. orientation_in (scene_of total head f) f id) told_oriented (λ f n p. OrientationUnmet f id n × (p ≡ id)) r left
  orientation_decided id r left g = orientation_decides head total table left g.1 r told_oriented id g.0

  -- the answer with the records: filled by single traces, or as they were
  pub points_decided : (id : ℕ) (records : List PointRecord) (r : Result ℕ Refusal) (records-left : List PointRecord) (left : List ℕ)
      → PointsGiven head total table id records r records-left left →
      Decided head total table {B = Result ℕ Refusal × List PointRecord} (λ f. points_in f id (length records))
      (λ m. (told_points_filled m, records_after m (single_trace (length table) total head id) records))
      (λ f n p. PointsUnmet f id (length records) n × (p ≡ id)) (r, records-left) left
  points_decided id records r records-left left g = points_decides head total table left g.1.1 (r, records-left)
      (λ m. (told_points_filled m, records_after m (single_trace (length table) total head id) records)) id (length records)
      (rw (g.0, g.1.0))

  pub point_numbers_decided : (id : ℕ) (records : List (List ℕ)) (r : Result ℕ Refusal) (records-left : List (List ℕ)) (left : List ℕ)
      → PointNumbersGiven head total table id records r records-left left →
      Decided head total table {B = Result ℕ Refusal × List (List ℕ)} (λ f. points_in f id (length records))
      (λ m. (told_points_filled m, numbers_after m (Q.trace (length table) total head id) records))
      (λ f n p. PointsUnmet f id (length records) n × (p ≡ id)) (r, records-left) left
  point_numbers_decided id records r records-left left g = points_decides head total table left g.1.1 (r, records-left)
      (λ m. (told_points_filled m, numbers_after m (Q.trace (length table) total head id) records)) id (length records)
      (rw (g.0, g.1.0))

  -- the answer with the list that was lent
  pub sources_decided : (id : ℕ) (list : List ℕ) (r : Result ℕ Refusal) (list_left left : List ℕ) →
      SourcesGiven head total table id list r list_left left → Decided head total table {B = Result ℕ Refusal × List ℕ}
      (λ f. sources_in (scene_of total head f) f id (length list)) (λ m. (told_listed m, list_after m list))
      (λ f n p. SourcesUnmet (scene_of total head f) f id (length list) n × (p ≡ id)) (r, list_left) left
  sources_decided id list r list_left left g = sources_decides head total table left g.1.1 (r, list_left)
      (λ m. (told_listed m, list_after m list)) id (length list) (rw (g.0, g.1.0))

  -- the part with the two numbers that carry the refusal
  pub property_decided : (id k : ℕ) (part told left : List ℕ) →
      PropertyGiven head total table id k part told left → Decided head total table {B = List ℕ × List ℕ}
      (λ f. property_in (places_in total head) f id k) (λ m. (told_part m, told_fault m))
      (λ f n p. PropertyUnmet f id k n × (p ≡ id)) (part, told) left
  property_decided id k part told left g = property_decides head total table left g.1.1 (part, told)
      (λ m. (told_part m, told_fault m)) id k (rw (g.0, g.1.0))
