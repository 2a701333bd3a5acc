-- The same for every export of `still_c`: out is eight numbers. Assumes nothing.
use Prim.Native.Nat.{ℕ}
use mathlib.Core.Path.{◌≡◌}
use mathlib.Core.List.{List}
use lib.ListN.{length}
use Rattle.pictures.specs.Turn.{point}
use Rattle.rules.specs.Places.{places_in}
use Rattle.rules.specs.Derivations.{scene_of}
use Rattle.questions.specs.Questions.{verdict_in, size_in, trace_in, sources_in, property_in, list_after}
use Rattle.questions.specs.Questions as Q
use Rattle.seam.specs.Points.{points_in}
use Rattle.seam.specs.Numbers.{numbers_after}
use Rattle.facing.specs.Orientation.{orientation_in}
use Rattle.out.specs.Out.{out_verdict, out_sized, out_traced, out_points, out_listed, out_part, out_orientation}
use Rattle.still_c.specs.Given.{VerdictGiven, SizeGiven, TraceGiven, PointsGiven, SourcesGiven, PropertyGiven, OrientationGiven}
use Rattle.demands.specs.Call.{SizeUnmet, TraceUnmet, PointsUnmet, SourcesUnmet, PropertyUnmet, OrientationUnmet}
use Rattle.demands.specs.Outcome.{Decided}
use Rattle.demands.proofs.OutcomeLaws.{verdict_decides, size_decides, trace_decides, points_decides, sources_decides, property_decides, orientation_decides}

module _ (head : List ℕ) (total : ℕ) (table : List ℕ) where
  pub verdict_decided : (r : List ℕ) (left : List ℕ) → VerdictGiven head total table r left →
      Decided head total table verdict_in out_verdict (λ f n p. ⊥) r left
  verdict_decided r left g = verdict_decides head total table left g.1 r out_verdict g.0

  pub size_decided : (id : ℕ) (r : List ℕ) (left : List ℕ) → SizeGiven head total table id r left →
      Decided head total table (λ f. size_in (scene_of total head f) f id) out_sized (λ f n p. SizeUnmet f id n × (p ≡ id)) r left
  size_decided id r left g = size_decides head total table left g.1 r out_sized id g.0

  pub trace_decided : (id x y : ℕ) (r : List ℕ) (left : List ℕ) → TraceGiven head total table id x y r left →
      Decided head total table (λ f. trace_in (scene_of total head f) f id (point x y)) out_traced
      (λ f n p. TraceUnmet (scene_of total head f) f id (point x y) n × (p ≡ id)) r left
  trace_decided id x y r left g = trace_decides head total table left g.1 r out_traced id (point x y) g.0

  pub orientation_decided : (id : ℕ) (r : List ℕ) (left : List ℕ) → OrientationGiven head total table id r left →
      Decided head total table (λ f. orientation_in (scene_of total head f) f id) out_orientation (λ f n p. OrientationUnmet f id n × (p ≡ id)) r left
  orientation_decided id r left g = orientation_decides head total table left g.1 r out_orientation id g.0

  -- the numbers with the records
  pub points_decided : (id : ℕ) (records : List (List ℕ)) (r : List ℕ) (filled : List (List ℕ)) (left : List ℕ) →
      PointsGiven head total table id records r filled left → Decided head total table {B = List ℕ × List (List ℕ)}
      (λ f. points_in f id (length records))
      (λ m. (out_points m, numbers_after m (Q.trace (length table) total head id) records))
      (λ f n p. PointsUnmet f id (length records) n × (p ≡ id)) (r, filled) left
  points_decided id records r filled left g = points_decides head total table left g.2 (r, filled)
      (λ m. (out_points m, numbers_after m (Q.trace (length table) total head id) records)) id (length records)
      (rw (g.0, g.1))

  -- the numbers with the list that was lent
  pub sources_decided : (id : ℕ) (list r list_left left : List ℕ) →
      SourcesGiven head total table id list r list_left left → Decided head total table {B = List ℕ × List ℕ}
      (λ f. sources_in (scene_of total head f) f id (length list)) (λ m. (out_listed m, list_after m list))
      (λ f n p. SourcesUnmet (scene_of total head f) f id (length list) n × (p ≡ id)) (r, list_left) left
  sources_decided id list r list_left left g = sources_decides head total table left g.2 (r, list_left)
      (λ m. (out_listed m, list_after m list)) id (length list) (rw (g.0, g.1))

  pub property_decided : (id k : ℕ) (r left : List ℕ) → PropertyGiven head total table id k r left →
      Decided head total table (λ f. property_in (places_in total head) f id k) out_part
      (λ f n p. PropertyUnmet f id k n × (p ≡ id)) r left
  property_decided id k r left g = property_decides head total table left g.1 r out_part id k g.0
