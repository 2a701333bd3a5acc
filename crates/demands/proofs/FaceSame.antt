-- Demand 1 for C: nothing left in the table by an earlier file can be seen. With tables t and u of sufficient length an
-- export leaves the same eight numbers, the same list, the same records and the same first 11,280 words. Assumes nothing.
use Prim.Native.Nat.{ℕ, ◌≤◌}
use mathlib.Core.Path.{◌≡◌}
use mathlib.Core.List.{List}
use lib.ListN.{length, take}
use Rattle.boxes.specs.Answer.{◌>>=◌}
use Rattle.rules.specs.Derivations.{scene_of}
use Rattle.questions.specs.Questions.{sources_in, list_after}
use Rattle.questions.specs.Questions as Q
use Rattle.seam.specs.Points.{points}
use Rattle.seam.specs.Numbers.{numbers_after}
use Rattle.facing.specs.Orientation.{orientation}
use Rattle.out.specs.Out.{out_verdict, out_sized, out_traced, out_points, out_listed, out_part, out_orientation}
use Rattle.still_c.specs.Given.{VerdictGiven, SizeGiven, TraceGiven, PointsGiven, SourcesGiven, PropertyGiven, OrientationGiven}
use Rattle.demands.proofs.Demand1.{asked-same, after_same, lent_same, points_of, trace_of}

module _ (head : List ℕ) (total : ℕ) (t u : List ℕ) (enough : 11280 ≤ length t)
    (enough-too : 11280 ≤ length u) where
  pub verdict-same : (r s a b : List ℕ) → VerdictGiven head total t r a → VerdictGiven head total u s b →
      (r ≡ s) × (take 11280 a ≡ take 11280 b)
  unfolding Q.verdict
  verdict-same r s a b x y = (
    asked-same head total t u enough enough-too out_verdict _ r s x.0 y.0,
    after_same head total t u enough enough-too a b x.1 y.1,
  )

  pub size_same : (id : ℕ) (r s a b : List ℕ) → SizeGiven head total t id r a → SizeGiven head total u id s b →
      (r ≡ s) × (take 11280 a ≡ take 11280 b)
  unfolding Q.size
  size_same id r s a b x y = (
    asked-same head total t u enough enough-too out_sized _ r s x.0 y.0,
    after_same head total t u enough enough-too a b x.1 y.1,
  )

  pub trace-same : (id across down : ℕ) (r s a b : List ℕ) → TraceGiven head total t id across down r a → TraceGiven head total u id across down s b →
      (r ≡ s) × (take 11280 a ≡ take 11280 b)
  unfolding Q.trace
  trace-same id across down r s a b x y = (
    asked-same head total t u enough enough-too out_traced _ r s x.0 y.0,
    after_same head total t u enough enough-too a b x.1 y.1,
  )

  pub property-same : (id k : ℕ) (r s a b : List ℕ) → PropertyGiven head total t id k r a → PropertyGiven head total u id k s b →
      (r ≡ s) × (take 11280 a ≡ take 11280 b)
  unfolding Q.property
  property-same id k r s a b x y = (
    asked-same head total t u enough enough-too out_part _ r s x.0 y.0,
    after_same head total t u enough enough-too a b x.1 y.1,
  )

  pub orientation-same : (id : ℕ) (r s a b : List ℕ) → OrientationGiven head total t id r a → OrientationGiven head total u id s b →
      (r ≡ s) × (take 11280 a ≡ take 11280 b)
  unfolding orientation
  orientation-same id r s a b x y = (
    asked-same head total t u enough enough-too out_orientation _ r s x.0 y.0,
    after_same head total t u enough enough-too a b x.1 y.1,
  )

  pub sources-same : (id : ℕ) (list r s l m a b : List ℕ) → SourcesGiven head total t id list r l a →
      SourcesGiven head total u id list s m b → (r ≡ s) × ((l ≡ m) × (take 11280 a ≡ take 11280 b))
  unfolding Q.sources
  sources-same id list r s l m a b x y = lent_same head total t u enough enough-too
      (λ o. out_listed (o >>= (λ f. sources_in (scene_of total head f) f id (length list))))
      (λ o. list_after (o >>= (λ f. sources_in (scene_of total head f) f id (length list))) list) r s l m a b
      (x.0, (x.1, x.2)) (y.0, (y.1, y.2))

  pub points-same : (id : ℕ) (records : List (List ℕ)) (r s : List ℕ) (l m : List (List ℕ)) (a b : List ℕ) →
      PointsGiven head total t id records r l a → PointsGiven head total u id records s m b → (r ≡ s) ×
      ((l ≡ m) × (take 11280 a ≡ take 11280 b))
  unfolding points Q.trace
  points-same id records r s l m a b x y = lent_same head total t u enough enough-too
      (λ o. out_points (points_of head total id (length records) o))
      (λ o. numbers_after (points_of head total id (length records) o) (trace_of head total id o) records) r s l m a b
      (x.0, (x.1, x.2)) (y.0, (y.1, y.2))
