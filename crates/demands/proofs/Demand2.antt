-- Demand 2, of every question: a file is accepted exactly when it keeps the rules; then the table is its words and
-- every answer is that of its structure, which is the only one; else the refusal is the first fault (Demand1, `bad`).
-- Assumes nothing.
use Prim.Native.Nat.{ℕ, ◌≤◌}
use mathlib.Core.Path.{◌≡◌, refl, ap, ◌∙◌}
use mathlib.Core.List.{List, ◌++◌}
use mathlib.Core.Bool.{Bool, true, false}
use lib.ListN.{length, drop}
use lib.Dec.{leb}
use borrow.Author.Tests.{leb-true, le-leb}
use Rattle.fields.proofs.FieldLaws.{pick_yes}
use Rattle.std.specs.Prelude.{Result, Ok}
use Rattle.asked.specs.declared.Verdict.{Verdict}
use Rattle.asked.specs.declared.Sizes.{Sizes}
use Rattle.boxes.specs.declared.Refusal.{Refusal}
use Rattle.boxes.specs.Answer.{Answer, ok, refuse, check, ◌>>=◌, ◌>>◌}
use Rattle.boxes.proofs.AnswerLaws.{ok-then, ok-check}
use Rattle.contents.specs.File.{File}
use Rattle.pictures.specs.declared.Point.{Point}
use Rattle.table.specs.declared.ItemId.{ItemId}
use Rattle.rules.specs.Derivations.{scene_of}
use Rattle.rules.specs.Places.{places_in}
use Rattle.rules.specs.Words.{words_of}
use Rattle.rules.specs.Opening.{accepted, opened, left_by, after_by, after}
use Rattle.questions.specs.Questions.{verdict_in, size_in, trace_in, sources_in, property_in, list_after}
use Rattle.questions.specs.Questions as Q
use Rattle.traced.specs.declared.Traced.{Traced}
use Rattle.seam.specs.declared.PointRecord.{PointRecord}
use Rattle.facing.specs.Orientation.{orientation_in, orientation}
use Rattle.asked.specs.Told.{told_verdict, told_sized}
use Rattle.traced.specs.Told.{told_traced}
use Rattle.seam.specs.Points.{points_in, points, records_after, told_points_filled}
use Rattle.seam.specs.Numbers.{numbers_after}
use Rattle.sourced.specs.Told.{told_listed}
use Rattle.facing.specs.Told.{told_oriented}
use Rattle.still.specs.Told.{told_part, told_fault}
use Rattle.still.specs.Given.{VerdictGiven, SizeGiven, TraceGiven, PointsGiven, PointNumbersGiven, SourcesGiven, OrientationGiven, PropertyGiven}
use Rattle.faults.specs.Good.{GoodFile}
use Rattle.faults.proofs.GoodLaws.{accepted-good, good-accepted}
use Rattle.demands.proofs.Demand1.{points_of, trace_of}

module _ (head : List ℕ) (total : ℕ) (table : List ℕ) where
  -- `verdict` accepts only a file that keeps the rules, and tells its items and its primary item
  pub verdict-accepts : (i : ℕ) (y : ItemId) (left : List ℕ) →
      VerdictGiven head total table (Ok (record { items = i; primary = y })) left → (11280 ≤ length table) ×
      ((f : File) × GoodFile total head f × (i ≡ length f.items) × (y.0 ≡ f.primary))
  unfolding Q.verdict opened verdict_in told_verdict check ◌>>=◌ ◌>>◌
  verdict-accepts i y left g = by (leb 11280 (length table)) refl (accepted total head) refl g.0
    where
      by : (t : Bool) → leb 11280 (length table) ≡ t → (m : Answer File) → accepted total head ≡ m →
          Ok (record { items = i; primary = y }) ≡ told_verdict ((check 1 0 t >> m) >>= verdict_in) → (11280 ≤ length table) ×
          ((f : File) × GoodFile total head f × (i ≡ length f.items) × (y.0 ≡ f.primary))
      by false q m a e = cc
      by true q (refuse n p) a e = cc
      by true q (ok f) a e = let same : record { items = i; primary = y } ≡ record { items = length f.items; primary = record { 0 = f.primary } } = cc in
          (leb-true _ _ q, (f, accepted-good total head f a, ap (λ (v : Verdict). v.items) same, ap (λ (v : Verdict). v.primary.0) same))

  module _ (enough : 11280 ≤ length table) (f : File) (good : GoodFile total head f) where
    pub good-opened : opened (length table) total head ≡ ok f
    unfolding opened
    good-opened = ok-then _ _ tt (ok-check 1 0 _ (le-leb 11280 (length table) enough)) ∙ good-accepted total head f good

    pub good-after : after total head table ≡ words_of total head f ++ drop 11280 table
    unfolding after_by left_by
    good-after = pick_yes _ _ (le-leb 11280 (length table) enough) ∙ ap (left_by words_of total head table) (good-accepted total head f good)

    asked : {A B : Type 0} (told : Answer A → B) (k : File → Answer A) (r : B) → r ≡ told (opened (length table) total head >>= k) → r ≡ told (k f)
    unfolding ◌>>=◌
    asked told k r e = e ∙ ap (λ (m : Answer File). told (m >>= k)) good-opened

    -- a file that keeps the rules is accepted; the table is its words; and so on for every question
    pub verdict-good : (r : Result Verdict Refusal) (left : List ℕ) → VerdictGiven head total table r left →
        (r ≡ Ok (record { items = length f.items; primary = record { 0 = f.primary } })) ×
        (left ≡ words_of total head f ++ drop 11280 table)
    unfolding Q.verdict verdict_in told_verdict
    verdict-good r left g = (asked told_verdict verdict_in r g.0, g.1 ∙ good-after)

    pub size-good : (id : ℕ) (r : Result Sizes Refusal) (left : List ℕ) → SizeGiven head total table id r left →
        (r ≡ told_sized (size_in (scene_of total head f) f id)) × (left ≡ words_of total head f ++ drop 11280 table)
    unfolding Q.size
    size-good id r left g = (asked told_sized _ r g.0, g.1 ∙ good-after)

    pub trace-good : (id : ℕ) (p : Point) (r : Result Traced Refusal) (left : List ℕ) → TraceGiven head total table id p r left →
        (r ≡ told_traced (trace_in (scene_of total head f) f id p)) × (left ≡ words_of total head f ++ drop 11280 table)
    unfolding Q.trace
    trace-good id p r left g = (asked told_traced _ r g.0, g.1 ∙ good-after)

    -- an answer, and what was lent beside the table
    lent : {B L : Type 0} (told : Answer File → B) (keep : Answer File → L) (r : B) (l : L) (left : List ℕ) →
        (r ≡ told (opened (length table) total head)) × ((l ≡ keep (opened (length table) total head)) ×
        (left ≡ after total head table)) → (r ≡ told (ok f)) × ((l ≡ keep (ok f)) ×
        (left ≡ words_of total head f ++ drop 11280 table))
    lent told keep r l left g = (g.0 ∙ ap told good-opened, (g.1.0 ∙ ap keep good-opened, g.1.1 ∙ good-after))

    pub points-good : (id : ℕ) (records : List PointRecord) (r : Result ℕ Refusal) (records-left : List PointRecord) (left : List ℕ)
        → PointsGiven head total table id records r records-left left
        → (r ≡ told_points_filled (points_in f id (length records))) ×
        ((records-left ≡ records_after (points_in f id (length records)) (λ p. told_traced (trace_in (scene_of total head f) f id p)) records)
        × (left ≡ words_of total head f ++ drop 11280 table))
    unfolding points Q.trace ◌>>=◌
    points-good id records = lent (λ o. told_points_filled (points_of head total id (length records) o))
        (λ o. records_after (points_of head total id (length records) o) (λ p. told_traced (trace_of head total id o p)) records)

    pub point_numbers_good : (id : ℕ) (records : List (List ℕ)) (r : Result ℕ Refusal) (records-left : List (List ℕ)) (left : List ℕ)
        → PointNumbersGiven head total table id records r records-left left
        → (r ≡ told_points_filled (points_in f id (length records))) ×
        ((records-left ≡ numbers_after (points_in f id (length records)) (trace_in (scene_of total head f) f id) records)
        × (left ≡ words_of total head f ++ drop 11280 table))
    unfolding points Q.trace ◌>>=◌
    point_numbers_good id records = lent (λ o. told_points_filled (points_of head total id (length records) o))
        (λ o. numbers_after (points_of head total id (length records) o) (trace_of head total id o) records)

    pub sources-good : (id : ℕ) (list : List ℕ) (r : Result ℕ Refusal) (list_left left : List ℕ) → SourcesGiven head total table id list r list_left left
        → (r ≡ told_listed (sources_in (scene_of total head f) f id (length list))) ×
        ((list_left ≡ list_after (sources_in (scene_of total head f) f id (length list)) list) ×
        (left ≡ words_of total head f ++ drop 11280 table))
    unfolding Q.sources ◌>>=◌
    sources-good id list = lent (λ o. told_listed (o >>= (λ f. sources_in (scene_of total head f) f id (length list))))
        (λ o. list_after (o >>= (λ f. sources_in (scene_of total head f) f id (length list))) list)

    pub property-good : (id k : ℕ) (part told left : List ℕ) → PropertyGiven head total table id k part told left
        → (part ≡ told_part (property_in (places_in total head) f id k)) ×
        ((told ≡ told_fault (property_in (places_in total head) f id k)) ×
        (left ≡ words_of total head f ++ drop 11280 table))
    unfolding Q.property ◌>>=◌
    property-good id k = lent (λ o. told_part (o >>= (λ f. property_in (places_in total head) f id k)))
        (λ o. told_fault (o >>= (λ f. property_in (places_in total head) f id k)))

    pub orientation-good : (id : ℕ) (r : Result ℕ Refusal) (left : List ℕ) → OrientationGiven head total table id r left →
        (r ≡ told_oriented (orientation_in (scene_of total head f) f id)) ×
        (left ≡ words_of total head f ++ drop 11280 table)
    unfolding orientation
    orientation-good id r left g = (asked told_oriented _ r g.0, g.1 ∙ good-after)
