-- Demand 1, the alternative and its other way, for any way of telling an answer. Assumes nothing.
use Prim.Native.Nat.{ℕ}
use native.Mathlib.Omega.{arith}
use mathlib.Core.Path.{◌≡◌, refl, sym, ap, ◌∙◌}
use mathlib.Core.List.{List}
use lib.ListN.{length}
use borrow.Author.Tests.{leb-true, le-leb, lt-leb}
use Rattle.fields.proofs.FieldLaws.{pick_yes, pick_no}
use Rattle.boxes.specs.Answer.{Answer, ok, refuse, check, ◌>>=◌, ◌>>◌}
use Rattle.boxes.proofs.AnswerLaws.{bind_ok, then_ok, check-ok}
use Rattle.contents.specs.File.{File}
use Rattle.rules.specs.Words.{table_words, words_of}
use Rattle.rules.specs.Opening.{opened, left_by, after_by, after}
use Rattle.faults.specs.Good.{GoodFile}
use Rattle.faults.proofs.GoodLaws.{accepted-good, first-refused, good-accepted}
use Rattle.pictures.specs.declared.Point.{Point}
use Rattle.rules.specs.Places.{places_in}
use Rattle.rules.specs.Derivations.{scene_of}
use Rattle.questions.specs.Questions.{verdict_in, size_in, trace_in, sources_in, property_in}
use Rattle.questions.specs.Questions as Q
use Rattle.seam.specs.Points.{points_in, points}
use Rattle.facing.specs.Orientation.{orientation_in, orientation}
use Rattle.demands.specs.Call.{SizeUnmet, TraceUnmet, PointsUnmet, SourcesUnmet, PropertyUnmet, OrientationUnmet, short, bad, unmet}
use Rattle.demands.specs.Outcome.{Outcome, answered, refused, Refuses, Decided}
use Rattle.demands.proofs.AskedLaws.{
  size-unmet,
  trace-unmet,
  points-unmet,
  sources-unmet,
  property-unmet,
  orientation-unmet,
  size_off,
  trace_off,
  points_off,
  sources_off,
  property_off,
  orientation_off,
}
use Rattle.demands.proofs.Demand1.{refused-good}

module _ (head : List ℕ) (total : ℕ) (table left : List ℕ) (is : left ≡ after total head table) {A B : Type 0}
    (asked : File → Answer A) (told : Answer A → B) (Unmet : File → ℕ → ℕ → Type 0) (r : B)
    (given : r ≡ told (opened (length table) total head >>= asked)) where
  -- a call is answered or refused
  pub outcome : ((f : File) → GoodFile total head f → (n p : ℕ) → asked f ≡ refuse n p → Unmet f n p) →
      Outcome head total table asked told Unmet r left
  unfolding opened after_by left_by
  outcome h = by (opened (length table) total head >>= asked) refl
    where
      by : (m : Answer A) → (opened (length table) total head >>= asked) ≡ m → Outcome head total table asked told Unmet r left
      by (ok a) e =
          let x = bind_ok _ _ a e in
          let y = then_ok _ _ x.0 x.1 in
          let enough = leb-true table_words (length table) (check-ok 1 0 _ y.0 y.1) in
          answered enough x.0 (accepted-good total head x.0 y.2) a x.2 (given ∙ ap told e)
          (is ∙ pick_yes _ _ (le-leb table_words (length table) enough) ∙ ap (left_by words_of total head table) y.2)
      by (refuse n p) e = refused n p (given ∙ ap told e) (refused-good head total table left is asked Unmet h n p e)

  -- and each reason for a refusal refuses it
  pub refuses : ((f : File) (n p : ℕ) → Unmet f n p → asked f ≡ refuse n p) →
      Refuses head total table asked told Unmet r left
  unfolding opened after_by left_by check ◌>>=◌ ◌>>◌
  refuses h n p u (short l i j k) =
      let s = lt-leb table_words (length table) l in
      (given ∙ rw s (ap told (ap (λ (m : ℕ). refuse m 0) (sym i) ∙ ap (refuse n) (sym j))), is ∙ pick_no _ _ s ∙ sym k)
  refuses h n p u (bad l w k) =
      let s = le-leb table_words (length table) l in
      let e = first-refused total head n p w in
      (given ∙ rw (s, e), is ∙ pick_yes _ _ s ∙ ap (left_by words_of total head table) e ∙ sym k)
  refuses h n p u (unmet l f g w k) =
      let s = le-leb table_words (length table) l in
      let e = good-accepted total head f g in
      (given ∙ rw (s, e, h f n p w), is ∙ pick_yes _ _ s ∙ ap (left_by words_of total head table) e ∙ sym k)

  decided : ((f : File) (n p : ℕ) → asked f ≡ refuse n p → Unmet f n p) →
      ((f : File) (n p : ℕ) → Unmet f n p → asked f ≡ refuse n p) → Decided head total table asked told Unmet r left
  decided h k = (outcome (λ f g. h f), refuses k)

never : {A B : Type 0} (x : A) (n p : ℕ) → ok x ≡ refuse n p → B
never x n p e = let z : ◌≡◌ {A = ℕ} 0 1 = cc in absurd (omega arith)

-- What each question asks of a file, and where it is unmet; both faces tell the same answers.
module _ (head : List ℕ) (total : ℕ) (table left : List ℕ) (is : left ≡ after total head table) {B : Type 0} (r : B) where
  pub verdict_decides : (told : Answer Q.Verdict → B) → r ≡ told (Q.verdict (length table) total head) →
      Decided head total table verdict_in told (λ f n p. ⊥) r left
  unfolding Q.verdict verdict_in
  verdict_decides told g = decided head total table left is verdict_in told _ r g (λ f n p e. never _ n p e) (λ f n p e. absurd e)

  pub size_decides : (told : Answer Q.Sized → B) (id : ℕ) → r ≡ told (Q.size (length table) total head id) →
      Decided head total table (λ f. size_in (scene_of total head f) f id) told (λ f n p. SizeUnmet f id n × (p ≡ id)) r left
  unfolding Q.size
  size_decides told id g = decided head total table left is _ told _ r g
      (λ f. size-unmet f id (scene_of total head f)) (λ f. size_off f id (scene_of total head f))

  pub trace_decides : (told : Answer Q.Found → B) (id : ℕ) (q : Point) → r ≡ told (Q.trace (length table) total head id q) →
      Decided head total table (λ f. trace_in (scene_of total head f) f id q) told
      (λ f n p. TraceUnmet (scene_of total head f) f id q n × (p ≡ id)) r left
  unfolding Q.trace
  trace_decides told id q g = decided head total table left is _ told _ r g
      (λ f. trace-unmet f id (scene_of total head f) q) (λ f. trace_off f id (scene_of total head f) q)

  pub points_decides : (told : Answer ℕ → B) (id k : ℕ) → r ≡ told (points (length table) total head id k) →
      Decided head total table (λ f. points_in f id k) told (λ f n p. PointsUnmet f id k n × (p ≡ id)) r left
  unfolding points
  points_decides told id k g = decided head total table left is _ told _ r g (λ f. points-unmet f id k) (λ f. points_off f id k)

  pub sources_decides : (told : Answer (List ℕ) → B) (id room : ℕ) → r ≡ told (Q.sources (length table) total head id room) →
      Decided head total table (λ f. sources_in (scene_of total head f) f id room) told
      (λ f n p. SourcesUnmet (scene_of total head f) f id room n × (p ≡ id)) r left
  unfolding Q.sources
  sources_decides told id room g = decided head total table left is _ told _ r g
      (λ f. sources-unmet f id (scene_of total head f) room) (λ f. sources_off f id (scene_of total head f) room)

  pub property_decides : (told : Answer Q.Part → B) (id k : ℕ) → r ≡ told (Q.property (length table) total head id k) →
      Decided head total table (λ f. property_in (places_in total head) f id k) told
      (λ f n p. PropertyUnmet f id k n × (p ≡ id)) r left
  unfolding Q.property
  property_decides told id k g = decided head total table left is _ told _ r g
      (λ f. property-unmet f id (places_in total head) k) (λ f. property_off f id (places_in total head) k)

  pub orientation_decides : (told : Answer ℕ → B) (id : ℕ) → r ≡ told (orientation (length table) total head id) →
      Decided head total table (λ f. orientation_in (scene_of total head f) f id) told
      (λ f n p. OrientationUnmet f id n × (p ≡ id)) r left
  unfolding orientation
  orientation_decides told id g = decided head total table left is _ told _ r g
      (λ f. orientation-unmet f id (scene_of total head f)) (λ f. orientation_off f id (scene_of total head f))
