-- Demand 1, of every question: what a refusal returns and leaves, and that nothing of what the table held is in any
-- answer. That each call comes back for all heads, totals, tables and lists is what `rt` proves of the functions
-- themselves: none of them has a `requires`. Assumes nothing.
--   size-refused, ..   a refused call: why, its number and place, and what it leaves
--   size_same, ..      two calls on one file with any two tables of sufficient length
use Prim.Native.Nat.{ℕ, ◌≤◌}
use native.Mathlib.Omega.{arith}
use mathlib.Core.Path.{◌≡◌, refl, sym, ap, ◌∙◌}
use mathlib.Core.List.{List, [], ◌∷◌}
use mathlib.Core.Bool.{Bool, true, false}
use lib.ListN.{length, take, drop, replicate, length-replicate}
use lib.Seq.{take-append-le}
use lib.Dec.{leb}
use borrow.Author.Tests.{leb-true, leb-false, le-leb}
use Rattle.fields.specs.Choice.{pick}
use Rattle.fields.proofs.FieldLaws.{pick_yes}
use Rattle.std.specs.Prelude.{Result, Err}
use Rattle.asked.specs.declared.Verdict.{Verdict}
use Rattle.asked.specs.declared.Sizes.{Sizes}
use Rattle.boxes.specs.declared.Refusal.{Refusal}
use Rattle.boxes.specs.Answer.{Answer, ok, refuse, check, ◌>>=◌, ◌>>◌}
use Rattle.contents.specs.File.{File}
use Rattle.pictures.specs.declared.Point.{Point}
use Rattle.rules.specs.Derivations.{scene_of}
use Rattle.rules.specs.Places.{places_in}
use Rattle.rules.specs.Words.{words_of}
use Rattle.rules.proofs.RuleLaws.{accepted-both}
use Rattle.rules.specs.Opening.{accepted, opened, left_by, after_by, after}
use Rattle.questions.specs.Questions.{verdict_in, trace_in, sources_in, property_in, list_after}
use Rattle.questions.specs.Questions as Q
use Rattle.records.proofs.BoundLaws.{read_bounds}
use Rattle.views.proofs.LayoutLaws.{words-length}
use Rattle.traced.specs.declared.Traced.{Traced}
use Rattle.seam.specs.declared.PointRecord.{PointRecord}
use Rattle.facing.specs.Orientation.{orientation}
use Rattle.asked.specs.Told.{told_verdict, told_sized}
use Rattle.traced.specs.Told.{told_traced}
use Rattle.seam.specs.Points.{points_in, points, single_trace, records_after, told_points_filled}
use Rattle.seam.specs.Numbers.{numbers_after}
use Rattle.sourced.specs.Told.{told_listed}
use Rattle.facing.specs.Told.{told_oriented}
use Rattle.still.specs.Told.{told_part, told_fault}
use Rattle.still.specs.Given.{VerdictGiven, SizeGiven, TraceGiven, PointsGiven, PointNumbersGiven, SourcesGiven, OrientationGiven, PropertyGiven}
use Rattle.faults.specs.Good.{GoodFile}
use Rattle.faults.proofs.GoodLaws.{accepted-good, refused-first}
use Rattle.demands.specs.Call.{SizeUnmet, TraceUnmet, PointsUnmet, SourcesUnmet, PropertyUnmet, OrientationUnmet, Call, short, bad, unmet}
use Rattle.demands.proofs.ToldLaws.{verdict-told, size-told, trace-told, points-told, sources-told, orientation-told}
use Rattle.demands.proofs.AskedLaws.{size-unmet, trace-unmet, points-unmet, sources-unmet, property-unmet, orientation-unmet}

never : {A B : Type 0} (x : A) (n p : ℕ) → ok x ≡ refuse n p → B
never x n p e = let z : ◌≡◌ {A = ℕ} 0 1 = cc in absurd (omega arith)

module _ (head : List ℕ) (total : ℕ) where
  -- many points and a single one, asked of what is opened
  abbrev pub points_of : ℕ → ℕ → Answer File → Answer ℕ
  points_of id k o = o >>= (λ f. points_in f id k)

  abbrev pub trace_of : ℕ → Answer File → Point → Answer Q.Found
  trace_of id o p = o >>= (λ f. trace_in (scene_of total head f) f id p)

  -- a question is what reading and judging give, then what is asked of the file
  module _ (table left : List ℕ) (is : left ≡ after total head table) where
    pub refused-good : {A : Type 0} (k : File → Answer A) (Unmet : File → ℕ → ℕ → Type 0) →
        ((f : File) → GoodFile total head f → (n p : ℕ) → k f ≡ refuse n p → Unmet f n p) → (n p : ℕ) →
        (opened (length table) total head >>= k) ≡ refuse n p → Call head total table Unmet n p left
    unfolding opened after_by left_by check ◌>>=◌ ◌>>◌ pick
    refused-good k Unmet h n p e = by (leb 11280 (length table)) refl (accepted total head) refl is e
      where
        by : (t : Bool) → leb 11280 (length table) ≡ t → (m : Answer File) → accepted total head ≡ m →
            left ≡ pick t (left_by words_of total head table m) table → ((check 1 0 t >> m) >>= k) ≡ refuse n p →
            Call head total table Unmet n p left
        by false q m a l e = short (leb-false _ _ q) (cc) (cc) l
        by true q (refuse i j) a l e = let x : i ≡ n = cc in let y : j ≡ p = cc in
            bad (leb-true _ _ q) (refused-first total head n p (a ∙ ap (λ (i : ℕ). refuse i j) x ∙ ap (refuse n) y)) l
        by true q (ok f) a l e = unmet (leb-true _ _ q) f (accepted-good total head f a) (h f (accepted-good total head f a) n p e) l

    pub refused_call : {A : Type 0} (k : File → Answer A) (Unmet : File → ℕ → ℕ → Type 0) →
        ((f : File) (n p : ℕ) → k f ≡ refuse n p → Unmet f n p) → (n p : ℕ) →
        (opened (length table) total head >>= k) ≡ refuse n p → Call head total table Unmet n p left
    refused_call k Unmet h = refused-good k Unmet (λ f g. h f)

    -- what was lent beside the table is as it was
    refused-kept : {A L : Type 0} (k : File → Answer A) (Unmet : File → ℕ → ℕ → Type 0) →
        ((f : File) (n p : ℕ) → k f ≡ refuse n p → Unmet f n p) → (keep : Answer A → L) (l x : L) →
        ((n p : ℕ) → keep (refuse n p) ≡ l) → x ≡ keep (opened (length table) total head >>= k) → (n p : ℕ) →
        (opened (length table) total head >>= k) ≡ refuse n p → Call head total table Unmet n p left × (x ≡ l)
    refused-kept k Unmet h keep l x same g n p e = (refused_call k Unmet h n p e, g ∙ ap keep e ∙ same n p)

  module _ (table left : List ℕ) (y : Refusal) where
    pub verdict-refused : VerdictGiven head total table (Err y) left → Call head total table (λ f n p. ⊥) y.number y.place left
    unfolding Q.verdict verdict_in
    verdict-refused g = refused_call table left g.1 verdict_in _ (λ f n p e. never _ n p e) _ _
        (verdict-told (Q.verdict (length table) total head) y (sym g.0))

    pub size-refused : (id : ℕ) → SizeGiven head total table id (Err y) left →
        Call head total table (λ f n p. SizeUnmet f id n × (p ≡ id)) y.number y.place left
    unfolding Q.size
    size-refused id g = refused_call table left g.1 _ _ (λ f n p e. size-unmet f id (scene_of total head f) n p e) _ _
        (size-told (Q.size (length table) total head id) y (sym g.0))

    pub trace-refused : (id : ℕ) (q : Point) → TraceGiven head total table id q (Err y) left →
        Call head total table (λ f n p. TraceUnmet (scene_of total head f) f id q n × (p ≡ id)) y.number y.place
        left
    unfolding Q.trace
    trace-refused id q g = refused_call table left g.1 _ _ (λ f n p e. trace-unmet f id (scene_of total head f) q n p
        e) _ _ (trace-told (Q.trace (length table) total head id q) y (sym g.0))

    pub orientation-refused : (id : ℕ) → OrientationGiven head total table id (Err y) left →
        Call head total table (λ f n p. OrientationUnmet f id n × (p ≡ id)) y.number y.place left
    unfolding orientation
    orientation-refused id g = refused_call table left g.1 _ _
        (λ f n p e. orientation-unmet f id (scene_of total head f) n p e) _ _
        (orientation-told (orientation (length table) total head id) y (sym g.0))

    -- the list is as it was
    pub sources-refused : (id : ℕ) (list list_left : List ℕ) →
        SourcesGiven head total table id list (Err y) list_left left →
        Call head total table (λ f n p. SourcesUnmet (scene_of total head f) f id (length list) n × (p ≡ id)) y.number
        y.place left × (list_left ≡ list)
    unfolding Q.sources list_after
    sources-refused id list list_left g = refused-kept table left g.1.1 _ _
        (λ f n p e. sources-unmet f id (scene_of total head f) (length list) n p e) (λ m. list_after m list) list list_left
        (λ n p. refl) g.1.0 _ _ (sources-told (Q.sources (length table) total head id (length list)) y (sym g.0))

    -- every record is as it was
    pub points-refused : (id : ℕ) (records records-left : List PointRecord) →
        PointsGiven head total table id records (Err y) records-left left →
        Call head total table (λ f n p. PointsUnmet f id (length records) n × (p ≡ id)) y.number y.place left ×
        (records-left ≡ records)
    unfolding points records_after
    points-refused id records records-left g = refused-kept table left g.1.1 _ _
        (λ f n p e. points-unmet f id (length records) n p e)
        (λ m. records_after m (single_trace (length table) total head id) records) records records-left (λ n p. refl)
        g.1.0 _ _ (points-told (points (length table) total head id (length records)) y (sym g.0))

    pub point_numbers_refused : (id : ℕ) (records records-left : List (List ℕ)) →
        PointNumbersGiven head total table id records (Err y) records-left left →
        Call head total table (λ f n p. PointsUnmet f id (length records) n × (p ≡ id)) y.number y.place left ×
        (records-left ≡ records)
    unfolding points numbers_after
    point_numbers_refused id records records-left g = refused-kept table left g.1.1 _ _
        (λ f n p e. points-unmet f id (length records) n p e)
        (λ m. numbers_after m (Q.trace (length table) total head id) records) records records-left (λ n p. refl)
        g.1.0 _ _ (points-told (points (length table) total head id (length records)) y (sym g.0))

  -- property: the part is empty, and the two numbers carry the refusal
  pub property-refused : (table : List ℕ) (id k : ℕ) (part told left : List ℕ) →
      PropertyGiven head total table id k part told left → (n p : ℕ) →
      Q.property (length table) total head id k ≡ refuse n p
      → Call head total table (λ f n p. PropertyUnmet f id k n × (p ≡ id)) n p left × ((part ≡ []) × (told ≡ n ∷ p ∷ []))
  unfolding Q.property told_part told_fault
  property-refused table id k part told left g n p e = (
    refused_call table left g.1.1 _ _ (λ f n p e. property-unmet f id (places_in total head) k n p e) n p e,
    (g.0 ∙ ap told_part e, g.1.0 ∙ ap told_fault e),
  )

  -- Nothing left in the table by an earlier file can be seen: with tables t and u of sufficient length the answers are
  -- the same, and so are the first 11,280 words.
  module _ (t u : List ℕ) (enough : 11280 ≤ length t) (enough-too : 11280 ≤ length u) where
    opened-same : opened (length t) total head ≡ opened (length u) total head
    unfolding opened
    opened-same = rw (le-leb 11280 (length t) enough, le-leb 11280 (length u) enough-too)

    after_is : (v : List ℕ) → 11280 ≤ length v → after total head v ≡ left_by words_of total head v (accepted total head)
    unfolding after_by
    after_is v h = pick_yes _ _ (le-leb 11280 (length v) h)

    front : (m : Answer File) → accepted total head ≡ m → take 11280 (left_by words_of total head t m) ≡ take 11280 (left_by words_of total head u m)
    unfolding left_by
    front (ok f) e =
        let w : 11280 ≤ length (words_of total head f) = omega
        (arith, words-length total head f (read_bounds total head f (accepted-both total head f e).0).0) in
        take-append-le 11280 (words_of total head f) _ w ∙ sym (take-append-le 11280 (words_of total head f) _ w)
    front (refuse n p) e =
        let w : 11280 ≤ length (replicate {A = ℕ} 11280 0) = let z = length-replicate {A = ℕ} 11280 0 in omega arith in
        take-append-le 11280 (replicate 11280 0) (drop 11280 t) w ∙ sym (take-append-le 11280 (replicate 11280 0) (drop 11280 u) w)

    pub after_same : (a b : List ℕ) → a ≡ after total head t → b ≡ after total head u → take 11280 a ≡ take 11280 b
    after_same a b x y = ap (take 11280) (x ∙ after_is t enough) ∙ front (accepted total head) refl ∙ sym (ap (take 11280) (y ∙ after_is u enough-too))

    pub asked-same : {A B : Type 0} (told : Answer A → B) (k : File → Answer A) (r s : B) →
        r ≡ told (opened (length t) total head >>= k) → s ≡ told (opened (length u) total head >>= k) → r ≡ s
    asked-same told k r s x y = x ∙ ap (λ (m : Answer File). told (m >>= k)) opened-same ∙ sym y

    -- what is told of what is opened, and what is left of what was lent beside the table
    pub lent_same : {B L : Type 0} (told : Answer File → B) (keep : Answer File → L) (r s : B) (l m : L) (a b : List ℕ) →
        (r ≡ told (opened (length t) total head)) × ((l ≡ keep (opened (length t) total head)) × (a ≡ after total head t))
        → (s ≡ told (opened (length u) total head)) × ((m ≡ keep (opened (length u) total head)) ×
        (b ≡ after total head u)) → (r ≡ s) × ((l ≡ m) × (take 11280 a ≡ take 11280 b))
    lent_same told keep r s l m a b x y = (
      x.0 ∙ ap told opened-same ∙ sym y.0,
      (x.1.0 ∙ ap keep opened-same ∙ sym y.1.0, after_same a b x.1.1 y.1.1),
    )

    pub verdict-same : (r s : Result Verdict Refusal) (a b : List ℕ) → VerdictGiven head total t r a →
        VerdictGiven head total u s b → (r ≡ s) × (take 11280 a ≡ take 11280 b)
    unfolding Q.verdict
    verdict-same r s a b x y = (asked-same told_verdict _ r s x.0 y.0, after_same a b x.1 y.1)

    pub size_same : (id : ℕ) (r s : Result Sizes Refusal) (a b : List ℕ) → SizeGiven head total t id r a →
        SizeGiven head total u id s b → (r ≡ s) × (take 11280 a ≡ take 11280 b)
    unfolding Q.size
    size_same id r s a b x y = (asked-same told_sized _ r s x.0 y.0, after_same a b x.1 y.1)

    pub trace-same : (id : ℕ) (p : Point) (r s : Result Traced Refusal) (a b : List ℕ) → TraceGiven head total t id p r a →
        TraceGiven head total u id p s b → (r ≡ s) × (take 11280 a ≡ take 11280 b)
    unfolding Q.trace
    trace-same id p r s a b x y = (asked-same told_traced _ r s x.0 y.0, after_same a b x.1 y.1)

    pub sources-same : (id : ℕ) (list : List ℕ) (r s : Result ℕ Refusal) (l m a b : List ℕ) →
        SourcesGiven head total t id list r l a → SourcesGiven head total u id list s m b → (r ≡ s) ×
        ((l ≡ m) × (take 11280 a ≡ take 11280 b))
    unfolding Q.sources
    sources-same id list = lent_same (λ o. told_listed (o >>= (λ f. sources_in (scene_of total head f) f id (length list))))
        (λ o. list_after (o >>= (λ f. sources_in (scene_of total head f) f id (length list))) list)

    pub points-same : (id : ℕ) (records : List PointRecord) (r s : Result ℕ Refusal) (l m : List PointRecord) (a b : List ℕ) →
        PointsGiven head total t id records r l a → PointsGiven head total u id records s m b → (r ≡ s) ×
        ((l ≡ m) × (take 11280 a ≡ take 11280 b))
    unfolding points Q.trace
    points-same id records = lent_same (λ o. told_points_filled (points_of id (length records) o))
        (λ o. records_after (points_of id (length records) o) (λ p. told_traced (trace_of id o p)) records)

    pub point_numbers_same : (id : ℕ) (records : List (List ℕ)) (r s : Result ℕ Refusal) (l m : List (List ℕ)) (a b : List ℕ) →
        PointNumbersGiven head total t id records r l a → PointNumbersGiven head total u id records s m b → (r ≡ s) ×
        ((l ≡ m) × (take 11280 a ≡ take 11280 b))
    unfolding points Q.trace
    point_numbers_same id records = lent_same (λ o. told_points_filled (points_of id (length records) o))
        (λ o. numbers_after (points_of id (length records) o) (trace_of id o) records)

    pub property-same : (id k : ℕ) (part same l m a b : List ℕ) → PropertyGiven head total t id k part l a →
        PropertyGiven head total u id k same m b → (part ≡ same) × ((l ≡ m) × (take 11280 a ≡ take 11280 b))
    unfolding Q.property
    property-same id k = lent_same (λ o. told_part (o >>= (λ f. property_in (places_in total head) f id k)))
        (λ o. told_fault (o >>= (λ f. property_in (places_in total head) f id k)))

    pub orientation-same : (id : ℕ) (r s : Result ℕ Refusal) (a b : List ℕ) → OrientationGiven head total t id r a →
        OrientationGiven head total u id s b → (r ≡ s) × (take 11280 a ≡ take 11280 b)
    unfolding orientation
    orientation-same id r s a b x y = (asked-same told_oriented _ r s x.0 y.0, after_same a b x.1 y.1)
