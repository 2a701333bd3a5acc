-- The records of Q-4, one by one: where a call is answered, what stands in a record, and that a single trace answers the same
-- whatever table is lent. Assumes nothing.
--   Filled      what is so where a call is answered
--   each        a record by itself, in its place
use Prim.Native.Nat.{ℕ, ◌≤◌}
use mathlib.Core.Path.{◌≡◌, refl, sym, ap, subst, ◌∙◌}
use mathlib.Core.List.{List, [], ◌∷◌, map, map-append}
use lib.ListN.{length, take, length-map}
use borrow.Author.Tests.{leb-true, le-leb}
use Rattle.boxes.specs.Answer.{Answer, ok, refuse}
use Rattle.boxes.proofs.AnswerLaws.{ok_bind, bind_ok, ok-then, then_ok, ok-check, check-ok, ok_inj}
use Rattle.contents.specs.File.{File}
use Rattle.pictures.specs.declared.Point.{Point}
use Rattle.pictures.specs.Turn.{point, Inside}
use Rattle.pictures.specs.Scene.{output_of}
use Rattle.rules.specs.Derivations.{scene_of}
use Rattle.rules.specs.Opening.{opened}
use Rattle.questions.specs.Questions.{trace_in}
use Rattle.questions.specs.Questions as Q
use Rattle.seam.specs.Points.{points_in, points}
use Rattle.seam.specs.Numbers.{found_numbers, answered_numbers, numbers_after}
use Rattle.out.specs.Out.{out_traced}
use Rattle.faults.specs.Good.{GoodFile}
use Rattle.faults.proofs.GoodLaws.{accepted-good, one-good}
use Rattle.demands.specs.Call.{IsPicture, shown_as, outside}
use Rattle.demands.specs.Met.{Stands}
use Rattle.demands.proofs.AskedLaws.{pictured-is, pictured-shown, trace_off}
use Rattle.demands.proofs.Demand2.{good-opened}

stands-map : {A B : Type 0} (g : A → B) (l : List A) (k : ℕ) (x : A) → Stands l k x → Stands (map g l) k (g x)
stands-map g l k x s =
    record {
      before = map g s.before;
      behind = map g s.behind;
      joined = sym (map-append g s.before (x ∷ s.behind)) ∙ ap (map g) s.joined;
      count = length-map s.before g ∙ s.count;
    }

-- each record by itself, in its place
pub each : {A : Type 0} (g : A → A) (l left : List A) → left ≡ map g l → (k : ℕ) (old new : A) → Stands l k old → g old ≡ new → Stands left k new
each {A} g l left e k old new s q = subst (λ (m : List A). Stands m k new) (sym e) (subst (Stands (map g l) k) q (stands-map g l k old s))

module _ (head : List ℕ) (total : ℕ) (table : List ℕ) (id : ℕ) where
  -- where a call with so many records is answered by n
  pub record Filled (records n : ℕ) : Type 0 where
    pub enough : 11280 ≤ length table
    pub file : File
    pub good : GoodFile total head file
    pub picture : IsPicture file id
    pub few : records ≤ 512
    pub all : n ≡ records

  pub filled-by : (k n : ℕ) → points (length table) total head id k ≡ ok n → Filled k n
  unfolding points points_in opened
  filled-by k n e =
      let x = bind_ok _ _ n e in
      let o = then_ok _ _ x.0 x.1 in
      let y = bind_ok _ _ n x.2 in
      let z = then_ok _ _ n y.2 in
      record {
        enough = leb-true 11280 (length table) (check-ok 1 0 _ o.0 o.1);
        file = x.0;
        good = accepted-good total head x.0 o.2;
        picture = pictured-shown x.0 id y.0 y.1;
        few = leb-true k 512 (check-ok 28 id _ z.0 z.1);
        all = sym (ok_inj _ _ z.2);
      }

  module _ (enough : 11280 ≤ length table) (f : File) (good : GoodFile total head f) where
    pub points-by : (k : ℕ) → IsPicture f id → k ≤ 512 → points (length table) total head id k ≡ ok k
    unfolding points points_in
    points-by k i l = ok_bind _ _ f (good-opened head total table enough f good) ∙ ok_bind _ _ _ (pictured-is f id i) ∙
        ok-then _ _ tt (ok-check 28 id _ (le-leb k 512 l))

    -- a single trace is the file's, whatever table is lent
    pub trace-by : (p : Point) → Q.trace (length table) total head id p ≡ trace_in (scene_of total head f) f id p
    unfolding Q.trace
    trace-by p = ok_bind _ _ f (good-opened head total table enough f good)

-- found_numbers: as `still_trace` leaves them
pub seven : (m : Answer Q.Found) → found_numbers m ≡ take 7 (out_traced m)
unfolding found_numbers out_traced
seven (ok e) = refl
seven (refuse n p) = refl

module _ (head : List ℕ) (total : ℕ) (table : List ℕ) (id : ℕ) where
  pub trace-any : (t : List ℕ) → 11280 ≤ length t → (k n : ℕ) → Filled head total table id k n → (p : Point) →
      Q.trace (length table) total head id p ≡ Q.trace (length t) total head id p
  trace-any t h k n w p = trace-by head total table id w.enough w.file w.good p ∙
      sym (trace-by head total t id h w.file w.good p)

  module _ (k n : ℕ) (w : Filled head total table id k n) (f : File) (good : GoodFile total head f) where
    pub filled-picture : IsPicture f id
    filled-picture = subst (λ (g : File). IsPicture g id) (one-good total head w.file f w.good good) w.picture

    pub trace_beyond : (p : Point) → (Inside (output_of (shown_as (scene_of total head f) f id)) p → ⊥) →
        Q.trace (length table) total head id p ≡ refuse 23 id
    trace_beyond p o = trace-by head total table id w.enough f good p ∙
        trace_off f id (scene_of total head f) p 23 id (outside refl filled-picture o, refl)

  -- records of nine numbers, for `point_numbers` and for C
  module _ (records records-left : List (List ℕ)) (n : ℕ) (is_ok : points (length table) total head id (length records) ≡ ok n)
      (given : records-left ≡ numbers_after (points (length table) total head id (length records)) (Q.trace (length table) total head id) records) where
    pub numbers_by : Filled head total table id (length records) n
    numbers_by = filled-by head total table id (length records) n is_ok

    numbers_are : records-left ≡ map (answered_numbers (Q.trace (length table) total head id)) records
    unfolding numbers_after
    numbers_are = given ∙ ap (λ m. numbers_after m (Q.trace (length table) total head id) records) is_ok

    pub numbers_counted : length records-left ≡ length records
    numbers_counted = ap length numbers_are ∙ length-map records (answered_numbers (Q.trace (length table) total head id))

    pub numbers_hold : (k x y : ℕ) (rest : List ℕ) → Stands records k (x ∷ y ∷ rest) → (m : Answer Q.Found) →
        Q.trace (length table) total head id (point x y) ≡ m → Stands records-left k (x ∷ y ∷ found_numbers m)
    numbers_hold k x y rest s m e = each (answered_numbers (Q.trace (length table) total head id)) records records-left numbers_are k _ _ s
        (ap (λ (a : Answer Q.Found). x ∷ y ∷ found_numbers a) e)

    pub numbers_beyond : (f : File) → GoodFile total head f → (k x y : ℕ) (rest : List ℕ) → Stands records k (x ∷ y ∷ rest) →
        (Inside (output_of (shown_as (scene_of total head f) f id)) (point x y) → ⊥) →
        Stands records-left k (x ∷ y ∷ 23 ∷ id ∷ 0 ∷ 0 ∷ 0 ∷ 0 ∷ 0 ∷ [])
    unfolding found_numbers
    numbers_beyond f good k x y rest s o = numbers_hold k x y rest s _ (trace_beyond (length records) n numbers_by f good (point x y) o)
