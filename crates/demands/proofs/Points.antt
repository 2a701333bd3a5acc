-- Q-4, "A whole row of pixels at once", sentence by sentence, of the records that a call leaves. `Stands records k old` says
-- that record k, from 0, is `old`. First of `points`; then of `point_numbers` (`numbers-..`) and of the export `still_points`
-- (`face-..`), whose records are nine numbers. Assumes nothing.
--   points-answers      of a file that keeps the rules, a picture and at most 512 records the call is answered
--   points-filled       and only then (`Filled`, PointLaws.antt)
--   points-single       record k then has what a single trace of its point returns, and its point
--   points-outside      23 for a point outside the picture, in its own record
--   points-alone        a record depends on its own point alone
--   points-untouched    a refused call changes no record
--   points-followed     demand 3 of each record whose point is inside
use Prim.Native.Nat.{ℕ, ◌≤◌}
use mathlib.Core.Path.{◌≡◌, refl, sym, ap, subst, ◌∙◌}
use mathlib.Core.List.{List, [], ◌∷◌, map}
use lib.ListN.{length, get_or, take, length-map}
use Rattle.fields.proofs.TestLaws.{untrue}
use Rattle.std.specs.Prelude.{Result, Ok, Err}
use Rattle.boxes.specs.declared.Refusal.{Refusal}
use Rattle.boxes.specs.Answer.{Answer, ok, refuse}
use Rattle.contents.specs.File.{File}
use Rattle.pictures.specs.Turn.{point, Inside}
use Rattle.pictures.specs.Scene.{output_of}
use Rattle.rules.specs.Derivations.{scene_of}
use Rattle.rules.specs.Opening.{after}
use Rattle.questions.specs.Questions as Q
use Rattle.traced.specs.declared.Traced.{Traced}
use Rattle.traced.specs.Told.{told_traced}
use Rattle.seam.specs.declared.PointRecord.{PointRecord}
use Rattle.seam.specs.Points.{points, single_trace, answered, records_after, told_points_filled}
use Rattle.seam.specs.Numbers.{found_numbers, numbers_after}
use Rattle.out.specs.Out.{out_points}
use Rattle.still.specs.Given.{TraceGiven, PointsGiven, PointNumbersGiven}
use Rattle.still_c.specs.Given as C
use Rattle.faults.specs.Good.{GoodFile}
use Rattle.demands.specs.Call.{IsPicture, shown_as}
use Rattle.demands.specs.Numbers.{Among, points_numbers}
use Rattle.demands.specs.Met.{Stands}
use Rattle.demands.proofs.ToldLaws.{points-told, points-all}
use Rattle.demands.proofs.Numbers.{points-number}
use Rattle.demands.proofs.Demand1.{points-refused, point_numbers_refused}
use Rattle.demands.proofs.Demand3.{Followed, trace-followed}
use Rattle.demands.proofs.PointLaws.{
  each,
  Filled,
  filled-by,
  points-by,
  seven,
  trace-any,
  filled-picture,
  trace_beyond,
  numbers_by,
  numbers_counted,
  numbers_hold,
  numbers_beyond,
}

module _ (head : List ℕ) (total : ℕ) (table : List ℕ) (id : ℕ) where
  module _ (records records-left : List PointRecord) (left : List ℕ) where
    -- "Take a list of point records": whatever points they hold
    pub points_answers : 11280 ≤ length table → (f : File) → GoodFile total head f → IsPicture f id → length records ≤ 512 →
        (r : Result ℕ Refusal) → PointsGiven head total table id records r records-left left → r ≡ Ok (length records)
    unfolding told_points_filled
    points_answers enough f good i l r g = g.0 ∙ ap told_points_filled (points-by head total table id enough f good (length records) i l)

    -- "Refusals 1 to 22 and a list over 512 (28, after 22) change no record."
    pub points_untouched : (y : Refusal) → PointsGiven head total table id records (Err y) records-left left →
        Among points_numbers y.number × (records-left ≡ records)
    points_untouched y g = (
      points-number total head (length table) _ _ id (length records) (points-told _ y (sym g.0)),
      (points-refused head total table left y id records records-left g).1,
    )

    module _ (n : ℕ) (given : PointsGiven head total table id records (Ok n) records-left left) where
      is_ok : points (length table) total head id (length records) ≡ ok n
      is_ok = points-all _ n (sym given.0)

      pub points-filled : Filled head total table id (length records) n
      points-filled = filled-by head total table id (length records) n is_ok

      are : records-left ≡ map (answered (single_trace (length table) total head id)) records
      unfolding records_after
      are = given.1.0 ∙ ap (λ m. records_after m (single_trace (length table) total head id) records) is_ok

      holds : (k : ℕ) (old : PointRecord) → Stands records k old → (r : Result Traced Refusal) →
          single_trace (length table) total head id (point old.x old.y) ≡ r →
          Stands records-left k (record { x = old.x; y = old.y; answer = r })
      holds k old s r e = each (answered (single_trace (length table) total head id)) records records-left are k old _ s
          (ap (λ (a : Result Traced Refusal). record { x = old.x; y = old.y; answer = a }) e)

      -- no record more, none less
      pub points-count : length records-left ≡ length records
      points-count = ap length are ∙ length-map records (answered (single_trace (length table) total head id))

      -- "The result equals single traces of the same points.": r is what `trace` returns, with any table t
      pub points_single : (k : ℕ) (old : PointRecord) → Stands records k old → (t t-left : List ℕ) → 11280 ≤ length t →
          (r : Result Traced Refusal) → TraceGiven head total t id (point old.x old.y) r t-left →
          Stands records-left k (record { x = old.x; y = old.y; answer = r })
      points_single k old s t t-left h r g = holds k old s r
          (ap told_traced (trace-any head total table id t h (length records) n points-filled (point old.x old.y)) ∙ sym g.0)

      -- "A point outside the picture gets 23 in its own record"
      pub points-outside : (f : File) → GoodFile total head f → (k : ℕ) (old : PointRecord) → Stands records k old →
          (Inside (output_of (shown_as (scene_of total head f) f id)) (point old.x old.y) → ⊥) →
          Stands records-left k (record { x = old.x; y = old.y; answer = Err (record { number = 23; place = id }) })
      unfolding told_traced
      points-outside f good k old s o = holds k old s _
          (ap told_traced (trace_beyond head total table id (length records) n points-filled f good (point old.x old.y) o))

      -- demand 3: "every pixel has one end", of each record
      pub points-followed : (enough : 11280 ≤ length table) (f : File) (good : GoodFile total head f) (k : ℕ) (old : PointRecord) →
          Stands records k old → Inside (output_of (shown_as (scene_of total head f) f id)) (point old.x old.y) →
          (r : Result Traced Refusal) × Stands records-left k (record { x = old.x; y = old.y; answer = r }) ×
          Followed head total table enough f good id (point old.x old.y) r
      points-followed enough f good k old s i =
          let p = point old.x old.y in
          let r = single_trace (length table) total head id p in
          let shown = filled-picture head total table id (length records) n points-filled f good in (
            r,
            holds k old s r refl,
            trace-followed head total table enough f good id p shown i r (after total head table) (refl, refl),
          )

  -- the same of `point_numbers`
  module _ (records records-left : List (List ℕ)) (left : List ℕ) where
    pub numbers_answers : 11280 ≤ length table → (f : File) → GoodFile total head f → IsPicture f id → length records ≤ 512 →
        (r : Result ℕ Refusal) → PointNumbersGiven head total table id records r records-left left → r ≡ Ok (length records)
    unfolding told_points_filled
    numbers_answers enough f good i l r g = g.0 ∙ ap told_points_filled (points-by head total table id enough f good (length records) i l)

    pub numbers_untouched : (y : Refusal) → PointNumbersGiven head total table id records (Err y) records-left left →
        Among points_numbers y.number × (records-left ≡ records)
    numbers_untouched y g = (
      points-number total head (length table) _ _ id (length records) (points-told _ y (sym g.0)),
      (point_numbers_refused head total table left y id records records-left g).1,
    )

    module _ (n : ℕ) (given : PointNumbersGiven head total table id records (Ok n) records-left left) where
      numbers_ok : points (length table) total head id (length records) ≡ ok n
      numbers_ok = points-all _ n (sym given.0)

      pub numbers_filled : Filled head total table id (length records) n
      numbers_filled = numbers_by head total table id records records-left n numbers_ok given.1.0

      pub numbers_count : length records-left ≡ length records
      numbers_count = numbers_counted head total table id records records-left n numbers_ok given.1.0

      -- x and y, then the numbers of the answer m that `trace` returns as r
      pub numbers_single : (k x y : ℕ) (rest : List ℕ) → Stands records k (x ∷ y ∷ rest) → (t t-left : List ℕ) →
          11280 ≤ length t → (r : Result Traced Refusal) → TraceGiven head total t id (point x y) r t-left →
          (m : Answer Q.Found) × (r ≡ told_traced m) × Stands records-left k (x ∷ y ∷ found_numbers m)
      numbers_single k x y rest s t t-left h r g = (
        Q.trace (length t) total head id (point x y),
        g.0,
        numbers_hold head total table id records records-left n numbers_ok given.1.0 k x y rest s _
            (trace-any head total table id t h (length records) n numbers_filled (point x y)),
      )

      pub numbers_outside : (f : File) → GoodFile total head f → (k x y : ℕ) (rest : List ℕ) → Stands records k (x ∷ y ∷ rest) →
          (Inside (output_of (shown_as (scene_of total head f) f id)) (point x y) → ⊥) →
          Stands records-left k (x ∷ y ∷ 23 ∷ id ∷ 0 ∷ 0 ∷ 0 ∷ 0 ∷ 0 ∷ [])
      numbers_outside = numbers_beyond head total table id records records-left n numbers_ok given.1.0

  -- for C: the call is answered where the first of the eight numbers is 0, and the third is then the count
  module _ (records filled : List (List ℕ)) (out left : List ℕ) (given : C.PointsGiven head total table id records out filled left) where
    face_by : (m : Answer ℕ) → points (length table) total head id (length records) ≡ m → out ≡ out_points m →
        (get_or out 0 0 ≡ 0 → points (length table) total head id (length records) ≡ ok (get_or out 2 0)) ×
        ((get_or out 0 0 ≡ 0 → ⊥) → Among points_numbers (get_or out 0 0) × (filled ≡ records))
    unfolding out_points numbers_after
    face_by (ok k) e o = (
      λ z. e ∙ ap ok (sym (ap (λ (l : List ℕ). get_or l 2 0) o)),
      λ z. absurd (z (ap (λ (l : List ℕ). get_or l 0 0) o)),
    )
    face_by (refuse k p) e o = (
      λ z. untrue (subst (Among points_numbers) z number),
      λ z. (number, given.1 ∙ ap (λ m. numbers_after m (Q.trace (length table) total head id) records) e),
    )
      where
        number : Among points_numbers (get_or out 0 0)
        number = subst (Among points_numbers) (sym (ap (λ (l : List ℕ). get_or l 0 0) o))
            (points-number total head (length table) k p id (length records) e)

    pub face_answers : 11280 ≤ length table → (f : File) → GoodFile total head f → IsPicture f id → length records ≤ 512 →
        out ≡ 0 ∷ 0 ∷ length records ∷ 0 ∷ 0 ∷ 0 ∷ 0 ∷ 0 ∷ []
    unfolding out_points
    face_answers enough f good i l = given.0 ∙ ap out_points (points-by head total table id enough f good (length records) i l)

    pub face_untouched : (get_or out 0 0 ≡ 0 → ⊥) → Among points_numbers (get_or out 0 0) × (filled ≡ records)
    face_untouched = (face_by _ refl given.0).1

    module _ (answer : get_or out 0 0 ≡ 0) where
      face_ok : points (length table) total head id (length records) ≡ ok (get_or out 2 0)
      face_ok = (face_by _ refl given.0).0 answer

      pub face_filled : Filled head total table id (length records) (get_or out 2 0)
      face_filled = numbers_by head total table id records filled _ face_ok given.1

      pub face_count : length filled ≡ length records
      face_count = numbers_counted head total table id records filled _ face_ok given.1

      -- x and y, then the first seven of the eight numbers that `still_trace` leaves
      pub face_single : (k x y : ℕ) (rest : List ℕ) → Stands records k (x ∷ y ∷ rest) → (t t-left one : List ℕ) →
          11280 ≤ length t → C.TraceGiven head total t id x y one t-left → Stands filled k (x ∷ y ∷ take 7 one)
      face_single k x y rest s t t-left one h g = subst (λ (l : List ℕ). Stands filled k (x ∷ y ∷ l))
          (seven (Q.trace (length t) total head id (point x y)) ∙ ap (take 7) (sym g.0))
          (numbers_hold head total table id records filled _ face_ok given.1 k x y rest s _
          (trace-any head total table id t h (length records) _ face_filled (point x y)))

      pub face_outside : (f : File) → GoodFile total head f → (k x y : ℕ) (rest : List ℕ) → Stands records k (x ∷ y ∷ rest) →
          (Inside (output_of (shown_as (scene_of total head f) f id)) (point x y) → ⊥) →
          Stands filled k (x ∷ y ∷ 23 ∷ id ∷ 0 ∷ 0 ∷ 0 ∷ 0 ∷ 0 ∷ [])
      face_outside = numbers_beyond head total table id records filled _ face_ok given.1

-- "and the others are still answered": whatever other records there are, and whichever place a point has among them, what
-- two calls about one picture write beside like points is the same
pub points_alone : (head : List ℕ) (total id : ℕ) (t u : List ℕ) (records others l m : List PointRecord) (a b : List ℕ) (i j : ℕ) →
    PointsGiven head total t id records (Ok i) l a → PointsGiven head total u id others (Ok j) m b →
    (p q : ℕ) (one other : PointRecord) → Stands records p one → Stands others q other → one.x ≡ other.x → one.y ≡ other.y →
    (new : PointRecord) × Stands l p new × Stands m q new
points_alone head total id t u records others l m a b i j g h p q one other s w e c =
    let enough = (points-filled head total t id records l a i g).enough in (
      record { x = one.x; y = one.y; answer = single_trace (length t) total head id (point one.x one.y) },
      points_single head total t id records l a i g p one s t (after total head t) enough _ (refl, refl),
      rw (e, c) (points_single head total u id others m b j h q other w t (after total head t) enough _ (refl, refl)),
    )
