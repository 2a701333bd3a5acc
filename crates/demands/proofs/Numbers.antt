-- Demand 1, "a numbered refusal": document 01, "Refusal numbers". Each stage and each question is refused only by the
-- numbers that the table gives to it (specs/Numbers.antt), and reading at the places that it gives to them
-- (specs/Places.antt). Assumes nothing.
--   words    the length of the table that is lent
use Prim.Native.Nat.{ℕ, ◌+◌, ◌≤◌}
use mathlib.Core.Path.{◌≡◌, refl}
use mathlib.Core.List.{List}
use mathlib.Core.Bool.{true}
use mathlib.Core.Logic.{inl, inr}
use lib.ListN.{length}
use Rattle.boxes.specs.Answer.{Answer, refuse}
use Rattle.boxes.specs.Answer as Ans
use Rattle.contents.specs.File.{File}
use Rattle.contents.specs.Breaks.{Broken}
use Rattle.contents.proofs.BreakLaws.{read_broken, broken_read}
use Rattle.pictures.specs.declared.Point.{Point}
use Rattle.rules.specs.Bytes.{bytes_upto}
use Rattle.rules.specs.Rules.{judged}
use Rattle.rules.specs.Opening as Opening
use Rattle.rules.proofs.ByteLaws.{Given, bytes_given}
use Rattle.questions.specs.Questions as Q
use Rattle.faults.specs.Fault.{Number, n12, n13, n30, n14, n15, n29, n16, n17, n18, n19, n20, rule_of}
use Rattle.faults.proofs.JudgedLaws.{judged-first}
use Rattle.seam.specs.Points.{points_in, points}
use Rattle.bodied.specs.Body.{body_in, opened_for, body}
use Rattle.facing.specs.Orientation.{orientation_in, orientation, transforms_in}
use Rattle.demands.specs.Numbers.{
  Among,
  reading_numbers,
  judging_numbers,
  file_numbers,
  size_numbers,
  trace_numbers,
  points_numbers,
  sources_numbers,
  body_numbers,
  property_numbers,
  orientation_numbers,
  transforms_numbers,
}
use Rattle.demands.specs.Places.{zero_placed, box_placed, BoxAt}
use Rattle.demands.proofs.PlaceLaws.{box-room}
use Rattle.demands.proofs.NumberLaws.{
  Only,
  only-ok,
  only-refuse,
  only-check,
  only-pick,
  only-more,
  within,
  among-more,
  Placed,
  placed-number,
  placed_where,
  placed-room,
  ◌>>=◌,
  ◌>>◌,
}
use Rattle.demands.proofs.ReadNumbers.{read_only}

-- 21 and 22, which several questions share
module _ (list : List ℕ) (f : File) (id : ℕ) (h : Among list 21) where
  listed-only : Only (λ n p. Among list n) (Opening.listed f id)
  unfolding Opening.listed
  listed-only = only-check 21 id _ h >> only-ok

  pictured-only : Among list 22 → Only (λ n p. Among list n) (Opening.pictured f id)
  unfolding Opening.pictured
  pictured-only k = do
    r ← listed-only
    only-check 22 id _ k
    only-ok

module _ (total : ℕ) (head : List ℕ) where
  -- where its first fault of 2 to 11 lies is where reading is refused
  placed : (n p : ℕ) → Broken total head n p → Placed total head n p
  placed n p h = (read_only total head).by n p (broken_read total head n p h)

  pub reading_number : (n p : ℕ) → Broken total head n p → Among reading_numbers n
  reading_number n p h = placed-number (placed n p h)

  -- the column "Place" of 2 to 11: 0, or a box
  pub reading_place : (n p : ℕ) → Broken total head n p →
      (Among zero_placed n → p ≡ 0) × (Among box_placed n → BoxAt total head p)
  reading_place n p h = placed_where (placed n p h)

  -- a box begins, header and all, within the head
  pub box_in_head : (p : ℕ) → BoxAt total head p → p + 8 ≤ length head
  box_in_head p b = box-room b

  pub reading_in_head : (n p : ℕ) → Broken total head n p → p ≤ length head
  reading_in_head n p h = placed-room (placed n p h)

  fault_number : (f : File) (k : Number) → Among judging_numbers (rule_of total head f k).number
  fault_number f n12 = refl
  fault_number f n13 = refl
  fault_number f n30 = refl
  fault_number f n14 = refl
  fault_number f n15 = refl
  fault_number f n29 = refl
  fault_number f n16 = refl
  fault_number f n17 = refl
  fault_number f n18 = refl
  fault_number f n19 = refl
  fault_number f n20 = refl

  pub judging-number : (f : File) (n p : ℕ) → judged total head f ≡ refuse n p → Among judging_numbers n
  judging-number f n p e = let x = judged-first total head f n p e in rw x.3 (fault_number f x.0)

  accepted-only : Only (λ n p. Among file_numbers n) (Opening.accepted total head)
  unfolding Opening.accepted
  accepted-only = do
    f ← record { by = λ n p e. among-more reading_numbers file_numbers refl n (reading_number n p (read_broken total head n p e)) }
    record { by = λ n p e. among-more judging_numbers file_numbers refl n (judging-number f n p e) }
    only-ok

  opened-only : (words : ℕ) → Only (λ n p. Among file_numbers n) (Opening.opened words total head)
  unfolding Opening.opened
  opened-only words = only-check 1 0 _ refl >> accepted-only

  -- the bytes of an item are refused by 17 alone
  bytes-only : (list : List ℕ) → Among list 17 → (f : File) (id n : ℕ) → Only (λ n p. Among list n) (bytes_upto total head f id n)
  bytes-only list h f id n = by (bytes_upto total head f id n) (bytes_given total head f id n)
    where
      by : (m : Answer (List ℕ)) → Given m → Only (λ n p. Among list n) m
      by m (inl x) = rw x.1 only-ok
      by m (inr x) = rw x (only-refuse h)

  module _ (words n p : ℕ) where
    -- a question is what reading and judging give, then what is asked of the file
    asked-number : {A : Type 0} (list : List ℕ) → within file_numbers list ≡ true → {k : File → Answer A} →
        ((f : File) → Only (λ n p. Among list n) (k f)) → Ans.◌>>=◌ (Opening.opened words total head) k ≡ refuse n p →
        Among list n
    asked-number list h k = (only-more (λ n p. among-more file_numbers list h n) (opened-only words) >>= k).by n p

    pub verdict-number : Q.verdict words total head ≡ refuse n p → Among file_numbers n
    unfolding Q.verdict Q.verdict_in
    verdict-number = asked-number file_numbers refl (λ f. only-ok)

    pub size_number : (id : ℕ) → Q.size words total head id ≡ refuse n p → Among size_numbers n
    unfolding Q.size Q.size_in
    size_number id = asked-number size_numbers refl (λ f. pictured-only size_numbers f id refl refl >>= (λ r. only-ok))

    pub trace-number : (id : ℕ) (q : Point) → Q.trace words total head id q ≡ refuse n p → Among trace_numbers n
    unfolding Q.trace Q.trace_in
    trace-number id q = asked-number trace_numbers refl (λ f. do
      r ← pictured-only trace_numbers f id refl refl
      only-check 23 id _ refl
      only-ok)

    pub points-number : (id k : ℕ) → points words total head id k ≡ refuse n p → Among points_numbers n
    unfolding points points_in
    points-number id k = asked-number points_numbers refl (λ f. do
      r ← pictured-only points_numbers f id refl refl
      only-check 28 id _ refl
      only-ok)

    pub sources-number : (id room : ℕ) → Q.sources words total head id room ≡ refuse n p → Among sources_numbers n
    unfolding Q.sources Q.sources_in
    sources-number id room = asked-number sources_numbers refl (λ f. do
      r ← pictured-only sources_numbers f id refl refl
      only-check 24 id _ refl
      only-ok)

    -- 17 is among them anyway; no body of an accepted file has it (`body-unmet`, Bodies.antt)
    pub body-number : (room id : ℕ) → body words room total head id ≡ refuse n p → Among body_numbers n
    unfolding body opened_for body_in
    body-number room id = (((only-check 1 0 _ refl >> only-check 31 id _ refl) >>
        only-more (λ n p. among-more file_numbers body_numbers refl n) accepted-only) >>= (λ f. do
          r ← pictured-only body_numbers f id refl refl
          only-pick _ (only-check 17 _ _ refl >> bytes-only body_numbers refl f _ _) only-ok)).by n p

    pub property-number : (id k : ℕ) → Q.property words total head id k ≡ refuse n p → Among property_numbers n
    unfolding Q.property Q.property_in
    property-number id k = asked-number property_numbers refl (λ f. do
      r ← listed-only property_numbers f id refl
      only-check 25 id _ refl
      only-ok)

    pub orientation-number : (id : ℕ) → orientation words total head id ≡ refuse n p → Among orientation_numbers n
    unfolding orientation orientation_in
    orientation-number id = asked-number orientation_numbers refl (λ f. do
      r ← pictured-only orientation_numbers f id refl refl
      only-check 26 id _ refl
      only-ok)

pub transforms-number : (k n p : ℕ) → transforms_in k ≡ refuse n p → Among transforms_numbers n
unfolding transforms_in
transforms-number k n p = (only-check {P = λ n p. Among transforms_numbers n} 27 0 _ refl >> only-ok).by n p
