-- Points of a picture: how many are answered, each as a single trace would be, and records answered one by one.
-- Assumes nothing.
use Prim.Native.Nat.{ℕ, zero, suc, ◌+◌, ◌≤◌, ◌<◌}
use native.Mathlib.Omega.{arith}
use mathlib.Core.Path.{◌≡◌, refl, ap, ◌∙◌}
use mathlib.Core.List.{List, [], ◌∷◌, ◌++◌, map}
use lib.ListN.{length, set, get_or, take, drop}
use borrow.Author.Tests.{le-leb, lt-leb}
use Rattle.std.specs.Prelude.{Ok, Err}
use Rattle.boxes.specs.Answer.{ok, refuse, check, ◌>>=◌, ◌>>◌}
use Rattle.boxes.specs.declared.Refusal.{Refusal}
use Rattle.contents.specs.File.{File}
use Rattle.pictures.specs.declared.Point.{Point}
use Rattle.rules.specs.Derivations.{scene_of}
use Rattle.rules.specs.Opening.{pictured}
use Rattle.questions.specs.Questions.{trace_in, trace}
use Rattle.traced.specs.Told.{told_traced}
use Rattle.seam.specs.Points.{points_in, single_trace, told_points_filled}
use Rattle.seam.specs.inner.Hand.{AtHand, answered_to}

-- points_in: 21 and 22, 28, or all
module _ (f : File) (id n : ℕ) where
  pub points_off : (y : Refusal) → pictured f id ≡ refuse y.number y.place → Err y ≡ told_points_filled (points_in f id n)
  unfolding points_in told_points_filled ◌>>=◌
  points_off y e = rw e

  module _ (r : ℕ) (e : pictured f id ≡ ok r) where
    pub points-over : 512 < n → (y : Refusal) → y.number ≡ 28 → y.place ≡ id → Err y ≡ told_points_filled (points_in f id n)
    unfolding points_in told_points_filled check ◌>>=◌ ◌>>◌
    points-over h y i p = rw (e, lt-leb n 512 h, ← i, ← p)

    pub points-all : n ≤ 512 → Ok n ≡ told_points_filled (points_in f id n)
    unfolding points_in told_points_filled check ◌>>=◌ ◌>>◌
    points-all h = rw (e, le-leb n 512 h)

-- at hand: a trace of the file is a single trace of the head
pub trace-at_hand : (head : List ℕ) (total : ℕ) (t rows : List ℕ) (h : AtHand head total t rows) (id : ℕ) (p : Point) →
    told_traced (trace_in (scene_of total head h.file) h.file id p) ≡ single_trace (length t) total head id p
unfolding trace ◌>>=◌
trace-at_hand head total t rows h id p = rw h.opens

-- answered_to: none, as many, one more, and all
module _ {A : Type 0} (by : A → A) where
  pub none-answered : (rs : List A) → answered_to by 0 rs ≡ rs
  unfolding answered_to
  none-answered rs = refl

  pub length-answered : (n : ℕ) (rs : List A) → length (answered_to by n rs) ≡ length rs
  unfolding answered_to
  length-answered zero rs = refl
  length-answered (suc n) [] = refl
  length-answered (suc n) (r ∷ rs) = ap suc (length-answered n rs)

  pub one_more : (n : ℕ) (rs : List A) (d : A) → n < length rs →
      set (answered_to by n rs) n (by (get_or (answered_to by n rs) n d)) ≡ answered_to by (suc n) rs
  unfolding answered_to
  one_more n [] d h = absurd (omega (arith, h))
  one_more zero (r ∷ rs) d h = refl
  one_more (suc n) (r ∷ rs) d h = ap (λ (l : List A). by r ∷ l) (one_more n rs d (omega (arith, h)))

  -- the same where the row is said to be so far, and the next record to be answered
  pub next_answered : (n : ℕ) (rs ts : List A) (d r : A) → ts ≡ answered_to by n rs → r ≡ by (get_or ts n d) → n < length rs →
      set ts n r ≡ answered_to by (n + 1) rs
  next_answered n rs ts d r e q h =
      let z : suc n ≡ n + 1 = omega arith in
      ap (set ts n) q ∙ ap (λ (l : List A). set l n (by (get_or l n d))) e ∙ one_more n rs d h ∙
      ap (λ (k : ℕ). answered_to by k rs) z

  -- the first n by themselves, then the others
  pub answered_front : (n : ℕ) (rs : List A) → n ≤ length rs → answered_to by n (take n rs) ++ drop n rs ≡ answered_to by n rs
  unfolding answered_to
  answered_front zero rs h = refl
  answered_front (suc n) [] h = absurd (omega (arith, h))
  answered_front (suc n) (r ∷ rs) h = ap (λ (l : List A). by r ∷ l) (answered_front n rs (omega (arith, h)))

  pub all-answered : (rs : List A) → answered_to by (length rs) rs ≡ map by rs
  unfolding answered_to
  all-answered [] = refl
  all-answered (r ∷ rs) = ap (λ (l : List A). by r ∷ l) (all-answered rs)
