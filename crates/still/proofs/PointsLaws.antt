-- How many records are filled, and what is left of them. Assumes nothing.
use Prim.Native.Nat.{ℕ, ◌≤◌, zero-le}
use native.Mathlib.Omega.{arith}
use mathlib.Core.Path.{◌≡◌, refl, sym, ap, subst, ◌∙◌}
use mathlib.Core.List.{List}
use lib.ListN.{length}
use Rattle.std.specs.Prelude.{Result, Err}
use Rattle.boxes.specs.Answer.{Answer, ok, refuse}
use Rattle.boxes.specs.declared.Refusal.{Refusal}
use Rattle.boxes.proofs.AnswerLaws.{bind_ok, then_ok, ok_inj}
use Rattle.pictures.specs.declared.Point.{Point}
use Rattle.traced.specs.declared.Traced.{Traced}
use Rattle.seam.specs.declared.PointRecord.{PointRecord}
use Rattle.seam.specs.Points.{points_in, points, answered, records_after, told_points_filled}
use Rattle.seam.specs.inner.Hand.{count_of, answered_to}
use Rattle.seam.proofs.PointsLaws.{none-answered, all-answered}

-- a refusal fills no record
pub none_filled : (y : Refusal) → count_of (Err y) ≡ 0
unfolding count_of
none_filled y = refl

-- all points are answered, or none
module _ (n total : ℕ) (head : List ℕ) (id k : ℕ) where
  all_of : (x : ℕ) → points n total head id k ≡ ok x → x ≡ k
  unfolding points points_in
  all_of x e =
      let f = bind_ok _ _ x e in
      let r = bind_ok _ _ x f.2 in
      sym (ok_inj _ _ (then_ok _ _ x r.2).2)

  abbrev Few : Answer ℕ → Type 0
  Few m = (points n total head id k ≡ m → count_of (told_points_filled m) ≤ k)

  few : (m : Answer ℕ) → Few m
  unfolding count_of told_points_filled
  few (ok x) e = let q = all_of x e in omega (arith, q)
  few (refuse x p) e = zero-le

  pub count_le : (r : Result ℕ Refusal) → r ≡ told_points_filled (points n total head id k) → count_of r ≤ k
  count_le r e = subst (λ (z : Result ℕ Refusal). count_of z ≤ k) (sym e) (few (points n total head id k) refl)

module _ (n total : ℕ) (head : List ℕ) (id : ℕ) (by : Point → Result Traced Refusal) (rs : List PointRecord) where
  left : (m : Answer ℕ) → points n total head id (length rs) ≡ m → answered_to (answered by) (count_of (told_points_filled m)) rs ≡ records_after m by rs
  unfolding count_of told_points_filled records_after
  left (ok x) e = ap (λ (z : ℕ). answered_to (answered by) z rs) (all_of n total head id (length rs) x e) ∙ all-answered (answered by) rs
  left (refuse x p) e = none-answered (answered by) rs

  pub records_given : (r : Result ℕ Refusal) → r ≡ told_points_filled (points n total head id (length rs)) →
      answered_to (answered by) (count_of r) rs ≡ records_after (points n total head id (length rs)) by rs
  records_given r e = ap (λ (z : Result ℕ Refusal). answered_to (answered by) (count_of z) rs) e ∙ left (points n total head id (length rs)) refl
