-- From an answer to its eight numbers. Assumes nothing.
use Prim.Native.Nat.{ℕ}
use mathlib.Core.Path.{◌≡◌, ap}
use mathlib.Core.List.{List, [], ◌∷◌}
use mathlib.Core.Bool.{Bool, true, false}
use lib.ListN.{length}
use Rattle.std.specs.Prelude.{Ok, Err}
use Rattle.table.specs.declared.ItemId.{ItemId}
use Rattle.boxes.specs.Answer.{Answer, ok, refuse}
use Rattle.boxes.specs.declared.Refusal.{Refusal}
use Rattle.questions.specs.Questions as Q
use Rattle.asked.specs.Told.{told_verdict, told_sized}
use Rattle.traced.specs.Told.{told_found, told_traced, end_number}
use Rattle.seam.specs.Points.{told_points_filled}
use Rattle.sourced.specs.Told.{told_listed}
use Rattle.bodied.specs.Told.{told_bodied}
use Rattle.asked.specs.declared.Verdict.{Verdict}
use Rattle.asked.specs.declared.Sizes.{Sizes}
use Rattle.traced.specs.declared.Traced.TheVariants as traces
use Rattle.out.specs.Out.{out_refused, out_verdict, out_sized, out_traced, out_points, out_listed, out_bodied}

-- out_verdict
pub verdict-refused : (m : Answer Q.Verdict) (y : Refusal) → Err y ≡ told_verdict m → out_refused y.number y.place ≡ out_verdict m
unfolding told_verdict out_verdict
verdict-refused (ok v) y e = cc
verdict-refused (refuse n p) y e = let i : y.number ≡ n = cc in let j : y.place ≡ p = cc in rw (i, j)

pub verdict-accepted : (m : Answer Q.Verdict) (a : Verdict) → Ok a ≡ told_verdict m →
    (0 ∷ 0 ∷ a.items ∷ a.primary.0 ∷ 0 ∷ 0 ∷ 0 ∷ 0 ∷ []) ≡ out_verdict m
unfolding told_verdict out_verdict
verdict-accepted (ok v) a e =
    let q : a ≡ record { items = v.items; primary = record { 0 = v.primary } } = cc in
    ap (λ (b : Verdict). 0 ∷ 0 ∷ b.items ∷ b.primary.0 ∷ 0 ∷ 0 ∷ 0 ∷ 0 ∷ []) q
verdict-accepted (refuse n p) a e = cc

-- out_sized
pub size-refused : (m : Answer Q.Sized) (y : Refusal) → Err y ≡ told_sized m → out_refused y.number y.place ≡ out_sized m
unfolding told_sized out_sized
size-refused (ok s) y e = cc
size-refused (refuse n p) y e = let i : y.number ≡ n = cc in let j : y.place ≡ p = cc in rw (i, j)

pub size-told : (m : Answer Q.Sized) (a : Sizes) → Ok a ≡ told_sized m →
    (0 ∷ 0 ∷ a.wide ∷ a.high ∷ a.output_wide ∷ a.output_high ∷ a.depth ∷ 0 ∷ []) ≡ out_sized m
unfolding told_sized out_sized
size-told (ok s) a e = cc
size-told (refuse n p) a e = cc

-- out_traced
pub trace-refused : (m : Answer Q.Found) (y : Refusal) → Err y ≡ told_traced m → out_refused y.number y.place ≡ out_traced m
unfolding told_traced out_traced
trace-refused (ok f) y e = cc
trace-refused (refuse n p) y e = let i : y.number ≡ n = cc in let j : y.place ≡ p = cc in rw (i, j)

module _ (i : ItemId) (x y n : ℕ) where
  pub trace-pixel : (m : Answer Q.Found) → Ok (traces.Pixel i x y n) ≡ told_traced m → (0 ∷ 0 ∷ 1 ∷ i.0 ∷ x ∷ y ∷ n ∷ 0 ∷ []) ≡ out_traced m
  unfolding told_traced told_found out_traced end_number
  trace-pixel (ok f) e = by f.is_fill (cc)
    where
      by : (b : Bool) → traces.Pixel i x y n ≡ told_found b f → (0 ∷ 0 ∷ 1 ∷ i.0 ∷ x ∷ y ∷ n ∷ 0 ∷ []) ≡
          (0 ∷ 0 ∷ end_number b ∷ f.item ∷ f.at.x ∷ f.at.y ∷ f.passed ∷ 0 ∷ [])
      by false e = cc
      by true e = cc
  trace-pixel (refuse k p) e = cc

  pub trace-fill : (m : Answer Q.Found) → Ok (traces.Fill i x y n) ≡ told_traced m → (0 ∷ 0 ∷ 2 ∷ i.0 ∷ x ∷ y ∷ n ∷ 0 ∷ []) ≡ out_traced m
  unfolding told_traced told_found out_traced end_number
  trace-fill (ok f) e = by f.is_fill (cc)
    where
      by : (b : Bool) → traces.Fill i x y n ≡ told_found b f → (0 ∷ 0 ∷ 2 ∷ i.0 ∷ x ∷ y ∷ n ∷ 0 ∷ []) ≡
          (0 ∷ 0 ∷ end_number b ∷ f.item ∷ f.at.x ∷ f.at.y ∷ f.passed ∷ 0 ∷ [])
      by false e = cc
      by true e = cc
  trace-fill (refuse k p) e = cc

-- out_points
pub points-refused : (m : Answer ℕ) (y : Refusal) → Err y ≡ told_points_filled m → out_refused y.number y.place ≡ out_points m
unfolding told_points_filled out_points
points-refused (ok k) y e = cc
points-refused (refuse n p) y e = let i : y.number ≡ n = cc in let j : y.place ≡ p = cc in rw (i, j)

pub points-told : (m : Answer ℕ) (count : ℕ) → Ok count ≡ told_points_filled m → (0 ∷ 0 ∷ count ∷ 0 ∷ 0 ∷ 0 ∷ 0 ∷ 0 ∷ []) ≡ out_points m
unfolding told_points_filled out_points
points-told (ok k) count e = let i : count ≡ k = cc in rw i
points-told (refuse n p) count e = cc

-- out_listed
pub list-refused : (m : Answer (List ℕ)) (y : Refusal) → Err y ≡ told_listed m → out_refused y.number y.place ≡ out_listed m
unfolding told_listed out_listed
list-refused (ok ids) y e = cc
list-refused (refuse n p) y e = let i : y.number ≡ n = cc in let j : y.place ≡ p = cc in rw (i, j)

pub list-told : (m : Answer (List ℕ)) (count : ℕ) → Ok count ≡ told_listed m → (0 ∷ 0 ∷ count ∷ 0 ∷ 0 ∷ 0 ∷ 0 ∷ 0 ∷ []) ≡ out_listed m
unfolding told_listed out_listed
list-told (ok ids) count e = let i : count ≡ length ids = cc in rw i
list-told (refuse n p) count e = cc

-- out_bodied
pub body_refused : (m : Answer (List ℕ)) (y : Refusal) → Err y ≡ told_bodied m → out_refused y.number y.place ≡ out_bodied m
unfolding told_bodied out_bodied
body_refused (ok b) y e = cc
body_refused (refuse n p) y e = let i : y.number ≡ n = cc in let j : y.place ≡ p = cc in rw (i, j)

pub body-told : (m : Answer (List ℕ)) (count : ℕ) → Ok count ≡ told_bodied m → (0 ∷ 0 ∷ count ∷ 0 ∷ 0 ∷ 0 ∷ 0 ∷ 0 ∷ []) ≡ out_bodied m
unfolding told_bodied out_bodied
body-told (ok b) count e = let i : count ≡ length b = cc in rw i
body-told (refuse n p) count e = cc
