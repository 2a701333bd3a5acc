-- A refusal that is told is the answer's. Assumes nothing.
use Prim.Native.Nat.{ℕ}
use mathlib.Core.Path.{◌≡◌, refl, sym, ap, ◌∙◌}
use mathlib.Core.List.{List, [], ◌∷◌}
use Rattle.std.specs.Prelude.{Result, Ok, Err}
use Rattle.boxes.specs.declared.Refusal.{Refusal}
use Rattle.boxes.specs.Answer.{Answer, ok, refuse}
use Rattle.questions.specs.Questions as Q
use Rattle.facing.specs.Orientation.{Transform}
use Rattle.facing.specs.Told.{told_oriented, told_transforms}
use Rattle.asked.specs.Told.{told_verdict, told_sized}
use Rattle.traced.specs.Told.{told_traced}
use Rattle.seam.specs.Points.{told_points_filled}
use Rattle.sourced.specs.Told.{told_listed}
use Rattle.bodied.specs.Told.{told_bodied}

-- what an answer of any kind is, told by a function that tells refusals as Err and nothing else so
told-refused : {A B : Type 0} (told : Answer A → Result B Refusal) → ((x : A) (y : Refusal) → told (ok x) ≡ Err y → ⊥) →
    ((n p : ℕ) → told (refuse n p) ≡ Err (record { number = n; place = p })) → (m : Answer A) (y : Refusal) → told m ≡ Err y →
    m ≡ refuse y.number y.place
told-refused told apart same (ok x) y e = absurd (apart x y e)
told-refused told apart same (refuse n p) y e =
    let f = sym (same n p) ∙ e in
    let k : record { number = n; place = p } ≡ y = cc in
    ap (λ (x : Refusal). refuse x.number x.place) k

pub verdict-told : (m : Answer Q.Verdict) (y : Refusal) → told_verdict m ≡ Err y → m ≡ refuse y.number y.place
unfolding told_verdict
verdict-told = told-refused told_verdict (λ x y e. cc) (λ n p. refl)

pub size-told : (m : Answer Q.Sized) (y : Refusal) → told_sized m ≡ Err y → m ≡ refuse y.number y.place
unfolding told_sized
size-told = told-refused told_sized (λ x y e. cc) (λ n p. refl)

pub trace-told : (m : Answer Q.Found) (y : Refusal) → told_traced m ≡ Err y → m ≡ refuse y.number y.place
unfolding told_traced
trace-told = told-refused told_traced (λ x y e. cc) (λ n p. refl)

pub points-told : (m : Answer ℕ) (y : Refusal) → told_points_filled m ≡ Err y → m ≡ refuse y.number y.place
unfolding told_points_filled
points-told = told-refused told_points_filled (λ x y e. cc) (λ n p. refl)

-- and a count that is told
pub points-all : (m : Answer ℕ) (n : ℕ) → told_points_filled m ≡ Ok n → m ≡ ok n
unfolding told_points_filled
points-all (ok k) n e = let i : k ≡ n = cc in rw i
points-all (refuse k p) n e = cc

pub sources-told : (m : Answer (List ℕ)) (y : Refusal) → told_listed m ≡ Err y → m ≡ refuse y.number y.place
unfolding told_listed
sources-told = told-refused told_listed (λ x y e. cc) (λ n p. refl)

pub body-told : (m : Answer (List ℕ)) (y : Refusal) → told_bodied m ≡ Err y → m ≡ refuse y.number y.place
unfolding told_bodied
body-told = told-refused told_bodied (λ x y e. cc) (λ n p. refl)

pub orientation-told : (m : Answer ℕ) (y : Refusal) → told_oriented m ≡ Err y → m ≡ refuse y.number y.place
unfolding told_oriented
orientation-told = told-refused told_oriented (λ x y e. cc) (λ n p. refl)

-- and an orientation that is told
pub orientation-is : (m : Answer ℕ) (n : ℕ) → told_oriented m ≡ Ok n → m ≡ ok n
unfolding told_oriented
orientation-is (ok k) n e = let i : k ≡ n = cc in rw i
orientation-is (refuse k p) n e = cc

list-told : (x : List Transform) (y : Refusal) → told_transforms (ok x) ≡ Err y → ⊥
unfolding told_transforms
list-told [] y e = cc
list-told (a ∷ []) y e = cc
list-told (a ∷ (b ∷ x)) y e = cc

pub transforms-told : (m : Answer (List Transform)) (y : Refusal) → told_transforms m ≡ Err y → m ≡ refuse y.number y.place
unfolding told_transforms
transforms-told = told-refused told_transforms list-told (λ n p. refl)
