-- A record of nine numbers with its answer: what the code's answer says of them, and where a refusal is. Assumes nothing.
use Prim.Native.Nat.{ℕ, ◌<◌, ◌%◌}
use native.Mathlib.Nat.{mod-eq_of_lt}
use mathlib.Core.Path.{◌≡◌, refl}
use mathlib.Core.List.{List, [], ◌∷◌, map}
use mathlib.Core.Bool.{Bool, true, false}
use Rattle.std.specs.Prelude.{Result, Ok, Err}
use Rattle.table.specs.declared.ItemId.{ItemId}
use Rattle.boxes.specs.Answer.{Answer, ok, refuse, check, ◌>>=◌, ◌>>◌}
use Rattle.boxes.specs.declared.Refusal.{Refusal}
use Rattle.contents.specs.File.{File}
use Rattle.pictures.specs.declared.Point.{Point}
use Rattle.pictures.specs.Scene.{Scene}
use Rattle.rules.specs.Derivations.{scene_of}
use Rattle.rules.specs.Opening.{pictured}
use Rattle.questions.specs.Questions.{trace_in}
use Rattle.questions.specs.Questions as Q
use Rattle.traced.specs.Told.{told_found, told_traced, end_number}
use Rattle.traced.specs.declared.Traced.{Traced}
use Rattle.traced.specs.declared.Traced.TheVariants as traces
use Rattle.seam.specs.Points.{told_points_filled}
use Rattle.seam.specs.Numbers.{found_numbers, answered_numbers, numbers_after}
use Rattle.seam.specs.inner.Hand.{PlaceFits}

-- found_numbers
pub numbers_refused : (m : Answer Q.Found) (y : Refusal) → Err y ≡ told_traced m → PlaceFits m →
    (y.number ∷ y.place % 4294967296 ∷ 0 ∷ 0 ∷ 0 ∷ 0 ∷ 0 ∷ []) ≡ found_numbers m
unfolding told_traced found_numbers
numbers_refused (ok f) y e h = cc
numbers_refused (refuse n p) y e h =
    let i : y.number ≡ n = cc in let j : y.place ≡ p = cc in rw (i, j, mod-eq_of_lt h)

module _ (i : ItemId) (x y n : ℕ) where
  pub numbers_pixel : (m : Answer Q.Found) → Ok (traces.Pixel i x y n) ≡ told_traced m → (0 ∷ 0 ∷ 1 ∷ i.0 ∷ x ∷ y ∷ n ∷ []) ≡ found_numbers m
  unfolding told_traced told_found found_numbers end_number
  numbers_pixel (ok f) e = by f.is_fill e
    where
      by : (b : Bool) → ◌≡◌ {A = Result Traced Refusal} (Ok (traces.Pixel i x y n)) (Ok (told_found b f)) → (0 ∷ 0 ∷ 1 ∷ i.0 ∷ x ∷ y ∷ n ∷ []) ≡
          (0 ∷ 0 ∷ end_number b ∷ f.item ∷ f.at.x ∷ f.at.y ∷ f.passed ∷ [])
      by false e = cc
      by true e = cc
  numbers_pixel (refuse k p) e = cc

  pub numbers_fill : (m : Answer Q.Found) → Ok (traces.Fill i x y n) ≡ told_traced m → (0 ∷ 0 ∷ 2 ∷ i.0 ∷ x ∷ y ∷ n ∷ []) ≡ found_numbers m
  unfolding told_traced told_found found_numbers end_number
  numbers_fill (ok f) e = by f.is_fill e
    where
      by : (b : Bool) → ◌≡◌ {A = Result Traced Refusal} (Ok (traces.Fill i x y n)) (Ok (told_found b f)) → (0 ∷ 0 ∷ 2 ∷ i.0 ∷ x ∷ y ∷ n ∷ []) ≡
          (0 ∷ 0 ∷ end_number b ∷ f.item ∷ f.at.x ∷ f.at.y ∷ f.passed ∷ [])
      by false e = cc
      by true e = cc
  numbers_fill (refuse k p) e = cc

-- PlaceFits: a trace of a picture is refused at the asked ID
module _ (s : Scene) (f : File) (id : ℕ) (few : id < 4294967296) (p : Point) where
  check-fits : (n : ℕ) (b : Bool) (x : Q.Found) → PlaceFits (check n id b >> ok x)
  unfolding check ◌>>◌
  check-fits n true x = tt
  check-fits n false x = few

  pub trace-fits : (r : ℕ) → pictured f id ≡ ok r → PlaceFits (trace_in s f id p)
  unfolding trace_in ◌>>=◌
  trace-fits r e = rw e (check-fits 23 _ _)

-- how a record is answered
abbrev pub by_trace : List ℕ → ℕ → File → ℕ → List ℕ → List ℕ
by_trace head total f id = answered_numbers (λ p. trace_in (scene_of total head f) f id p)

-- numbers_after: no record, or all of them
module _ (by : Point → Answer Q.Found) (rs : List (List ℕ)) where
  pub numbers_kept : (m : Answer ℕ) (y : Refusal) → Err y ≡ told_points_filled m → rs ≡ numbers_after m by rs
  unfolding told_points_filled numbers_after
  numbers_kept (ok k) y e = cc
  numbers_kept (refuse n p) y e = refl

  pub numbers_put : (m : Answer ℕ) (n : ℕ) → Ok n ≡ told_points_filled m → map (answered_numbers by) rs ≡ numbers_after m by rs
  unfolding told_points_filled numbers_after
  numbers_put (ok k) n e = refl
  numbers_put (refuse k p) n e = cc
