-- The records as C lends them, nine numbers each: x, y, then number, place, kind (1 pixel, 2 fill, 0 none), item, x there,
-- y there, items passed.
--   found_numbers m              the last seven of them for an answer
--   answered_numbers trace r     a record with its answer
--   numbers_after                what a call leaves in the records
use Rattle.std.specs.Prelude.{ℕ, List, [], ◌∷◌, map, get_or}
use Rattle.boxes.specs.Answer.{Answer, ok, refuse}
use Rattle.pictures.specs.declared.Point.{Point}
use Rattle.pictures.specs.Turn.{point}
use Rattle.questions.specs.Questions as Q
use Rattle.traced.specs.Told.{end_number}

unfoldable pub found_numbers : Answer Q.Found → List ℕ
found_numbers (ok e) = 0 ∷ 0 ∷ end_number e.is_fill ∷ e.item ∷ e.at.x ∷ e.at.y ∷ e.passed ∷ []
found_numbers (refuse n p) = n ∷ p ∷ 0 ∷ 0 ∷ 0 ∷ 0 ∷ 0 ∷ []

-- x and y stay
abbrev pub answered_numbers : (Point → Answer Q.Found) → List ℕ → List ℕ
answered_numbers trace r = get_or r 0 0 ∷ get_or r 1 0 ∷ found_numbers (trace (point (get_or r 0 0) (get_or r 1 0)))

unfoldable pub numbers_after : Answer ℕ → (Point → Answer Q.Found) → List (List ℕ) → List (List ℕ)
numbers_after (ok n) trace rs = map (answered_numbers trace) rs
numbers_after (refuse n p) trace rs = rs
