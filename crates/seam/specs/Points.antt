-- Document 02, Q-4: "A whole row of pixels at once".
--   points_in f id n             how many of n records are filled, of an accepted file: 21, 22, then 28
--   points n total head id k    the same of any head; n is the length of the table that is lent, k how many records are
--   single_trace n total head id p    what a single trace of the point p answers
--   answered trace r            a record with its answer
--   records_after                what a call leaves in the records
--   told_points_filled          the code's value for an answer
use Rattle.std.specs.Prelude.{ℕ, List, map, leb, Result, Ok, Err}
use Rattle.boxes.specs.Answer.{Answer, ok, refuse, check, ◌>>=◌, ◌>>◌}
use Rattle.boxes.specs.declared.Refusal.{Refusal}
use Rattle.contents.specs.File.{File}
use Rattle.pictures.specs.declared.Point.{Point}
use Rattle.pictures.specs.Turn.{point}
use Rattle.rules.specs.Opening.{opened, pictured}
use Rattle.questions.specs.Questions as Q
use Rattle.traced.specs.declared.Traced.{Traced}
use Rattle.traced.specs.Told.{told_traced}
use Rattle.seam.specs.declared.PointRecord.{PointRecord}

-- "Refusals 1 to 22 and a list over 512 (28, after 22)"
unfoldable pub points_in : File → ℕ → ℕ → Answer ℕ
points_in f id n = do
  r ← pictured f id
  check 28 id (leb n 512)
  ok n

unfoldable pub points : ℕ → ℕ → List ℕ → ℕ → ℕ → Answer ℕ
points n total head id k = opened n total head >>= (λ f. points_in f id k)

-- "The result equals single traces of the same points. A point outside the picture gets 23 in its own record"
abbrev pub single_trace : ℕ → ℕ → List ℕ → ℕ → Point → Result Traced Refusal
single_trace n total head id p = told_traced (Q.trace n total head id p)

-- "point records, each holding x and y and room for its trace answer": x and y stay
abbrev pub answered : (Point → Result Traced Refusal) → PointRecord → PointRecord
answered trace r = record { x = r.x; y = r.y; answer = trace (point r.x r.y) }

-- "fill them in order"; "Refusals .. change no record"
unfoldable pub records_after : Answer ℕ → (Point → Result Traced Refusal) → List PointRecord → List PointRecord
records_after (ok n) trace rs = map (answered trace) rs
records_after (refuse n p) trace rs = rs

unfoldable pub told_points_filled : Answer ℕ → Result ℕ Refusal
told_points_filled (ok n) = Ok n
told_points_filled (refuse n p) = Err (record { number = n; place = p })
