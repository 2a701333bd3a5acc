-- The code's values for traces.
--   end_row              the row in which a trace ends
--   told_traced          the code's value for an answer
use Rattle.std.specs.Prelude.{ℕ, Bool, true, false, Result, Ok, Err}
use Rattle.boxes.specs.Answer.{Answer, ok, refuse}
use Rattle.boxes.specs.declared.Refusal.{Refusal}
use Rattle.pictures.specs.Trace as Trace
use Rattle.questions.specs.Questions as Q
use Rattle.traced.specs.declared.Traced.{Traced}
use Rattle.traced.specs.declared.Traced.TheVariants as traced

-- the row in which a trace ends
abbrev pub end_row : Trace.End → ℕ
end_row (Trace.pixel i p) = i
end_row (Trace.fill i p) = i

unfoldable pub told_found : Bool → Q.Found → Traced
told_found false e = traced.Pixel (record { 0 = e.item }) e.at.x e.at.y e.passed
told_found true e = traced.Fill (record { 0 = e.item }) e.at.x e.at.y e.passed

unfoldable pub told_traced : Answer Q.Found → Result Traced Refusal
told_traced (ok e) = Ok (told_found e.is_fill e)
told_traced (refuse n p) = Err (record { number = n; place = p })

-- "pixel or fill": 1 stands for a pixel, 2 for a fill, where an answer is numbers
unfoldable pub end_number : Bool → ℕ
end_number false = 1
end_number true = 2
