-- The code's values for sources.
--   told_listed          the code's value for an answer: how many IDs there are, the IDs being in the list
use Rattle.std.specs.Prelude.{ℕ, List, length, Result, Ok, Err}
use Rattle.boxes.specs.Answer.{Answer, ok, refuse}
use Rattle.boxes.specs.declared.Refusal.{Refusal}

unfoldable pub told_listed : Answer (List ℕ) → Result ℕ Refusal
told_listed (ok ids) = Ok (length ids)
told_listed (refuse n p) = Err (record { number = n; place = p })
