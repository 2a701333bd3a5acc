-- The code's value for a body.
--   told_bodied          the code's value for an answer: its length, the bytes being in the buffer
use Rattle.std.specs.Prelude.{ℕ, List, length, Result, Ok, Err}
use Rattle.boxes.specs.Answer.{Answer, ok, refuse}
use Rattle.boxes.specs.declared.Refusal.{Refusal}

unfoldable pub told_bodied : Answer (List ℕ) → Result ℕ Refusal
told_bodied (ok b) = Ok (length b)
told_bodied (refuse n p) = Err (record { number = n; place = p })
