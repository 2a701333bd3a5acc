-- What the code returns where the definitions have an answer: its value as Ok; its refusal as Err, since "A refusal returns number and place."
--   told f m    f of m's value, or m's refusal
use Rattle.std.specs.Prelude.{Result, Ok, Err}
use Rattle.boxes.specs.Answer.{Answer, ok, refuse}
use Rattle.boxes.specs.declared.Refusal.{Refusal}

unfoldable pub told : {A B : Type 0} → (A → B) → Answer A → Result B Refusal
told f (ok a) = Ok (f a)
told f (refuse n p) = Err (record { number = n; place = p })
