-- What a property's question answers, in the code's values.
--   index_of n total head id k     which property the association k of an item names, of any file: 1 to 21, then 25
--   told_part, told_fault  the part that is returned, empty where it is refused, and the two numbers that carry the refusal:
--                        number and place, 0 and 0 where there is none
use Rattle.std.specs.Prelude.{ℕ, List, [], ◌∷◌}
use Rattle.boxes.specs.Answer.{Answer, ok, refuse, ◌>>=◌}
use Rattle.rules.specs.Opening as Opening
use Rattle.questions.specs.Questions as Q
use Rattle.asked.specs.Told.{index_in}

-- what is asked of any head: 1 to 21, then 25
unfoldable pub index_of : ℕ → ℕ → List ℕ → ℕ → ℕ → Answer ℕ
index_of n total head id k = Opening.opened n total head >>= (λ f. index_in f id k)

unfoldable pub told_part : Answer Q.Part → List ℕ
told_part (ok p) = p.bytes
told_part (refuse n p) = []

-- number and place
unfoldable pub told_fault : Answer Q.Part → List ℕ
told_fault (ok p) = 0 ∷ 0 ∷ []
told_fault (refuse n p) = n ∷ p ∷ []
