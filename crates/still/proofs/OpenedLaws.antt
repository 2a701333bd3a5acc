-- A question, from opening to the answer. Assumes nothing.
--   off     the file is refused, and so is the question
--   on      or accepted: what is asked of the file is asked of any head
use Prim.Native.Nat.{ℕ}
use mathlib.Core.Path.{◌≡◌, sym, ap}
use Rattle.boxes.specs.Answer.{Answer, ok, refuse, ◌>>=◌}

-- m is what opening gives, k what is asked of the file, and g tells the answer, or what it leaves of what was lent
module _ {A B C : Type 0} (g : Answer B → C) (m : Answer A) (k : A → Answer B) where
  pub off : (n p : ℕ) → m ≡ refuse n p → g (refuse n p) ≡ g (m >>= k)
  unfolding ◌>>=◌
  off n p e = sym (ap (λ (o : Answer A). g (o >>= k)) e)

  pub on : (a : A) → m ≡ ok a → g (k a) ≡ g (m >>= k)
  unfolding ◌>>=◌
  on a e = sym (ap (λ (o : Answer A). g (o >>= k)) e)
