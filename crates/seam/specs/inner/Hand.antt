-- Between the functions of the house: what is at hand where points are answered, and records answered as far as one.
--   AtHand head total t rows    t is the table of the accepted file in the head, and rows has the row of each target
--   count_of r                   how many records are to be filled
--   PlaceFits m                 a refusal's place has 32 bits
--   answered_to by n rs          the first n records answered by a function, the others as they were; records of whichever kind
use Rattle.std.specs.Prelude.{ℕ, zero, suc, ◌<◌, ◌≡◌, List, [], ◌∷◌, length, Result, Ok, Err}
use Rattle.boxes.specs.Answer.{Answer, ok, refuse}
use Rattle.boxes.specs.declared.Refusal.{Refusal}
use Rattle.contents.specs.File.{File}
use Rattle.rules.specs.Opening.{opened}
use Rattle.questions.specs.Questions as Q
use Rattle.tracing.specs.inner.Told.{Shown}

pub record AtHand (head : List ℕ) (total : ℕ) (t rows : List ℕ) : Type 0 where
  pub file : File
  pub opens : opened (length t) total head ≡ ok file
  pub shown : Shown t rows head total file

unfoldable pub count_of : Result ℕ Refusal → ℕ
count_of (Ok n) = n
count_of (Err x) = 0

abbrev pub PlaceFits : Answer Q.Found → Type 0
PlaceFits (ok e) = Unit {0}
PlaceFits (refuse n p) = p < 4294967296

unfoldable pub answered_to : {A : Type 0} → (A → A) → ℕ → List A → List A
answered_to by zero rs = rs
answered_to by (suc n) [] = []
answered_to by (suc n) (r ∷ rs) = by r ∷ answered_to by n rs
