-- What opening a file answers, in the code's values, and what it promises whole.
--   told_opened       the code's value for an answer
--   OpenedGiven      for all heads, totals and tables: r is returned, `left` is the table afterwards
use Rattle.std.specs.Prelude.{ℕ, ◌≡◌, List, length, Result}
use Rattle.boxes.specs.Answer.{Answer}
use Rattle.boxes.specs.Told.{told}
use Rattle.boxes.specs.declared.Refusal.{Refusal}
use Rattle.contents.specs.File.{File}
use Rattle.rules.specs.Opening as Opening

abbrev pub told_opened : Answer File → Result (Unit {0}) Refusal
told_opened = told (λ (f : File). tt)

module _ (head : List ℕ) (total : ℕ) (table : List ℕ) where
  abbrev pub OpenedGiven : Result (Unit {0}) Refusal → List ℕ → Type 0
  OpenedGiven r left = (r ≡ told_opened (Opening.opened (length table) total head)) × (left ≡ Opening.file_after total head table)
