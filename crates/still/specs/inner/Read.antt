-- What a question promises before the records are put in rising ID order: its answer, the table in the order of `iinf`, and
-- the rows that `arranged::arrange` goes by.
--   OrderGiven head total table rows     rows has the order of an accepted file's records
--   AskedRead, PropertyRead              AskedGiven and PropertyGiven with the table in the order of `iinf`
use Rattle.std.specs.Prelude.{ℕ, ◌≤◌, ◌≡◌, List, length, Result}
use Rattle.table.specs.declared.PropertyIndex.{PropertyIndex}
use Rattle.boxes.specs.Answer.{ok}
use Rattle.boxes.specs.declared.Refusal.{Refusal}
use Rattle.contents.specs.File.{File}
use Rattle.rules.specs.Opening.{accepted, file_after}
use Rattle.arranged.specs.inner.Order.{InOrder}
use Rattle.questions.specs.Questions as Q
use Rattle.asked.specs.Told.{told_asked}
use Rattle.still.specs.Told.{index_of, told_part, told_fault}

module _ (head : List ℕ) (total : ℕ) (table : List ℕ) where
  abbrev pub OrderGiven : List ℕ → Type 0
  OrderGiven rows = 11280 ≤ length table → (f : File) → accepted total head ≡ ok f → InOrder rows f

  abbrev pub AskedRead : ℕ → ℕ → Result PropertyIndex Refusal → List ℕ → Type 0
  AskedRead id k r left = (r ≡ told_asked (index_of (length table) total head id k)) × (left ≡ file_after total head table)

  abbrev pub PropertyRead : ℕ → ℕ → List ℕ → List ℕ → List ℕ → Type 0
  PropertyRead id k part told left =
      (part ≡ told_part (Q.property (length table) total head id k))
      × ((told ≡ told_fault (Q.property (length table) total head id k)) × (left ≡ file_after total head table))
