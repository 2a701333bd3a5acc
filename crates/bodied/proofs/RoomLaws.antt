-- What a call of `body` opens and leaves in the table: as every other question, or 1, or 31. Assumes nothing.
use Prim.Native.Nat.{ℕ, ◌≤◌, ◌<◌}
use mathlib.Core.Path.{◌≡◌, refl, sym, ◌∙◌}
use mathlib.Core.List.{List, ◌++◌}
use mathlib.Core.Bool.{Bool, true, false}
use lib.ListN.{length, drop, replicate}
use lib.Dec.{leb}
use borrow.Author.Tests.{le-leb, lt-leb}
use Rattle.fields.proofs.FieldLaws.{both, pick_yes, pick_no}
use Rattle.boxes.specs.Answer.{refuse, check, ◌>>◌}
use Rattle.rules.specs.Words.{table_words}
use Rattle.rules.specs.Opening.{accepted, opened, after_by, after}
use Rattle.bodied.specs.Body.{longest_body, opened_for, room_left}

module _ (head : List ℕ) (total : ℕ) (table : List ℕ) (room id : ℕ) where
  pub room-opened : 16402 ≤ room → opened_for (length table) room total head id ≡ opened (length table) total head
  unfolding opened_for opened check ◌>>◌
  room-opened h = rw (le-leb longest_body room h) (by (leb table_words (length table)))
    where
      by : (t : Bool) → ((check 1 0 t >> check 31 id true) >> accepted total head) ≡ (check 1 0 t >> accepted total head)
      by true = refl
      by false = refl

  pub table_opened : length table < 11280 → opened_for (length table) room total head id ≡ refuse 1 0
  unfolding opened_for check ◌>>◌
  table_opened h = rw (lt-leb table_words (length table) h)

  pub short-opened : 11280 ≤ length table → room < 16402 → opened_for (length table) room total head id ≡ refuse 31 id
  unfolding opened_for check ◌>>◌
  short-opened h k = rw (le-leb table_words (length table) h, lt-leb longest_body room k)

  pub room-left : (by : ℕ → List ℕ → List ℕ → List ℕ) → 16402 ≤ room → room_left by room total head table ≡ by total head table
  unfolding room_left
  room-left by h = pick_yes _ _ (le-leb longest_body room h)

  pub short-left : (by with : ℕ → List ℕ → List ℕ → List ℕ) → room < 16402 → room_left by room total head table ≡ room_left with room total head table
  unfolding room_left
  short-left by with h = pick_no _ _ (lt-leb longest_body room h) ∙ sym (pick_no _ _ (lt-leb longest_body room h))

  pub left_table : length table < 11280 → room_left after room total head table ≡ table
  unfolding room_left after_by
  left_table h = both (λ (l : List ℕ). l ≡ table) (leb longest_body room) _ _ (λ t. pick_no _ _ (lt-leb table_words (length table) h))
      (λ t. pick_no _ _ (lt-leb table_words (length table) h))

  pub left-cleared : 11280 ≤ length table → room < 16402 → room_left after room total head table ≡ replicate 11280 0 ++ drop 11280 table
  unfolding room_left
  left-cleared h k = pick_no _ _ (lt-leb longest_body room k) ∙ pick_yes _ _ (le-leb table_words (length table) h)
