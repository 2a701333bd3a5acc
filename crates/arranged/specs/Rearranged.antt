-- Document 02, Q-6: "Keep the item records in rising ID order, and put each item's place in `iinf` (from 0) in the record's
-- sixteenth word. .. Show that the new table is the old one rearranged".
--   Rearranged n old new           what that says of two tables with n item records
--   RearrangedAfter total head before    what a call leaves in the table before and since Q-6
use Rattle.std.specs.Prelude.{ℕ, ◌+◌, ◌*◌, ◌≤◌, ◌<◌, ◌≡◌, List, ◌⊎◌, length, get_or}
use Rattle.boxes.specs.Answer.{ok, refuse}
use Rattle.contents.specs.File.{File}
use Rattle.rules.specs.Opening.{accepted, after, file_after}

pub record Rearranged (n : ℕ) (old new : List ℕ) : Type 0 where
  -- "0 to 15: item .. counts": both tables have n records, at most "256 item records of 16 words", "From 16"
  pub few : n ≤ 256
  pub count : get_or old 0 0 ≡ n
  -- "the new table is the old one rearranged": the row in which the record now stands that stood in row i, the item's
  -- place in `iinf`; no two records have one row, and no row is left
  pub row : ℕ → ℕ
  pub inside : (i : ℕ) → i < n → row i < n
  pub once : (i j : ℕ) → i < n → j < n → row i ≡ row j → i ≡ j
  pub onto : (k : ℕ) → k < n → (i : ℕ) × (i < n) × (row i ≡ k)
  -- a record is moved whole: its first fifteen words ..
  pub moved : (i c : ℕ) → i < n → c < 15 → get_or new (16 + 16 * row i + c) 0 ≡ get_or old (16 + 16 * i + c) 0
  -- .. and "put each item's place in `iinf` (from 0) in the record's sixteenth word"
  pub placed : (i : ℕ) → i < n → get_or new (16 + 16 * row i + 15) 0 ≡ i
  -- "Keep the item records in rising ID order": the first word of a record is the item's ID
  pub rising : (j k : ℕ) → j < k → k < n → get_or new (16 + 16 * j) 0 < get_or new (16 + 16 * k) 0
  -- every other word, before the records and behind the last of them, is the same, and so is how many there are
  pub same : (i : ℕ) → (i < 16) ⊎ (16 + 16 * n ≤ i) → get_or new i 0 ≡ get_or old i 0
  pub long : length new ≡ length old

-- What a call leaves (`after`) is what document 01 alone has it leave (`file_after`), rearranged. Of a file that is refused,
-- and in a table that is too short, there is nothing to rearrange.
pub record RearrangedAfter (total : ℕ) (head before : List ℕ) : Type 0 where
  pub accepts : (f : File) → 11280 ≤ length before → accepted total head ≡ ok f →
      Rearranged (length f.items) (file_after total head before) (after total head before)
  pub refuses : (n p : ℕ) → accepted total head ≡ refuse n p → after total head before ≡ file_after total head before
  pub short : length before < 11280 → after total head before ≡ file_after total head before
