-- A file that is opened: the rules of document 01 kept, refusal 1, the row of an item that is asked for (21, 22), and
-- what a call leaves in the table. Every question starts from here.
--   accepted total head            the file, or the first fault of 2 to 20
--   opened n total head            the same for a table of n words that is lent: 1 first
--   listed, pictured f id          the row of an item, of a picture
--   after total head table         what any of the questions leaves in the table
--   file_after total head table     the same in the order of `iinf`, as document 01 alone has it
use Rattle.std.specs.Prelude.{ℕ, List, ◌++◌, length, replicate, drop, leb}
use Rattle.fields.specs.Choice.{pick}
use Rattle.fields.specs.Lists.{member}
use Rattle.boxes.specs.Answer.{Answer, ok, refuse, check, ◌>>=◌, ◌>>◌}
use Rattle.boxes.specs.Types.{image}
use Rattle.contents.specs.Iinf.{ids_of}
use Rattle.contents.specs.File.{File, read_file}
use Rattle.rules.specs.Joined.{row_of, item_at}
use Rattle.rules.specs.Rules.{judged}
use Rattle.rules.specs.Words.{table_words, file_words, words_of}

unfoldable pub accepted : ℕ → List ℕ → Answer File
accepted total head = do
  f ← read_file total head
  judged total head f
  ok f

-- "table under 11,280 words" (1), "1, then 2"
unfoldable pub opened : ℕ → ℕ → List ℕ → Answer File
opened n total head = check 1 0 (leb table_words n) >> accepted total head

-- "asked item not listed" (21): its row
unfoldable pub listed : File → ℕ → Answer ℕ
listed f id = check 21 id (member id (ids_of f.items)) >> ok (row_of id f.items)

-- "asked item opaque (size, trace, sources)" (22)
unfoldable pub pictured : File → ℕ → Answer ℕ
pictured f id = do
  r ← listed f id
  check 22 id (image (item_at f r).type)
  ok r

-- "Refusal 1 writes nothing. Refusals 2 to 20 set the table's first 11,280 words to 0. With 21 to 25 the table is the
-- file's. .. Words past 11,280 are never written.", the file's words being laid out in one way or another
unfoldable pub left_by : (ℕ → List ℕ → File → List ℕ) → ℕ → List ℕ → List ℕ → Answer File → List ℕ
left_by words total head table (ok f) = words total head f ++ drop table_words table
left_by words total head table (refuse n p) = replicate table_words 0 ++ drop table_words table

unfoldable pub after_by : (ℕ → List ℕ → File → List ℕ) → ℕ → List ℕ → List ℕ → List ℕ
after_by words total head table = pick (leb table_words (length table)) (left_by words total head table (accepted total head)) table

abbrev pub after : ℕ → List ℕ → List ℕ → List ℕ
after = after_by words_of

-- the same by document 01 alone, the records in the order of `iinf`
abbrev pub file_after : ℕ → List ℕ → List ℕ → List ℕ
file_after = after_by file_words
