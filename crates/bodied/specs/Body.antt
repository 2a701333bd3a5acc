-- The body of a picture: document 02, Q-7. "A new question gives an image item's joined body, at most 16,402 bytes, in a lent buffer:
-- written only on success, body first, rest as before". What a body is stands in crates/rules/specs/Bytes.antt, and in words in Bodies.antt.
--   body_in total head f id          asked of an accepted file: 21, 22, then the body
--   opened_for n room total head id  as `opened`, 31 between 1 and 2: n words of table, room bytes of buffer
--   body n room total head id       the answer
--   buffer_after m buffer            what a call leaves in the buffer;   room_left left_by ..    in the table
use Rattle.std.specs.Prelude.{ℕ, List, [], ◌++◌, Bool, ◌||◌, length, replicate, drop, leb, eqb}
use Rattle.fields.specs.Choice.{pick}
use Rattle.boxes.specs.Answer.{Answer, ok, refuse, check, ◌>>=◌, ◌>>◌}
use Rattle.boxes.specs.Types.{grid, iovl}
use Rattle.contents.specs.File.{File}
use Rattle.rules.specs.Joined.{item_at}
use Rattle.rules.specs.Bytes.{body_of}
use Rattle.rules.specs.Words.{table_words}
use Rattle.rules.specs.Opening.{accepted, pictured}

abbrev pub longest_body : ℕ
longest_body = 16402

-- "for coded items and `iden` the length is 0"
abbrev pub has_body : ℕ → Bool
has_body type = eqb type grid || eqb type iovl

-- "22 in the new question for opaque items"
unfoldable pub body_in : ℕ → List ℕ → File → ℕ → Answer (List ℕ)
body_in total head f id = do
  r ← pictured f id
  pick (has_body (item_at f r).type) (body_of total head f (item_at f r).id) (ok [])

-- "31, body buffer under 16,402 bytes, in that question only, between 1 and 2"; its place is "the asked item's ID"
unfoldable pub opened_for : ℕ → ℕ → ℕ → List ℕ → ℕ → Answer File
opened_for n room total head id = check 1 0 (leb table_words n) >> check 31 id (leb longest_body room) >> accepted total head

unfoldable pub body : ℕ → ℕ → ℕ → List ℕ → ℕ → Answer (List ℕ)
body n room total head id = opened_for n room total head id >>= (λ f. body_in total head f id)

unfoldable pub buffer_after : Answer (List ℕ) → List ℕ → List ℕ
buffer_after (ok b) buffer = b ++ drop (length b) buffer
buffer_after (refuse n p) buffer = buffer

-- 31 leaves the table as 2 to 20 do: "Those placed after 20 leave the file's table, earlier ones set it to 0." (document 02, Q-3)
unfoldable pub room_left : (ℕ → List ℕ → List ℕ → List ℕ) → ℕ → ℕ → List ℕ → List ℕ → List ℕ
room_left left_by room total head table =
    pick (leb longest_body room) (left_by total head table)
    (pick (leb table_words (length table)) (replicate table_words 0 ++ drop table_words table) table)
