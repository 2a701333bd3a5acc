-- The question of a body: document 02, Q-7. "A new question gives an image item's joined body, at most 16,402 bytes, in a lent buffer:
-- written only on success, body first, rest as before; for coded items and `iden` the length is 0." room is how long the buffer is.
--   GoodBody total head f id b       what is answered of a file that keeps the rules
--   BodyCall .. n p left             a call that is refused by n at p, as `Call`, with one reason more, 31
--   BodyOutcome, BodyRefuses, BodyDecided    demand 1, as `Outcome`, `Refuses` and `Decided`
use Rattle.std.specs.Prelude.{ℕ, ◌≤◌, ◌<◌, ◌≡◌, List, [], ◌++◌, true, ◌⊎◌, length, replicate, drop}
use Rattle.boxes.specs.Answer.{Answer, ok, refuse}
use Rattle.boxes.specs.Types.{grid, iovl, iden, coded}
use Rattle.contents.specs.File.{File}
use Rattle.rules.specs.Joined.{row_of, item_at}
use Rattle.rules.specs.Bodies.{ItsBody}
use Rattle.rules.specs.Words.{words_of}
use Rattle.bodied.specs.Body.{body_in}
use Rattle.faults.specs.Good.{GoodFile}
use Rattle.demands.specs.Call.{IsPicture, SizeUnmet, Call}

abbrev pub type_of : File → ℕ → ℕ
type_of f id = (item_at f (row_of id f.items)).type

-- b is the body of the item id: its joined bytes (`ItsBody`, crates/rules/specs/Bodies.antt), or nothing
pub record GoodBody (total : ℕ) (head : List ℕ) (f : File) (id : ℕ) (b : List ℕ) : Type 0 where
  pub picture : IsPicture f id
  pub few : length b ≤ 16402
  pub joined : (type_of f id ≡ grid) ⊎ (type_of f id ≡ iovl) → ItsBody total head f id b
  pub none : (coded (type_of f id) ≡ true) ⊎ (type_of f id ≡ iden) → b ≡ []

-- "31, body buffer under 16,402 bytes, in that question only, between 1 and 2". Its place is the asked ID, and it leaves the table as 2 to
-- 20 do. "22 in the new question for opaque items"
pub data BodyCall (head : List ℕ) (total : ℕ) (table : List ℕ) (room id n p : ℕ) (left : List ℕ) : Type 0 where
  no_table : length table < 11280 → n ≡ 1 → p ≡ 0 → left ≡ table → BodyCall head total table room id n p left
  no_room : 11280 ≤ length table → room < 16402 → n ≡ 31 → p ≡ id → left ≡ replicate 11280 0 ++ drop 11280 table →
      BodyCall head total table room id n p left
  as_others : 16402 ≤ room → Call head total table (λ f n p. SizeUnmet f id n × (p ≡ id)) n p left → BodyCall head total table room id n p left

module _ (head : List ℕ) (total : ℕ) (table : List ℕ) (room id : ℕ) {B : Type 0} (told : Answer (List ℕ) → B) where
  pub data BodyOutcome (r : B) (left : List ℕ) : Type 0 where
    answered : 11280 ≤ length table → 16402 ≤ room → (f : File) → GoodFile total head f → (b : List ℕ) → body_in total head f id ≡ ok b →
        r ≡ told (ok b) → left ≡ words_of total head f ++ drop 11280 table → BodyOutcome r left
    refused : (n p : ℕ) → r ≡ told (refuse n p) → BodyCall head total table room id n p left → BodyOutcome r left

  abbrev pub BodyRefuses : B → List ℕ → Type 0
  BodyRefuses r left = (n p : ℕ) (words : List ℕ) → BodyCall head total table room id n p words → (r ≡ told (refuse n p)) × (left ≡ words)

  abbrev pub BodyDecided : B → List ℕ → Type 0
  BodyDecided r left = BodyOutcome r left × BodyRefuses r left
