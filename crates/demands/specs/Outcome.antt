-- Demand 1 as one alternative: every call, on any bytes, answers or refuses by number and place.
--   Outcome .. r left      a call that returns r and leaves the table `left`: answered, and then the file keeps the rules
--                          and r tells the answer; or refused, and then `Call` says why
--   Refuses .. r left      the other way: each reason of `Call` makes the call return just its number and place, and leave
--                          just its table
--   Decided .. r left      both. The second is said beside the first so that nobody has to see that the reasons of `Call`
--                          exclude each other and an answer
-- asked: what is asked of a file that keeps the rules; told: what an answer is for the caller, a value or eight numbers.
use Rattle.std.specs.Prelude.{ℕ, ◌≤◌, ◌≡◌, List, ◌++◌, length, drop}
use Rattle.boxes.specs.Answer.{Answer, ok, refuse}
use Rattle.contents.specs.File.{File}
use Rattle.rules.specs.Words.{words_of}
use Rattle.faults.specs.Good.{GoodFile}
use Rattle.demands.specs.Call.{Call}

module _ (head : List ℕ) (total : ℕ) (table : List ℕ) {A B : Type 0} (asked : File → Answer A) (told : Answer A → B)
    (Unmet : File → ℕ → ℕ → Type 0) where
  pub data Outcome (r : B) (left : List ℕ) : Type 0 where
    answered : 11280 ≤ length table → (f : File) → GoodFile total head f → (a : A) → asked f ≡ ok a → r ≡ told (ok a) →
        left ≡ words_of total head f ++ drop 11280 table → Outcome r left
    refused : (n p : ℕ) → r ≡ told (refuse n p) → Call head total table Unmet n p left → Outcome r left

  abbrev pub Refuses : B → List ℕ → Type 0
  Refuses r left = (n p : ℕ) (words : List ℕ) → Call head total table Unmet n p words → (r ≡ told (refuse n p)) × (left ≡ words)

  abbrev pub Decided : B → List ℕ → Type 0
  Decided r left = Outcome r left × Refuses r left
