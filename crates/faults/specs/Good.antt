-- Demand 2.
--   GoodFile total head f      without reading: f is a structure that the bytes spell (2 to 11), and it has no fault (12 to 20, 29, 30)
--   Refused total head n p     where it is refused: its first fault of 2 to 11, which the bytes show; or the bytes spell a file,
--                              and the refusal is its first fault of 12 to 20, 29 and 30
use Rattle.std.specs.Prelude.{ℕ, ◌≡◌, List}
use Rattle.contents.specs.File.{File}
use Rattle.contents.specs.Keeps.{FileIn}
use Rattle.contents.specs.Breaks.{Broken}
use Rattle.faults.specs.Fault.{Number, rule_of, Fault}
use Rattle.faults.specs.Order.{First}

pub record GoodFile (total : ℕ) (head : List ℕ) (f : File) : Type 0 where
  pub spelled : FileIn total head f
  pub no_fault : (n : Number) (r : ℕ) → Fault total head f n r → ⊥

pub data Refused (total : ℕ) (head : List ℕ) (n p : ℕ) : Type 0 where
  unread : Broken total head n p → Refused total head n p
  at_fault : (f : File) (k : Number) (r : ℕ) → FileIn total head f → First total head f k r →
      n ≡ (rule_of total head f k).number → p ≡ (rule_of total head f k).place r → Refused total head n p
