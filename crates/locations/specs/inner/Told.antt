-- What reading an `iloc` builds on and leaves.
--   Unplaced t n      what the code builds on: the n items of the table t have n IDs, and none has an entry yet
--   LocationsLeft     the table afterwards: where entries are read into the table of a file of n items that has none yet, theirs
use Rattle.std.specs.Prelude.{ℕ, ◌+◌, ◌*◌, ◌<◌, ◌≡◌, List, [], ◌++◌, get_or}
use Rattle.boxes.specs.Answer.{ok}
use Rattle.forms.specs.Form.{whole}
use Rattle.contents.specs.Iinf.{ids_of}
use Rattle.contents.specs.Iloc.{Location, iloc_form}
use Rattle.contents.specs.File.{File}
use Rattle.rules.specs.Places.{Places}
use Rattle.records.specs.inner.Raw.{raw_of}
use Rattle.records.specs.inner.Rows.{Distinct, ids_in}
use Rattle.records.specs.inner.Stage.{Kept, Ready, with_locations}

pub record Unplaced (t : List ℕ) (n : ℕ) : Type 0 where
  pub distinct : Distinct (ids_in t n)
  pub none : (k : ℕ) → k < n → get_or t (16 + 16 * k + 11) 0 ≡ 0

pub record LocationsLeft (s : List ℕ) (place n idat : ℕ) (t u : List ℕ) : Type 0 where
  pub kept : Kept t u
  pub told : (pl : Places) (f : File) (x : List ℕ) (ls : List Location) → pl.idat ≡ idat → Ready f n →
      f.locations ≡ [] → whole (iloc_form (ids_of f.items)) place s ≡ ok ls → t ≡ raw_of [] pl f ++ x →
      u ≡ raw_of [] pl (with_locations f ls) ++ x
