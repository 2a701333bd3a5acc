-- What reading an `iref` answers and leaves.
--   target_count       the code's value for the references that were read
--   ReferencesLeft     the table afterwards: where references are read into the table of a file of n items that has none yet, theirs
use Rattle.std.specs.Prelude.{ℕ, ◌≡◌, List, [], ◌++◌}
use Rattle.boxes.specs.Answer.{ok}
use Rattle.contents.specs.Iinf.{ids_of}
use Rattle.contents.specs.Iref.{IrefContent, targets_in, references}
use Rattle.contents.specs.File.{File}
use Rattle.rules.specs.Places.{Places}
use Rattle.records.specs.inner.Raw.{raw_of}
use Rattle.records.specs.inner.Stage.{Kept, Ready, with_references}

abbrev pub target_count : IrefContent → ℕ
target_count c = targets_in c.derivations

pub record ReferencesLeft (s : List ℕ) (place base n : ℕ) (t u : List ℕ) : Type 0 where
  pub kept : Kept t u
  pub told : (pl : Places) (f : File) (x : List ℕ) (c : IrefContent) → Ready f n → f.derivations ≡ [] →
      references (ids_of f.items) place base s ≡ ok c → t ≡ raw_of [] pl f ++ x →
      u ≡ raw_of [] pl (with_references f c) ++ x
