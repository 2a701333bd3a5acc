-- What reading an `ipma` answers and leaves.
--   KeptIds t u     u is as long as t, the same past 11,280, and has the same IDs
--   NamesLeft       the table afterwards, where a file is read into it
use Rattle.std.specs.Prelude.{ℕ, ◌≤◌, ◌≡◌, List, [], ◌++◌}
use Rattle.boxes.specs.Answer.{Answer, ok}
use Rattle.contents.specs.Ipma.{IpmaEntry}
use Rattle.contents.specs.File.{File}
use Rattle.rules.specs.Places.{Places}
use Rattle.records.specs.inner.Raw.{raw_of}
use Rattle.records.specs.inner.Rows.{ids_in}
use Rattle.records.specs.inner.Stage.{Kept, Ready, with_names}

-- the table afterwards
pub record KeptIds (t u : List ℕ) : Type 0 where
  pub kept : Kept t u
  pub ids : (n : ℕ) → n ≤ 256 → ids_in u n ≡ ids_in t n

-- m is the answer of reading names into t, which has n items
pub record NamesLeft (m : Answer (List IpmaEntry)) (n : ℕ) (t u : List ℕ) : Type 0 where
  pub same : KeptIds t u
  pub told : (pl : Places) (f : File) (x : List ℕ) (ns : List IpmaEntry) → Ready f n → f.associations ≡ [] → m ≡ ok ns →
      t ≡ raw_of [] pl f ++ x → u ≡ raw_of [] pl (with_names f ns) ++ x
