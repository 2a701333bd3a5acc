-- What reading an `iprp` answers and leaves.
--   shown_of          what the code counts of a content
--   ShownLeft         the table afterwards: where properties and associations are read into the table of a file of n items that has none yet, theirs
use Rattle.std.specs.Prelude.{ℕ, ◌+◌, ◌≡◌, List, [], ◌++◌, length}
use Rattle.boxes.specs.Answer.{ok}
use Rattle.boxes.specs.Box.{head_of}
use Rattle.contents.specs.Iinf.{ids_of}
use Rattle.contents.specs.Ipma.{associations_in}
use Rattle.contents.specs.Iprp.{IprpContent, iprp_content}
use Rattle.contents.specs.File.{File}
use Rattle.rules.specs.Places.{Places}
use Rattle.records.specs.inner.Raw.{raw_of}
use Rattle.records.specs.inner.Stage.{Kept, Ready, with_properties, with_names}
use Rattle.properties.specs.declared.Shown.{Shown}

abbrev pub shown_of : IprpContent → Shown
shown_of v = record { properties = length v.properties; associations = associations_in v.associations }

-- the first property begins behind the header of the first box of s
pub record ShownLeft (s : List ℕ) (place base n : ℕ) (t u : List ℕ) : Type 0 where
  pub kept : Kept t u
  pub told : (pl : Places) (f : File) (x : List ℕ) (v : IprpContent) → pl.properties ≡ base + head_of s → Ready f n →
      f.properties ≡ [] → f.associations ≡ [] → iprp_content (ids_of f.items) place base s ≡ ok v → t ≡ raw_of [] pl f ++
      x → u ≡ raw_of [] pl (with_names (with_properties f v.properties) v.associations) ++ x
