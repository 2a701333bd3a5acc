-- 13 and 14 as most files need them, which have no item that is made of others: by document 01 alone. 30 stands for each item
-- that is made of others; where one is found all are asked again, by the rule itself.
--   plain_method l               13 of a method, 2 left out
--   plain_rule total head f i    30 for an item of method 2; 13 before 14 for any other
--   SumsAre t n sums            the lengths of n rows, each as far as 64 bits go
--   end_at .. method e           where the source of the extent e ends: a place of the file, or of the item that it names
--   SourcesAre ..               what is known when items are asked with their levels;   Chained f id    an item keeps 13 and 30
use Rattle.std.specs.Prelude.{ℕ, ◌+◌, ◌<◌, ◌≡◌, List, Bool, true, ◌&&◌, length, get_or, leb, eqb}
use Rattle.fields.specs.Choice.{pick}
use Rattle.boxes.specs.Answer.{Answer, refuse, check, ◌>>◌}
use Rattle.contents.specs.Iinf.{Item}
use Rattle.contents.specs.Iloc.{Location}
use Rattle.contents.specs.File.{File}
use Rattle.rules.specs.Joined.{location_of}
use Rattle.rules.specs.Places.{Places}
use Rattle.rules.specs.Bytes.{good_method, good_lengths, made_of_items, chained}
use Rattle.rules.specs.inner.Direct.{store_of, within}
use Rattle.rules.specs.Rules.{has_bytes}
use Rattle.records.specs.inner.Raw.{capped}
use Rattle.records.specs.inner.Named.{NamedIn}
use Rattle.views.specs.inner.View.{TableOf}
use Rattle.linking.specs.inner.Links.{named_row, length_sum}

abbrev pub plain_method : Location → Bool
plain_method l = leb l.method 1 && eqb l.reference 0

unfoldable pub plain_rule : ℕ → List ℕ → File → Item → Answer (Unit {0})
plain_rule total head f i =
    pick (made_of_items f i.id) (refuse 30 i.id)
    (check 13 i.id (plain_method (location_of f i.id) && good_lengths (location_of f i.id))
    >> check 14 i.id (within (store_of total head f (location_of f i.id).method) (location_of f i.id) && has_bytes f i))

abbrev pub SumsAre : List ℕ → ℕ → List ℕ → Type 0
SumsAre t n sums = (r : ℕ) → r < n → get_or sums r 0 ≡ capped (length_sum t r)

-- v has the rows that extents name, sums their lengths; idat is where the content of `idat` ends in the file
abbrev pub end_at : ℕ → ℕ → List ℕ → List ℕ → ℕ → ℕ → ℕ
end_at total idat v sums method e = pick (eqb method 0) total (pick (eqb method 1) idat (get_or sums (named_row v e) 0))

pub record SourcesAre (t v sums head : List ℕ) (pl : Places) (idat : ℕ) (f : File) : Type 0 where
  pub view : TableOf t head pl f
  pub named : NamedIn f v
  pub lengths : SumsAre t (length f.items) sums
  pub ends : pl.idat + length f.idat ≡ idat

pub record Chained (f : File) (id : ℕ) : Type 0 where
  pub method : good_method (location_of f id) ≡ true
  pub long : good_lengths (location_of f id) ≡ true
  pub chain : chained 8 f id ≡ true
