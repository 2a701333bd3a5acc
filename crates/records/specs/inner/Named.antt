-- What the rows of a file say of the items that extents name (document 02, Q-7).
--   mark_of index            what stands for an extent's index until the reference that it picks from is read
--   row_picked is ts index   the row of the target that it picks, 256 where there is none
--   extent_mark is ks id e   what stands for an extent of the item id, ks being the links that are read
--   NamedRows is ls ks v    v has that, from 2,304 on, for each extent of an item of method 2;   NamedIn f v    all of a file that was read
use Rattle.std.specs.Prelude.{ℕ, ◌+◌, ◌-◌, ◌<◌, ◌≡◌, List, ◌&&◌, length, get_or, leb, ltb}
use Rattle.fields.specs.Choice.{pick}
use Rattle.fields.specs.Lists.{member}
use Rattle.contents.specs.Iinf.{Item}
use Rattle.contents.specs.Iloc.{Extent, Location}
use Rattle.contents.specs.Iref.{Reference, referring_in}
use Rattle.contents.specs.File.{File}
use Rattle.rules.specs.Joined.{no_extent, located_at, referred_from, row_of}
use Rattle.rules.specs.Words.{first_in, located_groups}

-- over every row; no reference has as many targets as the largest index that is told apart
abbrev pub mark_of : ℕ → ℕ
mark_of index = 257 + pick (leb index 65535) index 65536

unfoldable pub row_picked : List Item → List ℕ → ℕ → ℕ
row_picked is ts index = pick (ltb 0 index && leb index (length ts)) (row_of (get_or ts (index - 1) 0) is) 256

unfoldable pub extent_mark : List Item → List Reference → ℕ → Extent → ℕ
extent_mark is ks id e = pick (member id (referring_in ks)) (row_picked is (referred_from ks id) e.index) (mark_of e.index)

-- where the extents of an item begin among all
abbrev pub extents_begin : List Location → ℕ → ℕ
extents_begin ls id = first_in id 0 (located_groups ls)

abbrev pub NamedRows : List Item → List Location → List Reference → List ℕ → Type 0
NamedRows is ls ks v = (id : ℕ) → (located_at ls id).method ≡ 2 → (j : ℕ) → j < length (located_at ls id).extents →
    get_or v (2304 + extents_begin ls id + j) 0 ≡ extent_mark is ks id (get_or (located_at ls id).extents j no_extent)

abbrev pub NamedIn : File → List ℕ → Type 0
NamedIn f v = NamedRows f.items f.locations f.links v
