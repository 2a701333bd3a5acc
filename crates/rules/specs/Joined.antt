-- What a file says of one item, joined from its lists by the item's ID.
--   location_of f id        where its bytes lie;   associations_of, targets_of    its associations and `dimg` targets;   links_of    its `iloc` targets
--   property_at f k         the property box with index k; nothing for index 0
--   boxes_of f id           the property boxes that it is associated with, in order;   types_of    their types, 0 for index 0
--   row_of id items         its row in table order; the number of items where it is not listed
use Rattle.std.specs.Prelude.{ℕ, suc, ◌-◌, List, [], ◌∷◌, map, false, get_or, eqb}
use Rattle.fields.specs.Choice.{pick}
use Rattle.boxes.specs.Box.{kind_of}
use Rattle.contents.specs.Iinf.{Item}
use Rattle.contents.specs.Iloc.{Extent, Location}
use Rattle.contents.specs.Ipma.{Association, IpmaEntry}
use Rattle.contents.specs.Iref.{Reference}
use Rattle.contents.specs.File.{File}

-- "An item with no entry has method 0 and no extents."
unfoldable pub located_at : List Location → ℕ → Location
located_at [] id = record { id = id; method = 0; reference = 0; base = 0; extents = [] }
located_at (l ∷ ls) id = pick (eqb l.id id) l (located_at ls id)

abbrev pub location_of : File → ℕ → Location
location_of f id = located_at f.locations id

unfoldable pub named_for : List IpmaEntry → ℕ → List Association
named_for [] id = []
named_for (n ∷ ns) id = pick (eqb n.id id) n.list (named_for ns id)

abbrev pub associations_of : File → ℕ → List Association
associations_of f id = named_for f.associations id

-- what a list of extents holds behind its end, and one of associations
abbrev pub no_extent : Extent
no_extent = record { index = 0; offset = 0; size = 0 }

abbrev pub no_association : Association
no_association = record { essential = false; index = 0 }

unfoldable pub referred_from : List Reference → ℕ → List ℕ
referred_from [] id = []
referred_from (d ∷ ds) id = pick (eqb d.id id) d.targets (referred_from ds id)

abbrev pub targets_of : File → ℕ → List ℕ
targets_of f id = referred_from f.derivations id

-- Q-7: "the item's `iloc` reference"
abbrev pub links_of : File → ℕ → List ℕ
links_of f id = referred_from f.links id

-- "Every box in `ipco` takes an index from 1"; "Index 0 names nothing"
unfoldable pub property_at : File → ℕ → List ℕ
property_at f k = pick (eqb k 0) [] (get_or f.properties (k - 1) [])

abbrev pub boxes_of : File → ℕ → List (List ℕ)
boxes_of f id = map (λ (a : Association). property_at f a.index) (associations_of f id)

abbrev pub types_of : File → ℕ → List ℕ
types_of f id = map (λ (b : List ℕ). kind_of b) (boxes_of f id)

unfoldable pub row_of : ℕ → List Item → ℕ
row_of id [] = 0
row_of id (i ∷ is) = pick (eqb i.id id) 0 (suc (row_of id is))

abbrev pub no_item : Item
no_item = record { id = 0; type = 0; protection = 0; hidden = 0 }

-- the item in a row
abbrev pub item_at : File → ℕ → Item
item_at f r = get_or f.items r no_item
