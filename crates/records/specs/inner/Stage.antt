-- What a stage of reading leaves in the table.
--   Kept t u        u is as long as t, and past 11,280 the same: what a stage does in any case
--   Ready f n       f has n items, no two with one ID, and keeps the limits: what later stages build on
--   with_items, with_locations, withShown, with_references    a file with one more stage read
use Rattle.std.specs.Prelude.{ℕ, ◌≡◌, List, length, drop}
use Rattle.contents.specs.Iinf.{Item, ids_of}
use Rattle.contents.specs.Iloc.{Location}
use Rattle.contents.specs.Ipma.{IpmaEntry}
use Rattle.contents.specs.Iref.{IrefContent}
use Rattle.contents.specs.File.{File}
use Rattle.records.specs.inner.Raw.{unread, Bounded}
use Rattle.records.specs.inner.Rows.{Distinct}

pub record Kept (t u : List ℕ) : Type 0 where
  pub same_length : length u ≡ length t
  pub past : drop 11280 u ≡ drop 11280 t

pub record Ready (f : File) (n : ℕ) : Type 0 where
  pub count : length f.items ≡ n
  pub distinct : Distinct (ids_of f.items)
  pub bounded : Bounded f

abbrev pub with_items : List Item → File
with_items is = record {
  primary = 0;
  items = is;
  locations = unread.locations;
  properties = unread.properties;
  associations = unread.associations;
  derivations = unread.derivations;
  links = unread.links;
  idat = unread.idat;
}

abbrev pub with_locations : File → List Location → File
with_locations f ls = record {
  primary = f.primary;
  items = f.items;
  locations = ls;
  properties = f.properties;
  associations = f.associations;
  derivations = f.derivations;
  links = f.links;
  idat = f.idat;
}

abbrev pub with_properties : File → List (List ℕ) → File
with_properties f ps = record {
  primary = f.primary;
  items = f.items;
  locations = f.locations;
  properties = ps;
  associations = f.associations;
  derivations = f.derivations;
  links = f.links;
  idat = f.idat;
}

abbrev pub with_names : File → List IpmaEntry → File
with_names f ns = record {
  primary = f.primary;
  items = f.items;
  locations = f.locations;
  properties = f.properties;
  associations = ns;
  derivations = f.derivations;
  links = f.links;
  idat = f.idat;
}

abbrev pub with_references : File → IrefContent → File
with_references f c = record {
  primary = f.primary;
  items = f.items;
  locations = f.locations;
  properties =
      f.properties;
  associations = f.associations;
  derivations = c.derivations;
  links = c.links;
  idat = f.idat;
}
