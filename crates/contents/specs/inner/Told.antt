-- The code's values for what the definitions read of version and flags, `hdlr` and `pitm`.
use Rattle.std.specs.Prelude.{ℕ}
use Rattle.forms.specs.Form.{Got}
use Rattle.table.specs.declared.ItemId.{ItemId}
use Rattle.contents.specs.Full as Full
use Rattle.contents.specs.declared.Full as code

abbrev pub full_of : Got Full.Full → code.Full
full_of g = record { version = g.value.version; flags = g.value.flags }

abbrev pub item_id : ℕ → ItemId
item_id n = record { 0 = n }
