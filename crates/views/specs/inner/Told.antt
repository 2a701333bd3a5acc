-- The code's values for a lookup by ID and for a rule.
--   told_row id items    the row of an ID, or nothing where it is not listed
--   fault_of m           the number that a rule refuses by, none where it does not
use Rattle.std.specs.Prelude.{ℕ, List, Option, Some, None}
use Rattle.fields.specs.Choice.{pick}
use Rattle.fields.specs.Lists.{member}
use Rattle.boxes.specs.Answer.{Answer, ok, refuse}
use Rattle.contents.specs.Iinf.{Item, ids_of}
use Rattle.rules.specs.Joined.{row_of}
use Rattle.table.specs.declared.ItemRow.{ItemRow}

unfoldable pub told_row : ℕ → List Item → Option ItemRow
told_row id items = pick (member id (ids_of items)) (Some (record { 0 = row_of id items })) None

unfoldable pub fault_of : Answer (Unit {0}) → Option ℕ
fault_of (ok u) = None
fault_of (refuse n p) = Some n
