-- Between the functions of the house.
--   row_at r    a row as the code has it
use Rattle.std.specs.Prelude.{ℕ}
use Rattle.table.specs.declared.ItemRow.{ItemRow}

abbrev pub row_at : ℕ → ItemRow
row_at r = record { 0 = r }
