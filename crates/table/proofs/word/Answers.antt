-- `table::word` meets its contract. Assumes nothing.
use mathlib.Core.Path.{sym}
use lib.ListN.{get_or-eq_default}
use Rattle.table.proofs.word.Goals as goal

pub returns-else-at-table : goal.returns-else-at-table
returns-else-at-table c = sym (get_or-eq_default c.args.table.now 0 {n = c.args.at} c.if-at-table.false)
