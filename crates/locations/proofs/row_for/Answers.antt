-- `locations::row_for` meets its contract: what the lookup found, and the flag of the row. Assumes nothing.
use mathlib.Core.Path.{sym, ap, ◌∙◌}
use Prim.Native.Nat.{ℕ, ◌+◌}
use lib.ListN.{get_or}
use Rattle.locations.proofs.TableLaws.{row_twice, row_here, row-unlisted}
use Rattle.locations.proofs.row_for.Goals as goal

pub returns-in_default : goal.returns-in_default
returns-in_default c =
    let a = c.args in
    row-unlisted a.table.now a.n a.id.0 a.place c.in_default.ensures

pub returns-then-table-item-eq1 : goal.returns-then-table-item-eq1
returns-then-table-item-eq1 c =
    let a = c.args in
    row_twice a.table.now a.n a.id.0 a.place _ c.in-Some.ensures (ap (λ (i : ℕ). get_or a.table.now (i + 11) 0)
    (sym c.item.ensures) ∙ c.if-table-item-eq1.true)

pub returns : goal.returns
returns c =
    let a = c.args in
    row_here a.table.now a.n a.id.0 a.place _ c.in-Some.ensures (λ e. c.if-table-item-eq1.false
    (ap (λ (i : ℕ). get_or a.table.now (i + 11) 0) c.item.ensures ∙ e))
