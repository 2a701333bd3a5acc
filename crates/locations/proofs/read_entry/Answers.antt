-- `locations::read_entry` meets its contract, a way out at a time. Assumes nothing.
use Rattle.std.proofs.lemmas.Result.{err_from_is_err_and}
use Rattle.locations.proofs.EntryLaws.{entry_short, entry_gone, entry_rest_gone, entry_here}
use Rattle.locations.proofs.read_entry.Goals as goal

pub returns-then-s-at : goal.returns-then-s-at
returns-then-s-at c =
    let a = c.args in
    entry_short a.table.now a.n a.w a.used a.place a.s.now a.at c.requires.0 c.if-s-at.true

pub returns-in_err-row : goal.returns-in_err-row
returns-in_err-row c =
    let a = c.args in
    let p = err_from_is_err_and c.from_residual.result c.from_residual.ensures.1 in
    rw (p.1, p.2) (entry_gone a.table.now a.n a.w a.used a.place a.s.now a.at c.requires.0 c.if-s-at.false _
    c.be_id-id.ensures _ c.in_err-row.ensures)

pub returns-in_err-x : goal.returns-in_err-x
returns-in_err-x c =
    let a = c.args in
    let p = err_from_is_err_and c.from_residual-in_err-x.result c.from_residual-in_err-x.ensures.1 in
    rw (p.1, p.2) (entry_rest_gone a.table.now a.n a.w a.used a.place a.s.now a.at c.requires.0 c.if-s-at.false
    _ c.be_id-id.ensures _ c.in_ok-row.ensures _ c.in_err-x.ensures)

pub returns : goal.returns
returns c =
    let a = c.args in
    entry_here a.table.now a.n a.w a.used a.place a.s.now a.at c.requires.0 c.if-s-at.false _
    c.be_id-id.ensures _ c.in_ok-row.ensures _ _ c.in_ok-x.ensures
