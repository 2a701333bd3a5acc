-- `locations::put_entry` meets its contract. Assumes nothing.
use mathlib.Core.Path.{refl}
use Rattle.std.proofs.lemmas.Result.{err_from_is_err_and}
use Rattle.locations.proofs.EntryLaws.{put_gone, put_are}
use native.Mathlib.Omega.{arith}
use Rattle.locations.proofs.put_entry.Goals as goal

pub put_rest-requires : goal.put_rest-requires
put_rest-requires c =
    let h = c.in_ok-e.ensures in
    (h.room, c.requires.1, h.few, omega (arith, h.below), c.requires.4, c.requires.5)

pub returns-in_err-e : goal.returns-in_err-e
returns-in_err-e c =
    let a = c.args in
    let p = err_from_is_err_and c.from_residual.result c.from_residual.ensures.1 in
    rw (p.1, p.2) (put_gone a.table.now a.table.now a.rows.now a.rows.now a.n a.w a.used a.place a.s.now
    a.at a.idat _ refl refl c.in_err-e.ensures)

pub returns : goal.returns
returns c =
    let a = c.args in
    put_are a.table.now _ a.rows.now _ a.n a.w a.used a.place a.s.now a.at a.idat _ _ _ c.in_ok-e.ensures
    c.put_rest.result c.put_rest.ensures.stored_are c.put_rest.ensures.marked_are
