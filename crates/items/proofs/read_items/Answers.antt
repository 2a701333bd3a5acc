-- `items::read_items` meets its contract. Assumes nothing.
use mathlib.Core.Path.{refl}
use Rattle.std.proofs.lemmas.Result.{err_from_is_err_and}
use Rattle.items.proofs.CountLaws.{items_refused, items-read}
use Rattle.items.proofs.read_items.Goals as goal

pub returns-in_err-c : goal.returns-in_err-c
returns-in_err-c c =
    let a = c.args in
    let p = err_from_is_err_and c.from_residual.result c.from_residual.ensures.1 in
    let w = items_refused a.s.now a.place a.base _ a.table.now a.keys.now c.in_err-c.ensures in
    record { value = rw (p.1, p.2) w.0; items_left = w.1.0; keys_left = w.1.1 }

pub returns-then-c-eq6 : goal.returns-then-c-eq6
returns-then-c-eq6 c =
    let a = c.args in
    let f = c.fill_items.ensures in
    let w = items-read a.s.now a.place a.base _ _ c.in_ok-c.ensures c.if-c-eq6.true _ _ _ _ (f.value, (f.stored, f.keys_left)) in
    record { value = w.0; items_left = w.1.0; keys_left = w.1.1 }

pub returns : goal.returns
returns c =
    let a = c.args in
    let f = c.fill_items-2.ensures in
    let w = items-read a.s.now a.place a.base _ _ c.in_ok-c.ensures refl _ _ _ _ (f.value, (f.stored, f.keys_left)) in
    record { value = w.0; items_left = w.1.0; keys_left = w.1.1 }
