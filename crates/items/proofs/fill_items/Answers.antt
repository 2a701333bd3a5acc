-- `items::fill_items` meets its contract: the rows before i hold the items of the boxes before `at`, the keys those of their IDs. Assumes nothing.
use Rattle.std.proofs.lemmas.Result.{err_from_is_err_and}
use Rattle.contents.specs.Iinf.{ids_of}
use Rattle.items.proofs.FillLaws.{begin, left_over, all_read, gone, its_room, stored}
use Rattle.items.proofs.fill_items.Goals as goal

pub loop-i-init : goal.loop-i-init
loop-i-init c =
    let a = c.args in
    begin a.s.now a.from a.n a.place a.base a.table.now _ _ c.requires.1 c.clear_keys.ensures c.requires.3

pub next_item-requires : goal.next_item-requires
next_item-requires c =
    let l = c.loop-i in
    (c.requires.2, l.invariant.here, (ids_of l.invariant.items, l.invariant.keys))

pub returns-in_err-t : goal.returns-in_err-t
returns-in_err-t c =
    let a = c.args in
    let l = c.loop-i in
    let p = err_from_is_err_and c.from_residual.result c.from_residual.ensures.1 in
    let w = gone a.s.now a.from a.n a.place a.base a.table.now l.table l.at l.filled l.keys
    l.i l.invariant c.loop-i-test.true c.requires.4 c.requires.0 _ c.in_err-t.ensures in
    record { value = rw (p.1, p.2) w.0; stored = w.1.0; keys_left = w.1.1 }

pub put_key-filled-requires : goal.put_key-filled-requires
put_key-filled-requires c =
    let a = c.args in
    let l = c.loop-i in
    let w = its_room a.s.now a.from a.n a.place a.base a.table.now l.table l.at l.filled l.keys
    l.i l.invariant c.loop-i-test.true c.requires.4 c.requires.0 _ c.in_ok-t.ensures in
    (ids_of l.invariant.items, c.in_ok-t.t.info.id.0, l.invariant.keys, w.0, w.1, w.2 _ c.key_of.ensures)

pub loop-i-preserved : goal.loop-i-preserved
loop-i-preserved c =
    let a = c.args in
    let l = c.loop-i in
    let w = its_room a.s.now a.from a.n a.place a.base a.table.now l.table l.at l.filled l.keys
    l.i l.invariant c.loop-i-test.true c.requires.4 c.requires.0 _ c.in_ok-t.ensures in
    stored a.s.now a.from a.n a.place a.base a.table.now l.table l.at l.filled l.keys
    l.i l.invariant c.loop-i-test.true c.requires.4 c.requires.0 _ c.in_ok-t.ensures _ _ _ c.put_item.ensures
    (c.put_key-filled.ensures _ _ l.invariant.keys w.0 w.1 (w.2 _ c.key_of.ensures))

pub returns-then-at-s : goal.returns-then-at-s
returns-then-at-s c =
    let a = c.args in
    let l = c.loop-i in
    let w = left_over a.s.now a.from a.n a.place a.base a.table.now l.table l.at l.filled l.keys
    l.i l.invariant c.loop-i-test.false c.if-at-s.true in
    record { value = w.0; stored = w.1.0; keys_left = w.1.1 }

pub returns : goal.returns
returns c =
    let a = c.args in
    let l = c.loop-i in
    let w = all_read a.s.now a.from a.n a.place a.base a.table.now l.table l.at l.filled l.keys
    l.i l.invariant c.loop-i-test.false c.if-at-s.false in
    record { value = w.0; stored = w.1.0; keys_left = w.1.1 }
