-- `items::put_key` meets its contract. Assumes nothing.
use Rattle.items.proofs.MoveLaws.{held_up, held_down}
use Rattle.items.proofs.put_key.Goals as goal

pub returns-then-end-room : goal.returns-then-end-room
returns-then-end-room c =
    let a = c.args in
    λ ids id h r few own. held_up ids a.at a.keys.now h id a.room a.key r few own _ c.copy_within.ensures.after

pub returns : goal.returns
returns c =
    let a = c.args in
    λ ids id h r few own. held_down ids a.at a.keys.now h id a.room a.key r few own _ c.copy_within-2.ensures.after
    c.if-end-room.false
