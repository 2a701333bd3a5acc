-- `locations::read_count` meets its contract, a way out at a time. Assumes nothing.
use Rattle.locations.proofs.SizeLaws.{count-short, count-many, count-here}
use Rattle.locations.proofs.read_count.Goals as goal

pub returns-then-s-w : goal.returns-then-s-w
returns-then-s-w c =
    let a = c.args in
    count-short a.w a.place a.s.now c.requires.0 c.if-s-w.true

pub returns-then-n-gt256 : goal.returns-then-n-gt256
returns-then-n-gt256 c =
    let a = c.args in
    count-many a.w a.place a.s.now c.requires.0 c.if-s-w.false _ c.be_id-n.ensures c.if-n-gt256.true

pub returns : goal.returns
returns c =
    let a = c.args in
    count-here a.w a.place a.s.now c.requires.0 c.if-s-w.false _ c.be_id-n.ensures c.requires.1
    c.if-n-gt256.false
