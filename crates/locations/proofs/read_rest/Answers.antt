-- `locations::read_rest` meets its contract: one test of the length stands for four fields. Assumes nothing.
use Rattle.locations.proofs.EntryLaws.{rest-short, rest-many, rest-is}
use Rattle.locations.proofs.read_rest.Goals as goal

pub returns-then-s-at : goal.returns-then-s-at
returns-then-s-at c =
    let a = c.args in
    rest-short a.w a.used a.place a.s.now a.at c.requires.0 c.if-s-at.true

pub returns-then-used-k-gt512 : goal.returns-then-used-k-gt512
returns-then-used-k-gt512 c =
    let a = c.args in
    rest-many a.w a.used a.place a.s.now a.at c.requires.0 c.if-s-at.false _ c.be16-k.ensures
    c.if-used-k-gt512.true

pub returns : goal.returns
returns c =
    let a = c.args in
    rest-is a.w a.used a.place a.s.now a.at c.requires.0 c.if-s-at.false _ c.be16-k.ensures _ _ _
    c.read_method.ensures c.be16.ensures c.be_sized.ensures c.if-used-k-gt512.false
