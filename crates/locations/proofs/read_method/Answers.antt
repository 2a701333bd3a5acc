-- `locations::read_method` meets its contract. Assumes nothing.
use Rattle.fields.proofs.FieldLaws.{be_none}
use Rattle.locations.proofs.EntryLaws.{two}
use Rattle.locations.proofs.read_method.Goals as goal

pub returns-then-m-eq0 : goal.returns-then-m-eq0
returns-then-m-eq0 c = let a = c.args in rw (c.if-m-eq0.true, be_none a.s.now a.at)

pub returns : goal.returns
returns c = rw (two _ c.requires.1 c.if-m-eq0.false, c.be16.ensures)
