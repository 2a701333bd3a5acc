-- `locations::index_mark` meets its contract. Assumes nothing.
use Rattle.locations.proofs.MarkLaws.{mark_absent, mark_past, mark_near}
use Rattle.locations.proofs.index_mark.Goals as goal

pub returns-then-w-eq0 : goal.returns-then-w-eq0
returns-then-w-eq0 c = mark_absent _ _ c.if-w-eq0.true

pub returns-then-index-gt65535 : goal.returns-then-index-gt65535
returns-then-index-gt65535 c =
    rw (← c.be_sized-index.ensures) (mark_past _ _ c.if-w-eq0.false c.if-index-gt65535.true)

pub returns : goal.returns
returns c =
    rw (← c.be_sized-index.ensures) (mark_near _ _ c.if-w-eq0.false c.if-index-gt65535.false)
