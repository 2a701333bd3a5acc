-- `properties::add_property` meets its contract. Assumes nothing.
use Rattle.std.proofs.lemmas.Result.{err_from_is_err_and}
use Rattle.properties.proofs.PropertyLaws.{added-many, added-bad, added-good}
use Rattle.properties.proofs.add_property.Goals as goal

pub returns-then-n-eq256 : goal.returns-then-n-eq256
returns-then-n-eq256 c =
    let a = c.args in
    added-many a.n a.kind a.place a.size a.s.now a.table.now c.if-n-eq256.true

pub returns-in_err-check_property : goal.returns-in_err-check_property
returns-in_err-check_property c =
    let a = c.args in
    let p = err_from_is_err_and c.from_residual.result c.from_residual.ensures.1 in
    rw (p.1, p.2) (added-bad a.n a.kind a.place a.size a.s.now a.table.now c.requires.2 c.if-n-eq256.false _ c.in_err-check_property.ensures)

pub returns : goal.returns
returns c =
    let a = c.args in
    added-good a.n a.kind a.place a.size a.s.now a.table.now c.requires.2 c.if-n-eq256.false
    c.in_ok-check_property.ensures _ c.put_property.ensures
