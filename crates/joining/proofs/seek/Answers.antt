-- `joining::seek` meets its contract. Assumes nothing.
use mathlib.Core.Path.{sym, ◌∙◌}
use Rattle.joining.proofs.PlaceLaws.{seek_here, seek_behind, seek_none}
use Rattle.joining.proofs.seek.Goals as goal

pub returns-then-rest-size : goal.returns-then-rest-size
returns-then-rest-size c =
    let a = c.args in
    let q = c.loop-e in
    seek_here a.table.now q.e a.end q.rest c.size_at-size.result c.size_at-size.ensures c.loop-e-test.true c.if-rest-size.true
    ∙ sym q.invariant

pub loop-e-preserved : goal.loop-e-preserved
loop-e-preserved c =
    let a = c.args in
    let q = c.loop-e in
    q.invariant ∙ seek_behind a.table.now q.e a.end q.rest c.size_at-size.result c.size_at-size.ensures c.loop-e-test.true c.if-rest-size.false

pub returns : goal.returns
returns c =
    let a = c.args in
    let q = c.loop-e in
    seek_none a.table.now q.e a.end q.rest c.loop-e-test.false ∙ sym q.invariant
