-- `linking::some_past` meets its contract. Assumes nothing.
use Rattle.linking.specs.inner.Bytes.{names_marked}
use Rattle.linking.proofs.ByteLaws.{some_gap, some-whole, marked-yes}
use Rattle.linking.proofs.some_past.Goals as goal

pub returns-then-link_named-ge16 : goal.returns-then-link_named-ge16
returns-then-link_named-ge16 c =
    let a = c.args in
    let q = c.loop-e in
    some_gap (names_marked a.rows.now a.links.now) a.first q.e a.end q.auto.e c.loop-e-test.true
    (marked-yes a.rows.now a.links.now q.e c.held.result c.link_named.result
    c.held.ensures c.link_named.ensures c.if-link_named-ge16.true)

pub returns : goal.returns
returns c =
    let a = c.args in
    let q = c.loop-e in
    some-whole (names_marked a.rows.now a.links.now) a.first q.e a.end q.auto.e c.loop-e-test.false q.invariant
