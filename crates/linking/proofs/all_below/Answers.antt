-- `linking::all_below` meets its contract. Assumes nothing.
use Rattle.linking.specs.inner.Bytes.{names_below}
use Rattle.linking.proofs.ByteLaws.{every_gap, every-whole, below_no}
use Rattle.linking.proofs.all_below.Goals as goal

pub returns-then-k-link_named : goal.returns-then-k-link_named
returns-then-k-link_named c =
    let a = c.args in
    let q = c.loop-e in
    every_gap (names_below a.rows.now a.links.now a.k) a.first q.e a.end q.auto.e
    c.loop-e-test.true (below_no a.rows.now a.links.now q.e c.held.result
    c.link_named.result c.held.ensures c.link_named.ensures a.k c.if-k-link_named.true)

pub returns : goal.returns
returns c =
    let a = c.args in
    let q = c.loop-e in
    every-whole (names_below a.rows.now a.links.now a.k) a.first q.e a.end q.auto.e c.loop-e-test.false q.invariant
