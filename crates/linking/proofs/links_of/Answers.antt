-- `linking::links_of` meets its contract. Assumes nothing.
use native.Mathlib.Omega.{arith}
use Rattle.linking.proofs.ByteLaws.{linked-last}
use Rattle.linking.proofs.links_of.Goals as goal

pub returns-then-not-settle_all : goal.returns-then-not-settle_all
returns-then-not-settle_all c =
    let a = c.args in
    let q = c.loop-k in
    linked-last a.table.now a.rows.now a.n q.links c.settle_all.new.links q.k c.settle_all.result q.auto.k
    (omega arith) c.if-not-settle_all.true c.settle_all.ensures q.invariant.1
