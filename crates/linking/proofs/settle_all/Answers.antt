-- `linking::settle_all` meets its contract. Assumes nothing.
use mathlib.Core.Logic.{inl, inr}
use Rattle.linking.proofs.ByteLaws.{sweep_next}
use Rattle.linking.proofs.settle_all.Goals as goal
use Rattle.linking.proofs.settle_all.Goals.{then-settle, else-settle}

pub loop-r-preserved : goal.loop-r-preserved
loop-r-preserved c =
    let a = c.args in
    let q = c.loop-r in
    sweep_next a.table.now a.rows.now a.n a.k q.r a.links.now q.links c.settle.new.links q.grew c.settle.result c.if-settle.grew
    (elim c.if-settle.branch [
      | then-settle w ↦ inl (w.if-settle.true, w.grew-is)
      | else-settle w ↦ inr (w.if-settle.false, w.grew-is)
    ]) c.loop-r-test.true q.invariant c.settle.ensures
