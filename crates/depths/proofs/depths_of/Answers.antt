-- `depths::depths_of` meets its contract. Assumes nothing.
use Rattle.depths.proofs.RoundLaws.{deep_none, deep_next, deep_last, depth-found}
use Rattle.depths.proofs.depths_of.Goals as goal
use native.Mathlib.Omega.{arith}
use mathlib.Core.Path.{refl, ◌∙◌}

pub loop-k-init : goal.loop-k-init
loop-k-init c = (refl, deep_none _ _ _)

pub loop-k-preserved : goal.loop-k-preserved
loop-k-preserved c =
    let a = c.args in
    let q = c.loop-k in (
      c.deepen.auto.depths ∙ q.invariant.0,
      deep_next a.table.now a.rows.now a.n q.k q.depths c.deepen.new.depths c.deepen.result q.invariant.1 c.deepen.ensures (omega arith),
    )

pub returns-then-not-deepen : goal.returns-then-not-deepen
returns-then-not-deepen c =
    let a = c.args in
    let q = c.loop-k in
    depth-found a.table.now a.rows.now a.n 17 c.deepen.new.depths
    (deep_last a.table.now a.rows.now a.n q.k q.depths c.deepen.new.depths c.deepen.result q.invariant.1 c.deepen.ensures c.if-not-deepen.true) refl

pub returns-after-loop-k : goal.returns-after-loop-k
returns-after-loop-k c =
    let a = c.args in
    let q = c.loop-k in
    depth-found a.table.now a.rows.now a.n q.k q.depths q.invariant.1 (omega arith)
