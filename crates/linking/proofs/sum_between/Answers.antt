-- `linking::sum_between` meets its contract. Assumes nothing.
use native.Mathlib.Omega.{arith}
use mathlib.Core.Path.{◌∙◌}
use Rattle.linking.proofs.ByteLaws.{sum_none, sum_more, sum_past, sum_is}
use Rattle.linking.proofs.sum_between.Goals as goal

pub loop-e-init : goal.loop-e-init
loop-e-init c = (omega arith, sum_none c.args.table.now c.args.first)

pub returns-in_err-sum : goal.returns-in_err-sum
returns-in_err-sum c =
    let a = c.args in
    let q = c.loop-e in
    rw c.from_residual.ensures (sum_past a.table.now a.first q.e a.end q.sum c.size_at.result q.auto.e
    c.loop-e-test.true q.invariant.1 c.size_at.ensures (omega (arith, c.in_err-sum.ensures)))

pub loop-e-preserved : goal.loop-e-preserved
loop-e-preserved c =
    let a = c.args in
    let q = c.loop-e in (
      omega (arith, c.in_ok-sum.ensures),
      c.in_ok-sum.ensures.1 ∙ sum_more a.table.now a.first q.e q.sum c.size_at.result q.auto.e q.invariant.1
          c.size_at.ensures,
    )

pub returns : goal.returns
returns c =
    let a = c.args in
    let q = c.loop-e in
    sum_is a.table.now a.first q.e a.end q.sum (q.auto.e-end c.requires.0) c.loop-e-test.false q.invariant.0 q.invariant.1
