-- `judging::deepest_of` meets its contract. The loop's invariant: no row passed is deeper. Assumes nothing.
use native.Mathlib.Omega.{arith}
use Rattle.views.specs.inner.View.{record_word}
use Rattle.judging.proofs.JudgedLaws.{none_larger}
use Rattle.judging.proofs.deepest_of.Goals as goal

pub loop-r-init : goal.loop-r-init
loop-r-init c = λ k h l. absurd (omega arith)

pub loop-r-preserved : goal.loop-r-preserved
loop-r-preserved c =
    let a = c.args in
    let q = c.loop-r in
    none_larger (λ k. record_word a.table.now k 14) q.r q.deepest c.record_word.result _ q.invariant c.record_word.ensures (omega arith, omega arith)

pub returns : goal.returns
returns c = λ r h l. c.loop-r.invariant r (omega (arith, c.item_count-n.ensures)) l
