-- `judging::deep_fault` meets its contract. Assumes nothing.
use native.Mathlib.Omega.{arith}
use Rattle.judging.proofs.SceneLaws.{deep_shallow, deep_over}
use Rattle.judging.proofs.deep_fault.Goals as goal

pub returns-then-record_word-gt16 : goal.returns-then-record_word-gt16
returns-then-record_word-gt16 c =
    λ total head rows f d h. deep_over total head f d _ h _
    (c.record_word.ensures (omega (arith, d.followed.view.bounded.few-items))) c.if-record_word-gt16.true

pub returns : goal.returns
returns c =
    λ total head rows f d h. deep_shallow total head f d _ h _
    (c.record_word.ensures (omega (arith, d.followed.view.bounded.few-items))) c.if-record_word-gt16.false
