-- `placed::lie_in_sources` meets its contract. Assumes nothing.
use native.Mathlib.Omega.{arith}
use mathlib.Core.Path.{refl}
use Rattle.linking.specs.inner.Links.{size_at}
use Rattle.placed.proofs.SourceLaws.{row_is, sources_pass, sources_fail, sources-on}
use Rattle.placed.proofs.lie_in_sources.Goals as goal
use Rattle.placed.proofs.lie_in_sources.Goals.{then-end-offset-via-then-end-offset, then-end-offset-via-else-end-offset+then-end-offset-2}

pub returns-then-end-offset : goal.returns-then-end-offset
returns-then-end-offset c =
    let a = c.args in
    let q = c.loop-e in
    λ head pl f w h k s.
    let i = row_is w.view a.row.0 h _ _ c.record_word-first.ensures c.record_word.ensures _ _ c.record_word-method.ensures refl in
    sources_fail w a.ends.total a.row.0 h k s _ _ _ i q.e q.auto.e (q.invariant head pl f a.row.0 w h i k s)
    c.loop-e-test.true c.end_of-end.result _ (size_at a.table.now q.e) c.end_of-end.type_inv c.end_of-end.ensures c.offset_at-offset.ensures refl
    (elim c.then-end-offset.branch [
      | then-end-offset-via-then-end-offset w ↦ omega arith
      | then-end-offset-via-else-end-offset+then-end-offset-2 w ↦ omega arith
    ])

pub loop-e-preserved : goal.loop-e-preserved
loop-e-preserved c =
    let a = c.args in
    let q = c.loop-e in
    λ head pl f r w h i k s. sources-on w a.ends.total r h k s _ _ _ i q.e q.auto.e (q.invariant head pl f r w h i k s)
    c.loop-e-test.true c.end_of-end.result _ _ c.end_of-end.type_inv c.end_of-end.ensures c.offset_at-offset.ensures c.size_at.ensures
    (omega arith)

pub returns : goal.returns
returns c =
    let a = c.args in
    let q = c.loop-e in
    λ head pl f w h k s.
    let i = row_is w.view a.row.0 h _ _ c.record_word-first.ensures c.record_word.ensures _ _ c.record_word-method.ensures refl in
    sources_pass w a.ends.total a.row.0 h k s _ _ _ i q.e q.auto.e (q.invariant head pl f a.row.0 w h i k s)
    c.loop-e-test.false
