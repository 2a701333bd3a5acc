-- `marks::reach_all` meets its contract. Assumes nothing.
use mathlib.Core.Path.{◌∙◌}
use Rattle.marks.proofs.MarkLaws.{reaching_next, reaching_last}
use Rattle.marks.proofs.reach_all.Goals as goal

pub loop-k-preserved : goal.loop-k-preserved
loop-k-preserved c =
    let a = c.args in
    let q = c.loop-k in (
      c.reach_listed-end.auto.marks ∙ q.invariant.0,
      c.reach_listed-end.auto.list ∙ q.invariant.1,
      reaching_next a.table.now a.rows.now a.n a.marks.now a.list.now a.start q.marks
          q.list q.end q.k q.invariant.2 c.reach_listed-end.new.marks c.reach_listed-end.new.list c.reach_listed-end.result
          c.loop-k-test.true q.invariant.0 c.reach_listed-end.ensures,
    )

pub returns : goal.returns
returns c = reaching_last _ _ _ _ _ _ _ _ _ _ c.loop-k.invariant.2 c.loop-k-test.false
