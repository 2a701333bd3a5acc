-- `marks::reach` meets its contract. Assumes nothing.
use Prim.Native.Nat.{◌+◌}
use native.Mathlib.Omega.{arith}
use mathlib.Core.Path.{◌≡◌, ◌∙◌}
use lib.ListN.{get_or}
use Rattle.marks.proofs.MarkLaws.{reached_more, reached_inputs}
use Rattle.marks.proofs.reach.Goals as goal

pub loop-j-preserved : goal.loop-j-preserved
loop-j-preserved c =
    let a = c.args in
    let q = c.loop-j in (
      c.list_row-end.auto.marks ∙ q.invariant.0,
      c.list_row-end.auto.list ∙ q.invariant.1,
      reached_more (λ i. get_or a.rows.now (c.word-first.result + i) 0) q.j c.word.result a.marks.now q.marks
          c.list_row-end.new.marks a.list.now q.list c.list_row-end.new.list a.start q.end c.list_row-end.result q.invariant.0 c.word.ensures
          q.invariant.2 c.list_row-end.ensures,
    )

pub returns : goal.returns
returns c =
    let a = c.args in
    let q = c.loop-j in
    let e : q.j ≡ c.word-k.result = omega arith in
    reached_inputs a.table.now a.rows.now a.row.0 q.j c.word-first.result a.marks.now q.marks
    a.list.now q.list a.start q.end (e ∙ c.word-k.ensures) c.word-first.ensures q.invariant.2
