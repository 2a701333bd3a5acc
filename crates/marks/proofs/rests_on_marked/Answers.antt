-- `marks::rests_on_marked` meets its contract. Assumes nothing.
use Prim.Native.Nat.{◌+◌}
use native.Mathlib.Omega.{arith}
use mathlib.Core.Path.{◌≡◌, sym, ◌∙◌}
use lib.ListN.{get_or}
use Rattle.marks.specs.inner.Marks.{Marked}
use Rattle.marks.proofs.GroundLaws.{among-more, inputs-by}
use Rattle.marks.proofs.rests_on_marked.Goals as goal

pub loop-j-preserved : goal.loop-j-preserved
loop-j-preserved c =
    let a = c.args in
    let q = c.loop-j in
    among-more (Marked a.marks.now) (λ i. get_or a.rows.now (c.word-first.result + i) 0) q.j
    c.word.result q.invariant c.word.ensures (sym c.word-in-loop-j.ensures ∙ c.if-word-ne1.false)

pub returns : goal.returns
returns c =
    let a = c.args in
    let q = c.loop-j in
    let e : q.j ≡ c.word-k.result = omega arith in
    λ b. inputs-by a.table.now a.rows.now a.row.0 q.j c.word-first.result (Marked a.marks.now)
    (e ∙ c.word-k.ensures) c.word-first.ensures q.invariant
