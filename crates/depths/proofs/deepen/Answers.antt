-- `depths::deepen` meets its contract. Assumes nothing.
use Prim.Native.Nat.{◌<◌}
use native.Mathlib.Omega.{arith}
use mathlib.Core.Path.{sym, ◌∙◌}
use mathlib.Core.Logic.{inl, inr}
use lib.ListN.{length}
use Rattle.fields.proofs.TestLaws.{untrue}
use Rattle.depths.proofs.SweepLaws.{sweep_bare, sweep_fed, sweep_end}
use Rattle.depths.proofs.deepen.Goals as goal
use Rattle.depths.proofs.deepen.Goals.{
  then-places,
  else-places,
  then-held-ne0+then-deepen_row+then-k-above,
  then-held-ne0+else-deepen_row,
  else-deepen_row-via-then-deepen_row+else-k-above,
  else-deepen_row-via-else-deepen_row,
  else-held-ne0,
}

pub loop-k-preserved : goal.loop-k-preserved
loop-k-preserved c =
    let a = c.args in
    let q = c.loop-k in
    let room : c.row_in_sweep-row.result.0 < length q.depths = omega (arith, c.row_in_sweep-row.ensures.1, q.invariant.same, c.requires.1) in
    let bare = sweep_bare a.table.now a.rows.now a.n a.up a.places q.k c.row_in_sweep-row.result.0 q.above
    c.if-held-ne0.above a.depths.now q.depths c.if-held-ne0.depths q.again c.if-held-ne0.again c.loop-k-test.true
    c.row_in_sweep-row.ensures.0 c.row_in_sweep-row.ensures.1 q.invariant in
    let fed = sweep_fed a.table.now a.rows.now a.n a.up a.places q.k c.row_in_sweep-row.result.0 q.above
    c.if-held-ne0.above a.depths.now q.depths c.if-held-ne0.depths q.again c.if-held-ne0.again c.loop-k-test.true
    c.row_in_sweep-row.ensures.0 c.row_in_sweep-row.ensures.1 q.invariant in
    elim c.if-held-ne0.branch [
      | then-held-ne0+then-deepen_row+then-k-above w ↦
          fed w.fed_by-f.result.depth w.fed_by-f.result.above w.deepen_row.result room w.fed_by-f.ensures.0 w.fed_by-f.ensures.1
          (omega arith) (omega arith) w.deepen_row.ensures.0 (w.depths-is ∙ w.deepen_row.ensures.1) (λ o. untrue (sym o ∙ w.again-is))
      | then-held-ne0+else-deepen_row w ↦
          fed w.fed_by-f.result.depth w.fed_by-f.result.above w.deepen_row.result room w.fed_by-f.ensures.0 w.fed_by-f.ensures.1
          (omega arith) (omega arith) w.deepen_row.ensures.0 (w.depths-is ∙ w.deepen_row.ensures.1)
          (λ o. (
            sym w.again-is ∙ o,
            elim w.else-deepen_row.branch [
              | else-deepen_row-via-then-deepen_row+else-k-above v ↦ inr (omega arith)
              | else-deepen_row-via-else-deepen_row v ↦ inl v.if-deepen_row.false
            ],
          ))
      | else-held-ne0 w ↦ bare c.held.result c.held.ensures w.if-held-ne0.false w.depths-is w.again-is w.above-is
    ]

pub returns : goal.returns
returns c = sweep_end _ _ _ _ _ _ _ _ _ _ c.loop-k-test.false c.loop-k.invariant
