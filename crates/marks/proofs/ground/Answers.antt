-- `marks::ground` meets its contract. Assumes nothing.
use mathlib.Core.Path.{◌≡◌, ◌∙◌}
use mathlib.Core.Bool.{◌||◌}
use Rattle.marks.proofs.MarkLaws.{or_took, or_left}
use Rattle.marks.proofs.GroundLaws.{ground_both}
use Rattle.marks.proofs.ground.Goals as goal
use Rattle.marks.proofs.ground.Goals.{then-ground_row, else-ground_row}

pub loop-k-preserved : goal.loop-k-preserved
loop-k-preserved c =
    let a = c.args in
    let q = c.loop-k in
    let e : c.if-ground_row.grew ≡ (c.ground_row.result || q.grew) =
    elim c.if-ground_row.branch [
      | then-ground_row w ↦ or_took q.grew w.if-ground_row.true w.grew-is
      | else-ground_row w ↦ or_left q.grew w.if-ground_row.false w.grew-is
    ] in (
      c.ground_row.auto.marks ∙ q.invariant.0,
      ground_both a.table.now a.rows.now a.marks.now q.marks
          c.ground_row.new.marks q.grew c.ground_row.result c.if-ground_row.grew e q.invariant.1 c.ground_row.ensures,
    )

pub returns : goal.returns
returns c = c.loop-k.invariant.1
