-- `marks::mark` meets its contract: a 0 becomes 1, and what is no 0 is 1 already. Assumes nothing.
use native.Mathlib.Omega.{arith}
use Rattle.marks.proofs.MarkLaws.{spread_same, spread_set}
use Rattle.marks.proofs.mark.Goals as goal
use Rattle.marks.proofs.mark.Goals.{else-x-marks-via-then-x-marks+else-marks-x-eq0, else-x-marks-via-else-x-marks}

pub returns-then-marks-x-eq0 : goal.returns-then-marks-x-eq0
returns-then-marks-x-eq0 c =
    let a = c.args in
    spread_set a.marks.now a.x c.requires c.if-x-marks.true c.if-marks-x-eq0.true

pub returns : goal.returns
returns c =
    let a = c.args in
    spread_same a.marks.now a.x c.requires (elim c.else-x-marks.branch [
      | else-x-marks-via-then-x-marks+else-marks-x-eq0 w ↦ λ h. omega (arith, c.requires a.x, w.if-marks-x-eq0.false)
      | else-x-marks-via-else-x-marks w ↦ λ h. absurd (omega arith)
    ])
