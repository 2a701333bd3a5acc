-- `boxes::wide_child` meets its contract. Assumes nothing.
use Rattle.boxes.proofs.HeaderLaws.{says-long, child_whole, child_wrong, child_half}
use native.Mathlib.Omega.{arith}
use Rattle.boxes.proofs.wide_child.Goals as goal
use Rattle.boxes.proofs.wide_child.Goals.{then-size-lt16-via-then-size-lt16, then-size-lt16-via-else-size-lt16+then-left-size}

pub returns-then-left-lt16 : goal.returns-then-left-lt16
returns-then-left-lt16 c =
    let a = c.args in
    let p = c.requires in
    child_half a.s.now a.at p.1 (omega (arith, p.0)) c.if-left-lt16.true

pub returns-then-size-lt16 : goal.returns-then-size-lt16
returns-then-size-lt16 c =
    let a = c.args in
    let p = c.requires in
    child_wrong a.s.now a.at _ _ _ (says-long a.s.now a.at _ _ p.2 c.be64-size.ensures p.1
    c.if-left-lt16.false) (λ i j. elim c.then-size-lt16.branch [
      | then-size-lt16-via-then-size-lt16 w ↦ absurd (omega (arith, w.if-size-lt16.true))
      | then-size-lt16-via-else-size-lt16+then-left-size w ↦ absurd (omega (arith, w.if-left-size.true))
    ])

pub returns : goal.returns
returns c =
    let a = c.args in
    let p = c.requires in
    child_whole a.s.now a.at _ _ _ (says-long a.s.now a.at _ _ p.2 c.be64-size.ensures p.1
    c.if-left-lt16.false) c.if-size-lt16.false c.if-left-size.false
