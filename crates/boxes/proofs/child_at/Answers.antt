-- `boxes::child_at` meets its contract. Assumes nothing.
use Rattle.boxes.proofs.HeaderLaws.{says-short, child_whole, child_wrong, child_end, child_spare}
use mathlib.Core.Path.{sym, ◌∙◌}
use native.Mathlib.Omega.{arith}
use Rattle.boxes.proofs.child_at.Goals as goal
use Rattle.boxes.proofs.child_at.Goals.{then-size-lt8-via-then-size-lt8, then-size-lt8-via-else-size-lt8+then-left-size}

pub returns-then-s-at : goal.returns-then-s-at
returns-then-s-at c =
    child_end c.args.s.now c.args.at c.if-s-at.true

pub returns-then-left-lt8 : goal.returns-then-left-lt8
returns-then-left-lt8 c =
    child_spare c.args.s.now c.args.at c.if-s-at.false c.if-left-lt8.true

pub wide_child-requires : goal.wide_child-requires
wide_child-requires c =
    (omega (arith, c.if-left-lt8.false), sym c.be32-size.ensures ∙ c.if-size-eq1.true, c.be32-kind.ensures)

pub returns-then-size-eq1 : goal.returns-then-size-eq1
returns-then-size-eq1 c = c.wide_child.ensures

pub returns-then-size-lt8 : goal.returns-then-size-lt8
returns-then-size-lt8 c =
    let a = c.args in
    child_wrong a.s.now a.at _ _ _ (says-short a.s.now a.at _ _ c.be32-kind.ensures c.be32-size.ensures
    c.if-size-eq1.false c.if-left-lt8.false) (λ i j. elim c.then-size-lt8.branch [
      | then-size-lt8-via-then-size-lt8 w ↦ absurd (omega (arith, w.if-size-lt8.true))
      | then-size-lt8-via-else-size-lt8+then-left-size w ↦ absurd (omega (arith, w.if-left-size.true))
    ])

pub returns : goal.returns
returns c =
    let a = c.args in
    child_whole a.s.now a.at _ _ _ (says-short a.s.now a.at _ _ c.be32-kind.ensures c.be32-size.ensures
    c.if-size-eq1.false c.if-left-lt8.false) c.if-size-lt8.false c.if-left-size.false
