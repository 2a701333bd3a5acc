-- `boxes::header_at` meets its contract. Assumes nothing.
use native.Mathlib.Omega.{arith}
use mathlib.Core.Path.{sym, ◌∙◌}
use Rattle.boxes.proofs.HeaderLaws.{header-none, header-half, header-short, header-long}
use Rattle.boxes.proofs.header_at.Goals as goal

pub returns-then-left-lt8 : goal.returns-then-left-lt8
returns-then-left-lt8 c =
    header-none c.args.s.now c.args.at (omega arith)

pub returns-then-left-lt16 : goal.returns-then-left-lt16
returns-then-left-lt16 c =
    header-half c.args.s.now c.args.at (sym c.be32-size.ensures ∙ c.if-size-eq1.true) (omega arith)

pub returns-then-size-eq1 : goal.returns-then-size-eq1
returns-then-size-eq1 c =
    let a = c.args in
    rw (c.be32-kind.ensures, c.be64.ensures) (header-long a.s.now a.at
    (sym c.be32-size.ensures ∙ c.if-size-eq1.true) (omega arith))

pub returns : goal.returns
returns c =
    let a = c.args in
    rw (c.from.ensures, c.be32-kind.ensures, c.be32-size.ensures) (header-short a.s.now a.at
    (λ q. c.if-size-eq1.false (c.be32-size.ensures ∙ q)) (omega arith))
