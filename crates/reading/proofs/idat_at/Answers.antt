-- `reading::idat_at` meets its contract. Assumes nothing.
use native.Mathlib.Omega.{arith}
use Rattle.reading.proofs.SpotLaws.{no_idat-at, an_idat-at, idat-within}
use Rattle.reading.proofs.idat_at.Goals as goal

pub returns-then-d-eq0 : goal.returns-then-d-eq0
returns-then-d-eq0 c = λ s st. no_idat-at s c.args.at _ st c.if-d-eq0.true

pub overflow_add-result : goal.overflow_add-result
overflow_add-result c =
    let p = c.requires in
    let h = idat-within p.0 c.args.at _ p.1 p.2 in
    omega arith

pub returns : goal.returns
returns c = λ s st. an_idat-at s c.args.at _ st c.if-d-eq0.false
