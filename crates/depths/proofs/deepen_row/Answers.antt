-- `depths::deepen_row` meets its contract. Assumes nothing.
use native.Mathlib.Omega.{arith}
use Rattle.depths.proofs.SweepLaws.{grown, ungrown}
use Rattle.depths.proofs.deepen_row.Goals as goal

pub returns-then-word-d : goal.returns-then-word-d
returns-then-word-d c =
    let a = c.args in
    grown a.depths.now a.row.0 a.depth c.min-d.result c.word.result
    (omega (arith, c.min-d.ensures)) c.word.ensures c.if-word-d.true

pub returns : goal.returns
returns c =
    let a = c.args in
    ungrown a.depths.now a.row.0 a.depth c.min-d.result c.word.result
    (omega (arith, c.min-d.ensures)) c.word.ensures c.if-word-d.false
