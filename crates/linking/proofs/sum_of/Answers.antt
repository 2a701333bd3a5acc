-- `linking::sum_of` meets its contract. Assumes nothing.
use native.Mathlib.Omega.{arith}
use Rattle.linking.proofs.ByteLaws.{sum_row}
use Rattle.linking.proofs.sum_of.Goals as goal

pub returns-then-first-count-gt512 : goal.returns-then-first-count-gt512
returns-then-first-count-gt512 c =
    λ h l. absurd (omega (arith, c.held_word-first.ensures h, c.held_word-count.ensures h, c.if-first-count-gt512.true))

pub returns : goal.returns
returns c =
    let a = c.args in
    λ h l. sum_row a.table.now a.row.0 c.held_word-first.result c.held_word-count.result c.sum_between.result (c.held_word-first.ensures h)
    (c.held_word-count.ensures h) c.sum_between.ensures
