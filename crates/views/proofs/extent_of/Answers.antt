-- `views::extent_of` meets its contract. Assumes nothing.
use Rattle.views.proofs.TableLaws.{extent-inside, extent-read}
use native.Mathlib.Omega.{arith}
use Rattle.views.proofs.extent_of.Goals as goal

pub returns-then-first-j-lt512 : goal.returns-then-first-j-lt512
returns-then-first-j-lt512 c =
    λ head pl f v h l. extent-read v c.args.row.0 h c.args.j _ l c.record_word-first.ensures _ _
    c.wide-then-first-j-lt512.ensures c.wide.ensures

pub returns : goal.returns
returns c =
    λ head pl f v h l.
    let w = extent-inside v c.args.row.0 h c.args.j _ l c.record_word-first.ensures in
    absurd (omega arith)
