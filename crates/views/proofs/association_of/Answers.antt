-- `views::association_of` meets its contract. Assumes nothing.
use Rattle.views.proofs.TableLaws.{named-inside, named-read}
use native.Mathlib.Omega.{arith}
use Rattle.views.proofs.association_of.Goals as goal

pub returns-then-j-lt2048 : goal.returns-then-j-lt2048
returns-then-j-lt2048 c =
    λ head pl f v h l. named-read v c.args.row.0 h c.args.j _ l c.record_word-first.ensures _
    c.word.ensures

pub returns : goal.returns
returns c =
    λ head pl f v h l.
    let w = named-inside v c.args.row.0 h c.args.j _ l c.record_word-first.ensures in
    absurd (omega arith)
