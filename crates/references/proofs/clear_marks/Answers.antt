-- `references::clear_marks` meets its contract. Assumes nothing.
use native.Mathlib.Omega.{arith}
use Rattle.references.proofs.NameLaws.{cleared}
use Rattle.references.proofs.clear_marks.Goals as goal

pub returns : goal.returns
returns c = cleared c.args.rows.now c.fill.new.self 2048 256 (omega arith) (c.fill.ensures.after (λ y e. e))
