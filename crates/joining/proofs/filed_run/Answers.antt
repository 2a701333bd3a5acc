-- `joining::filed_run` meets its contract. Assumes nothing.
use native.Mathlib.Omega.{arith}
use mathlib.Core.Path.{◌∙◌}
use Rattle.joining.proofs.LeadingLaws.{filed-none, filed-some}
use Rattle.joining.proofs.filed_run.Goals as goal

pub returns-then-end-from : goal.returns-then-end-from
returns-then-end-from c =
    let a = c.args in
    filed-none a.end a.from 16403 c.if-end-from.true

pub returns : goal.returns
returns c =
    let a = c.args in
    c.min.ensures ∙ filed-some a.end a.from 16403 (omega (arith, c.if-end-from.false))
