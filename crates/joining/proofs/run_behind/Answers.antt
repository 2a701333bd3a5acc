-- `joining::run_behind` meets its contract. Assumes nothing.
use native.Mathlib.Omega.{arith}
use mathlib.Core.Path.{sym, ◌∙◌}
use lib.ListN.{get_or-eq_default}
use borrow.Author.Tests.{lt-ltb, le-ltb}
use Rattle.fields.proofs.FieldLaws.{pick_yes, pick_no}
use Rattle.joining.proofs.run_behind.Goals as goal

pub returns-then-end-e-clause-value : goal.returns-then-end-e-clause-value
returns-then-end-e-clause-value c = sym (pick_no _ _ (le-ltb c.args.e c.args.end c.if-end-e.true))

pub returns-then-e-runs-clause-value : goal.returns-then-e-runs-clause-value
returns-then-e-runs-clause-value c = sym (pick_yes _ _ (lt-ltb c.args.e c.args.end (omega arith)))

pub returns-clause-value : goal.returns-clause-value
returns-clause-value c =
    sym (pick_yes _ _ (lt-ltb c.args.e c.args.end (omega arith)) ∙ get_or-eq_default c.args.runs.now 0 c.if-e-runs.false)
