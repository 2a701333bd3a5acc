-- `out::points_numbers` meets its contract. Assumes nothing.
use mathlib.Core.Path.{sym, ◌∙◌}
use Rattle.out.proofs.OutLaws.{points-refused, points-told}
use Rattle.out.proofs.points_numbers.Goals as goal

pub returns-in-Err : goal.returns-in-Err
returns-in-Err c = λ m e. c.refused_numbers.ensures ∙ points-refused m _ (sym c.in-Err.is ∙ e)

pub returns-in-Ok : goal.returns-in-Ok
returns-in-Ok c = λ m e. points-told m _ (sym c.in-Ok.is ∙ e)
