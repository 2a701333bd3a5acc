-- `out::oriented_numbers` meets its contract. Assumes nothing.
use mathlib.Core.Path.{sym, ◌∙◌}
use Rattle.out.proofs.OrientationLaws.{orientation-refused, orientation-told}
use Rattle.out.proofs.oriented_numbers.Goals as goal

pub returns-in-Err : goal.returns-in-Err
returns-in-Err c = λ m e. c.refused_numbers.ensures ∙ orientation-refused m _ (sym c.in-Err.is ∙ e)

pub returns-in-Ok : goal.returns-in-Ok
returns-in-Ok c = λ m e. orientation-told m _ (sym c.in-Ok.is ∙ e)
