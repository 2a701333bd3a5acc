-- `out::sized_numbers` meets its contract. Assumes nothing.
use mathlib.Core.Path.{sym, ◌∙◌}
use Rattle.out.proofs.OutLaws.{size-refused, size-told}
use Rattle.out.proofs.sized_numbers.Goals as goal

pub returns-in-Err : goal.returns-in-Err
returns-in-Err c = λ m e. c.refused_numbers.ensures ∙ size-refused m _ (sym c.in-Err.is ∙ e)

pub returns-in-Ok : goal.returns-in-Ok
returns-in-Ok c = λ m e. size-told m _ (sym c.in-Ok.is ∙ e)
