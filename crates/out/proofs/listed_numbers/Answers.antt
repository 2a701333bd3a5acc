-- `out::listed_numbers` meets its contract. Assumes nothing.
use mathlib.Core.Path.{sym, ◌∙◌}
use Rattle.out.proofs.OutLaws.{list-refused, list-told}
use Rattle.out.proofs.listed_numbers.Goals as goal

pub returns-in-Err : goal.returns-in-Err
returns-in-Err c = λ m e. c.refused_numbers.ensures ∙ list-refused m _ (sym c.in-Err.is ∙ e)

pub returns-in-Ok : goal.returns-in-Ok
returns-in-Ok c = λ m e. list-told m _ (sym c.in-Ok.is ∙ e)
