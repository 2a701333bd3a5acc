-- `still_c::property_numbers` meets its contract. Assumes nothing.
use mathlib.Core.Path.{sym, ◌∙◌}
use Rattle.still_c.proofs.PartLaws.{asked-refused, asked-found}
use Rattle.still_c.proofs.property_numbers.Goals as goal

pub returns-in-Err : goal.returns-in-Err
returns-in-Err c =
    λ total head lent item k few e left. c.refused_numbers.ensures ∙
    asked-refused total head lent item k _ (sym e ∙ c.in-Err.is)

pub returns-in-Ok : goal.returns-in-Ok
returns-in-Ok c =
    λ total head lent item k few e left. asked-found total head lent item k _ (sym e ∙ c.in-Ok.is)
    few _ _ left (λ f records x. c.part_numbers.ensures total head records x f)
