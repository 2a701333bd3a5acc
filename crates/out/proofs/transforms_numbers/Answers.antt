-- `out::transforms_numbers` meets its contract. Assumes nothing.
use Rattle.std.proofs.Common.{Ok, sym, ap, ◌∙◌}
use Rattle.out.proofs.OrientationLaws.{transforms-refused, transforms-none, transforms-one, transforms_two}
use Rattle.out.proofs.transforms_numbers.Goals as goal

pub returns-in-Err : goal.returns-in-Err
returns-in-Err c = λ m e. c.refused_numbers.ensures ∙ transforms-refused m _ (sym c.in-Err.is ∙ e)

pub returns-in-Ok-None : goal.returns-in-Ok-None
returns-in-Ok-None c = λ m e. transforms-none m (ap Ok (sym (rw c.in-Ok-None.is at c.in-Ok-None.field-0-is)) ∙ sym c.in-Ok-None.is ∙ e)

pub returns-in-Ok-One : goal.returns-in-Ok-One
returns-in-Ok-One c =
    λ m e. transforms-one m _ (ap Ok (sym (rw c.in-Ok-One.is at c.in-Ok-One.field-0-is)) ∙ sym c.in-Ok-One.is ∙ e) _ _
    (c.kind_number.ensures, c.value_in.ensures)

pub returns-in-Ok-Two : goal.returns-in-Ok-Two
returns-in-Ok-Two c =
    λ m e. transforms_two m _ _ (ap Ok (sym (rw c.in-Ok-Two.is at c.in-Ok-Two.field-0-is)) ∙ sym c.in-Ok-Two.is ∙ e) _ _ _ _
    (c.kind_number-in-Ok-Two.ensures, c.value_in-in-Ok-Two.ensures)
    (c.kind_number-in-Ok-Two-2.ensures, c.value_in-in-Ok-Two-2.ensures)
