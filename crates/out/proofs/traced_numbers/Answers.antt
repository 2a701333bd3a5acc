-- `out::traced_numbers` meets its contract. Assumes nothing.
use Rattle.std.proofs.Common.{Ok, sym, ap, ◌∙◌}
use Rattle.out.proofs.OutLaws.{trace-refused, trace-pixel, trace-fill}
use Rattle.out.proofs.traced_numbers.Goals as goal

pub returns-in-Err : goal.returns-in-Err
returns-in-Err c = λ m e. c.refused_numbers.ensures ∙ trace-refused m _ (sym c.in-Err.is ∙ e)

pub returns-in-Ok-Pixel : goal.returns-in-Ok-Pixel
returns-in-Ok-Pixel c = λ m e. trace-pixel _ _ _ _ m (ap Ok (sym (rw c.in-Ok-Pixel.is at c.in-Ok-Pixel.field-0-is)) ∙ sym c.in-Ok-Pixel.is ∙ e)

pub returns-in-Ok-Fill : goal.returns-in-Ok-Fill
returns-in-Ok-Fill c = λ m e. trace-fill _ _ _ _ m (ap Ok (sym (rw c.in-Ok-Fill.is at c.in-Ok-Fill.field-0-is)) ∙ sym c.in-Ok-Fill.is ∙ e)
