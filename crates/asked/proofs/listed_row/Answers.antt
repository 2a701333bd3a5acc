-- `asked::listed_row` meets its contract. Assumes nothing.
use Rattle.asked.proofs.PicturedLaws.{row-listed}
use Rattle.asked.proofs.listed_row.Goals as goal

pub returns : goal.returns
returns c =
    λ head pl f v.
    rw (c.ok_or.ensures.value, c.row_named.ensures head pl f v) (row-listed f _ _ c.refusal.ensures.0 c.refusal.ensures.1)
