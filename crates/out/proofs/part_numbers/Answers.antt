-- `out::part_numbers` meets its contract. Assumes nothing.
use Rattle.out.proofs.PartLaws.{part_none, part-some}
use Rattle.out.proofs.part_numbers.Goals as goal

pub returns-then-k-eq0 : goal.returns-then-k-eq0
returns-then-k-eq0 c = λ total head records x f w few b h. part_none _ f _ c.if-k-eq0.true

pub returns : goal.returns
returns c =
    λ total head records x f w few b h. part-some total head records x _ f w few b _ h c.if-k-eq0.false _ _
    c.word-offset.ensures c.word-size.ensures
