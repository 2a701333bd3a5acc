-- `turned::part_within` meets its contract. Assumes nothing.
use Rattle.turned.proofs.part_within.Goals as goal

pub returns : goal.returns
returns c =
    λ pl f v h fit i j.
    let x = c.undone-a.ensures pl f v h fit i in
    let y = c.undone-b.ensures pl f v h fit j in
    rw (c.part_between.ensures, x, y)
