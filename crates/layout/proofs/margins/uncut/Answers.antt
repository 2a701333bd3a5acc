-- `layout::uncut` meets its contract. Assumes nothing.
use Rattle.std.proofs.Common.{arith}
use Rattle.layout.proofs.margins.uncut.Goals as goal

pub returns : goal.returns
returns c =
    λ a b.
    let x = c.wider.ensures (omega arith) in
    let y = c.wider-3.ensures (omega arith) in
    (omega (arith, x, c.wider-2.ensures (omega (arith, x))), omega (arith, y, c.wider-4.ensures (omega (arith, y))))
