-- `layout::cropped` meets its contract. Assumes nothing.
use Rattle.std.proofs.Common.{arith}
use Rattle.layout.specs.inner.Margins.{margins_after}
use Rattle.layout.proofs.margins.cropped.Goals as goal

pub returns : goal.returns
unfolding margins_after
returns c =
    λ a b d e.
    let x = c.behind.ensures a in
    let y = c.behind-2.ensures b in
    rw (
      c.wider.ensures (omega arith),
      c.wider-2.ensures (omega arith),
      c.wider-3.ensures (omega (arith, x)),
      c.wider-4.ensures (omega (arith, y)),
      x,
      y,
    )
