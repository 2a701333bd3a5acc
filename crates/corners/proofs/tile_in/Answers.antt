-- `corners::tile_in` meets its contract. Assumes nothing.
use native.Mathlib.Omega.{arith}
use Rattle.corners.proofs.tile_in.Goals as goal

pub returns-then-columns-eq0 : goal.returns-then-columns-eq0
returns-then-columns-eq0 c = λ h. absurd (omega arith)

pub returns : goal.returns
returns c = λ h. rw (c.product.ensures.1, c.product-2.ensures.1)
