-- `declared::ispe_size` meets its contract. Assumes nothing.
use native.Mathlib.Omega.{arith}
use Rattle.declared.proofs.ispe_size.Goals as goal

pub returns-then-b-lt12 : goal.returns-then-b-lt12
returns-then-b-lt12 c = λ h. absurd (omega arith)

pub returns : goal.returns
returns c = λ h. rw (c.be32.ensures, c.be32-2.ensures)
