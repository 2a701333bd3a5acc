-- `tracing::origin_at` meets its contract. Assumes nothing.
use Rattle.tracing.proofs.origin_at.Goals as goal

pub returns : goal.returns
returns c = rw (c.coordinate_at.ensures, c.coordinate_at-2.ensures)
