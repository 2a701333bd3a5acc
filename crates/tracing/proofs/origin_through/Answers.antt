-- `tracing::origin_through` meets its contract. Assumes nothing.
use Rattle.tracing.proofs.origin_through.Goals as goal

pub returns : goal.returns
returns c =
    λ p h k. rw
    (c.origin_by.ensures, c.coordinate_through.ensures p h k, c.coordinate_through-2.ensures p h k)
