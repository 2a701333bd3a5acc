-- `still_c::still_orientation` meets its contract. Assumes nothing.
use Rattle.still_c.proofs.still_orientation.Goals as goal

pub returns : goal.returns
returns c =
    (c.oriented_numbers.ensures _ c.orientation-o.ensures.0, c.orientation-o.ensures.1)
