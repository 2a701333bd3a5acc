-- `still_c::still_size` meets its contract. Assumes nothing.
use Rattle.still_c.proofs.still_size.Goals as goal

pub returns : goal.returns
returns c =
    (c.sized_numbers.ensures _ c.size-s.ensures.0, c.size-s.ensures.1)
