-- `still_c::still_sources` meets its contract. Assumes nothing.
use Rattle.still_c.proofs.still_sources.Goals as goal

pub returns : goal.returns
returns c =
    (c.listed_numbers.ensures _ c.sources-l.ensures.0, c.sources-l.ensures.1.0, c.sources-l.ensures.1.1)
