-- `still_c::still_trace` meets its contract. Assumes nothing.
use Rattle.still_c.proofs.still_trace.Goals as goal

pub returns : goal.returns
returns c =
    (c.traced_numbers.ensures _ c.trace-t.ensures.0, c.trace-t.ensures.1)
