-- `still_c::still_verdict` meets its contract. Assumes nothing.
use Rattle.still_c.proofs.still_verdict.Goals as goal

pub returns : goal.returns
returns c =
    (c.verdict_numbers.ensures _ c.verdict-v.ensures.0, c.verdict-v.ensures.1)
