-- `still_c::still_body` meets its contract. Assumes nothing.
use Rattle.still_c.proofs.still_body.Goals as goal

pub returns : goal.returns
returns c =
    (c.bodied_numbers.ensures _ c.body-b.ensures.0, c.body-b.ensures.1.0, c.body-b.ensures.1.1)
