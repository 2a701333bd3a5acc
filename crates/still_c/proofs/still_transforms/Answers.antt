-- `still_c::still_transforms` meets its contract. Assumes nothing.
use Rattle.still_c.proofs.still_transforms.Goals as goal

pub returns : goal.returns
returns c = c.transforms_numbers.ensures _ c.transforms-l.ensures
