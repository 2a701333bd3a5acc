-- `still_c::still_points` meets its contract. Assumes nothing.
use Rattle.still_c.proofs.still_points.Goals as goal

pub returns : goal.returns
returns c =
    (c.points_numbers.ensures _ c.point_numbers-f.ensures.0, c.point_numbers-f.ensures.1.0, c.point_numbers-f.ensures.1.1)
