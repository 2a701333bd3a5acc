-- `pictures::axis_of` meets its contract. Assumes nothing.
use Rattle.pictures.proofs.axis_of.Goals as goal

pub returns : goal.returns
returns c =
    rw (← c.be32-n.ensures, ← c.be32-d.ensures, ← c.be32-o.ensures, ← c.be32-od.ensures)
    c.edge_of.ensures
