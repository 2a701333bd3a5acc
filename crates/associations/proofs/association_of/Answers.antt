-- `associations::association_of` meets its contract. Assumes nothing.
use Rattle.associations.proofs.AssociationLaws.{index-high, index-low}
use Rattle.associations.proofs.association_of.Goals as goal

pub returns-then-mark-a : goal.returns-then-mark-a
returns-then-mark-a c = index-high c.args.a c.args.mark c.requires.0 c.if-mark-a.true

pub returns : goal.returns
returns c = index-low c.args.a c.args.mark c.requires.0 c.if-mark-a.false
