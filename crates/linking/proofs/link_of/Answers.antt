-- `linking::link_of` meets its contract. Assumes nothing.
use mathlib.Core.Path.{refl, sym}
use lib.ListN.{get_or-eq_default}
use Rattle.linking.proofs.link_of.Goals as goal

pub returns-then-r-links : goal.returns-then-r-links
returns-then-r-links c = refl

pub returns : goal.returns
returns c = sym (get_or-eq_default c.args.links.now 0 {n = c.args.row.0} c.if-r-links.false)
