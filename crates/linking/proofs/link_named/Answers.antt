-- `linking::link_named` meets its contract. Assumes nothing.
use Rattle.linking.proofs.ByteLaws.{named_in, named_out}
use borrow.Author.Rules.{rules}
use Rattle.linking.proofs.link_named.Goals as goal

pub returns-then-x-gt255 : goal.returns-then-x-gt255
returns-then-x-gt255 c = named_out c.args.links.now c.args.x (search rules)

pub returns : goal.returns
returns c =
    named_in c.args.links.now c.args.x (search rules)
