-- `between::lay` is safe and ends: the records stay as many as they are. Assumes nothing.
use borrow.Author.Rules.{rules}
use Rattle.between.proofs.lay.Goals as goal

pub loop-k-init : goal.loop-k-init
loop-k-init c = (search rules, search rules, search rules)

pub loop-k-preserved : goal.loop-k-preserved
loop-k-preserved c = (search rules, search rules, search rules)
