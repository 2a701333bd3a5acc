-- `tracing::moved` meets its contract. Assumes nothing.
use Rattle.std.proofs.Common.{arith}
use Rattle.fields.specs.Choice.{pick}
use Rattle.tracing.specs.inner.Origins.{moved_by}
use Rattle.tracing.proofs.moved.Goals as goal

pub returns-then-back : goal.returns-then-back
unfolding moved_by pick
returns-then-back c = rw c.if-back.true (omega arith)

pub returns : goal.returns
unfolding moved_by pick
returns c = rw c.if-back.false
