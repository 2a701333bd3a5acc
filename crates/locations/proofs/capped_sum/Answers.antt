-- `locations::capped_sum` meets its contract. Assumes nothing.
use mathlib.Core.Path.{◌∙◌}
use Prim.Native.Nat.{◌+◌}
use Rattle.locations.proofs.PutLaws.{capped_least}
use Rattle.locations.proofs.capped_sum.Goals as goal

pub returns : goal.returns
returns c = c.saturating_add.ensures ∙ capped_least (c.args.a + c.args.b)
