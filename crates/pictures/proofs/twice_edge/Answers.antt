-- `pictures::twice_edge` meets its contract. Assumes nothing.
use Rattle.pictures.specs.inner.Told.{told_step}
use Rattle.pictures.proofs.EdgeLaws.{twice_right, twice-checked}
use Rattle.std.proofs.Common.{sym, ap}
use Rattle.pictures.proofs.twice_edge.Goals as goal

pub returns-then-o-lt2147483648 : goal.returns-then-o-lt2147483648
unfolding told_step
returns-then-o-lt2147483648 c = let a = c.args in sym (ap told_step (twice_right a.common a.o c.if-o-lt2147483648.true))

pub returns : goal.returns
returns c = twice-checked c.args.common c.args.o _ c.if-o-lt2147483648.false c.checked_sub.ensures
