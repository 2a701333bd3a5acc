-- `arranged::keep_quarters` meets its contract. Assumes nothing.
use mathlib.Core.Path.{◌≡◌}
use Rattle.arranged.proofs.StepLaws.{kept_more}
use native.Mathlib.Omega.{arith}
use Rattle.arranged.proofs.keep_quarters.Goals as goal

pub loop-k-preserved : goal.loop-k-preserved
loop-k-preserved c =
    let a = c.args in
    kept_more c.loop-k.k a.c a.table.now a.kept.now c.loop-k.kept c.loop-k.invariant
    (omega (arith, c.loop-k.invariant.long))

pub returns : goal.returns
returns c = let e : c.loop-k.k ≡ c.args.n = omega arith in rw e at c.loop-k.invariant
