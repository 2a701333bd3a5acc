-- `arranged::put_quarters` meets its contract. Assumes nothing.
use mathlib.Core.Path.{◌≡◌, refl}
use Rattle.arranged.proofs.StepLaws.{put-more}
use native.Mathlib.Omega.{arith}
use Rattle.arranged.proofs.put_quarters.Goals as goal

pub loop-k-preserved : goal.loop-k-preserved
loop-k-preserved c =
    let a = c.args in
    put-more c.loop-k.k a.c a.kept.now a.rows.now a.table.now c.loop-k.table
    c.loop-k.invariant (omega arith) (omega (arith, c.loop-k.invariant.long)) _ refl

pub returns : goal.returns
returns c = let e : c.loop-k.k ≡ c.args.n = omega arith in rw e at c.loop-k.invariant
