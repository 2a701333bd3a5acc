-- `arranged::is_rising` meets its contract. Assumes nothing.
use Prim.Native.Nat.{◌+◌}
use mathlib.Core.Path.{◌≡◌, sym, subst}
use mathlib.Core.Bool.{Bool, true}
use Rattle.arranged.specs.inner.Order.{Rising}
use Rattle.arranged.proofs.StepLaws.{rising-not, rising-more}
use native.Mathlib.Omega.{arith}
use Rattle.arranged.proofs.is_rising.Goals as goal
use Rattle.arranged.proofs.is_rising.Goals.{then-rows-k, else-rows-k}

pub loop-k-preserved : goal.loop-k-preserved
loop-k-preserved c =
    let rows = c.args.rows.now in
    elim c.if-rows-k.branch [
      | then-rows-k w ↦ rising-not c.loop-k.k rows c.if-rows-k.rising w.if-rows-k.true w.rising-is
      | else-rows-k w ↦
          subst (λ (r : Bool). (r ≡ true → Rising (c.loop-k.k + 1) rows) × (Rising (c.loop-k.k + 1) rows → r ≡ true)) (sym w.rising-is)
          (rising-more c.loop-k.k rows c.loop-k.rising w.if-rows-k.false c.loop-k.invariant)
    ]

pub returns : goal.returns
returns c =
    let e : c.loop-k.k ≡ c.args.n = omega arith in
    let w = rw e at c.loop-k.invariant in
    record { rising = w.0; value = w.1 }
