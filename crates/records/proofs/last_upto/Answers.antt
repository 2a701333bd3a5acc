-- `records::last_upto` meets its contract. The loop's invariant: the last key that is at most x is one of `width` from `at` on. The measure is
-- the width. Assumes nothing.
use Prim.Native.Nat.{◌/◌}
use native.Mathlib.Omega.{arith}
use Rattle.records.proofs.KeyedLaws.{within_all, within-right, within-left, within-one}
use Rattle.records.proofs.last_upto.Goals as goal
use Rattle.records.proofs.last_upto.Goals.{then-keys-at, else-keys-at}

pub loop-width-init : goal.loop-width-init
loop-width-init c = (omega arith, omega arith, within_all c.args.keys.now c.args.x)

pub loop-width-preserved : goal.loop-width-preserved
loop-width-preserved c =
    let l = c.loop-width in
    let a = c.args in
    let ks = a.keys.now in
    elim c.if-keys-at.branch [
      | then-keys-at w ↦
          (omega arith, omega arith, within-right ks a.x l.at l.width (l.width / 2) c.if-keys-at.at (omega arith) w.if-keys-at.true w.at-is l.invariant.2)
      | else-keys-at w ↦
          (omega arith, omega arith, within-left ks a.x l.at l.width (l.width / 2) c.if-keys-at.at (omega arith) w.if-keys-at.false w.at-is l.invariant.2)
    ]

pub returns : goal.returns
returns c =
    let l = c.loop-width in
    let a = c.args in
    within-one a.keys.now a.x l.at l.width l.invariant.0 (omega arith) l.invariant.1 l.invariant.2
