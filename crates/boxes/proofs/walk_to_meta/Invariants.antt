-- `boxes::walk_to_meta` meets its contract. Assumes nothing.
use Rattle.boxes.specs.Top.{walk}
use lib.ListN.{length, drop}
use mathlib.Core.Path.{◌≡◌}
use Prim.Native.Nat.{◌-◌}
use Rattle.boxes.proofs.walk_to_meta.Given as goal

abbrev pub invariant-loop-kind : goal.invariant-loop-kind
invariant-loop-kind l = walk l.from l.left (drop l.from l.head) ≡ walk l.at l.n (drop l.at l.head)

abbrev pub decreases-loop-kind : goal.decreases-loop-kind
decreases-loop-kind l = length l.head - l.at
