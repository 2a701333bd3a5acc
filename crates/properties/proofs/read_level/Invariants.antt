-- `properties::read_level` meets its contract. Assumes nothing.
use Rattle.properties.proofs.LevelLaws.{LevelSo}
use lib.ListN.{length}
use Prim.Native.Nat.{◌-◌}
use Rattle.properties.proofs.read_level.Given as goal

abbrev pub invariant-loop-kind : goal.invariant-loop-kind
invariant-loop-kind l = LevelSo l.s l.place l.base l.l l.at

abbrev pub decreases-loop-kind : goal.decreases-loop-kind
decreases-loop-kind l = length l.s - l.at
