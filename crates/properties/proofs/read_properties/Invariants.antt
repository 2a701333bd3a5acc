-- `properties::read_properties` meets its contract. Assumes nothing.
use Rattle.properties.proofs.PropertyLaws.{PropertiesSo}
use lib.ListN.{length}
use Prim.Native.Nat.{◌-◌}
use Rattle.properties.proofs.read_properties.Given as goal

abbrev pub invariant-loop-kind : goal.invariant-loop-kind
invariant-loop-kind l = PropertiesSo l.s l.place l.base l.initial.table l.table l.at l.n

abbrev pub decreases-loop-kind : goal.decreases-loop-kind
decreases-loop-kind l = length l.s - l.at
