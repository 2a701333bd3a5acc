-- `readings::sum_of` is safe and ends. Assumes nothing.
use Prim.Native.Nat.{◌<◌}
use Rattle.readings.proofs.sum_of.Given as goal

abbrev pub invariant-loop-x : goal.invariant-loop-x
invariant-loop-x l = l.sum < 4294967296
