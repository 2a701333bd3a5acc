-- `linking::sum_between` meets its contract. The loop's invariant: the sum is that of the extents passed. Assumes nothing.
use Prim.Native.Nat.{◌-◌, ◌<◌}
use mathlib.Core.Path.{◌≡◌}
use Rattle.linking.specs.inner.Links.{sum_from}
use Rattle.linking.proofs.sum_between.Given as goal

abbrev pub invariant-loop-e : goal.invariant-loop-e
invariant-loop-e l =
    (l.sum < 18446744073709551616) × (l.sum ≡ sum_from l.table l.first (l.e - l.first))
