-- `joining::seek` meets its contract. The loop's invariant: the byte is that number `rest` of the extents left. Assumes nothing.
use Prim.Native.Nat.{◌-◌}
use mathlib.Core.Path.{◌≡◌}
use Rattle.joining.specs.inner.Lies.{holder_from}
use Rattle.joining.proofs.seek.Given as goal

abbrev pub invariant-loop-e : goal.invariant-loop-e
invariant-loop-e l =
    holder_from l.table l.first (l.end - l.first) l.p ≡ holder_from l.table l.e (l.end - l.e) l.rest
