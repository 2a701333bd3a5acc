-- `joining::copy_bytes` meets its contract. The loop's invariant: the bytes passed are copied. The measure is what is left of them.
-- Assumes nothing.
use Prim.Native.Nat.{◌-◌, ◌≤◌}
use mathlib.Core.Path.{◌≡◌}
use lib.ListN.{length}
use Rattle.joining.proofs.CopyLaws.{CopiedTo}
use Rattle.joining.proofs.copy_bytes.Given as goal

abbrev pub invariant-loop-done : goal.invariant-loop-done
invariant-loop-done l =
    (l.done ≤ l.n) × (length l.out ≡ length l.initial.out) × CopiedTo l.table l.rows l.head l.row.0 l.p l.n l.initial.out l.done l.out

abbrev pub decreases-loop-done : goal.decreases-loop-done
decreases-loop-done l = l.n - l.done
