-- `reading::put_order` meets its contract: the rows of the first k keys are put. Assumes nothing.
use Prim.Native.Nat.{◌+◌, ◌≤◌}
use mathlib.Core.Path.{◌≡◌}
use lib.ListN.{length}
use Rattle.reading.proofs.OrderLaws.{order_to}
use Rattle.reading.proofs.put_order.Given as goal

abbrev pub invariant-loop-k : goal.invariant-loop-k
invariant-loop-k l = (l.first + l.n ≤ 512) × (length l.rows ≡ length l.initial.rows) × (l.rows ≡ order_to l.initial.rows l.keys l.first l.k)
