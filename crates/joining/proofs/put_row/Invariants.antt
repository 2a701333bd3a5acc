-- `joining::put_row` meets its contract. The loop's invariant: the extents from e on have their runs, and no others are changed. Assumes nothing.
use Prim.Native.Nat.{◌≤◌}
use mathlib.Core.Path.{◌≡◌}
use lib.ListN.{length}
use Rattle.joining.proofs.RowLaws.{RowRuns}
use Rattle.joining.proofs.put_row.Given as goal

abbrev pub invariant-loop-e : goal.invariant-loop-e
invariant-loop-e l =
    (length l.runs ≡ 512) × (l.behind ≤ 16403) ×
    RowRuns l.table l.rows l.end l.row.0 l.first l.past l.e l.behind l.initial.runs l.runs
