-- `joining::put_level` meets its contract. The loop's invariant: the rows passed that are of the level have their runs, and so have all
-- below it. Assumes nothing.
use mathlib.Core.Path.{◌≡◌}
use lib.ListN.{length}
use Rattle.joining.proofs.RowLaws.{LevelRuns}
use Rattle.joining.proofs.put_level.Given as goal

abbrev pub invariant-loop-r : goal.invariant-loop-r
invariant-loop-r l =
    (length l.runs ≡ 512) × LevelRuns l.table l.rows l.end l.n l.level l.r l.links l.initial.runs l.runs
