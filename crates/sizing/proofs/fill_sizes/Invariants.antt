-- `sizing::fill_sizes` meets its contract. The loop's invariant: the rows passed are filled and keep 15, 29 and 16, the
-- others are as they were. Assumes nothing.
use mathlib.Core.Path.{◌≡◌}
use lib.ListN.{length, drop}
use Rattle.sizing.proofs.FillLaws.{FilledRows}
use Rattle.sizing.proofs.StandLaws.{Stands}
use Rattle.sizing.proofs.fill_sizes.Given as goal

abbrev pub invariant-loop-k : goal.invariant-loop-k
invariant-loop-k l =
    (length l.table ≡ length l.initial.table) × (drop 11280 l.table ≡ drop 11280 l.initial.table) × Stands l.head l.initial.table l.k l.table ×
    FilledRows l.head l.depths l.initial.table l.k l.table
