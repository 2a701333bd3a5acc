-- `joining::runs_of` meets its contract. The loop's invariant: the rows of a level below the one at hand have their runs. Assumes nothing.
use mathlib.Core.Path.{◌≡◌}
use lib.ListN.{length}
use Rattle.linking.specs.inner.Bytes.{LinksAre}
use Rattle.joining.specs.inner.Lies.{RunsTo, Sourced}
use Rattle.joining.proofs.runs_of.Given as goal

abbrev pub invariant-loop-level : goal.invariant-loop-level
invariant-loop-level l =
    (length l.runs ≡ 512) × (Sourced l.table l.rows l.n → LinksAre l.table l.rows l.n l.links →
    RunsTo l.level l.table l.rows l.end l.n l.runs)
