-- `locations::put_extents` meets its contract. The loop's invariant: the extents so far are in the table. Assumes nothing.
use Prim.Native.Nat.{◌+◌, ◌*◌}
use mathlib.Core.Path.{◌≡◌}
use lib.Seq.{sets}
use Rattle.rules.specs.Words.{join_all}
use Rattle.locations.specs.inner.Parts.{extents_by, row_from}
use Rattle.locations.proofs.put_extents.Given as goal

abbrev pub invariant-loop-j : goal.invariant-loop-j
invariant-loop-j l = l.table ≡ sets l.initial.table (9232 + 4 * l.used) (join_all (row_from l.start) (extents_by l.w l.s l.at l.j))
