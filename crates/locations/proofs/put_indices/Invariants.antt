-- `locations::put_indices` meets its contract. The loop's invariant: the marks so far are among the rows. Assumes nothing.
use Prim.Native.Nat.{◌+◌}
use mathlib.Core.Path.{◌≡◌}
use lib.Seq.{sets}
use Rattle.records.proofs.NamedLaws.{marks_of}
use Rattle.locations.specs.inner.Parts.{extents_by}
use Rattle.locations.proofs.put_indices.Given as goal

abbrev pub invariant-loop-j : goal.invariant-loop-j
invariant-loop-j l = l.rows ≡ sets l.initial.rows (2304 + l.used) (marks_of (extents_by l.w l.s l.at l.j))
