-- `turned::margins_through` meets its contract: what is left from association j on makes of `margins` what all make of m. Assumes nothing.
use Prim.Native.Nat.{◌<◌}
use lib.ListN.{length, drop}
use Rattle.contents.specs.File.{File}
use Rattle.pictures.specs.Decode.{turns_of}
use Rattle.rules.specs.Joined.{boxes_of}
use Rattle.rules.specs.Places.{Places}
use Rattle.views.specs.inner.View.{TableOf, id_of}
use Rattle.turned.proofs.TurnsLaws.{Leads}
use Rattle.turned.proofs.margins_through.Given as goal

abbrev pub invariant-loop-j : goal.invariant-loop-j
invariant-loop-j l =
    (pl : Places) (f : File) → TableOf l.table l.head pl f → l.row.0 < length f.items →
    Leads (turns_of l.initial.size (boxes_of f (id_of f l.row.0))) l.initial.size l.initial.margins
    (turns_of l.size (drop l.j (boxes_of f (id_of f l.row.0)))) l.size l.margins
