-- `judging::first_fault` meets its contract. Assumes nothing.
use mathlib.Core.Path.{◌≡◌}
use Rattle.contents.specs.File.{File}
use Rattle.judging.specs.inner.Order.{Ready}
use Rattle.judging.proofs.OrderLaws.{from}
use Rattle.judging.proofs.first_fault.Given as goal

abbrev pub invariant-loop-k : goal.invariant-loop-k
invariant-loop-k l =
    (f : File) → Ready l.rule l.table l.rows l.runs l.head l.ends.total l.ends.idat f →
    from l.rule l.ends.total l.head f 0 ≡ from l.rule l.ends.total l.head f l.k
