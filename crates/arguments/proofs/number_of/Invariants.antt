-- `arguments::number_of` answers `number_of`. Assumes nothing.
use Prim.Native.Nat.{◌<◌}
use mathlib.Core.Path.{◌≡◌}
use mathlib.Core.Bool.{true}
use lib.ListN.{length}
use Rattle.arguments.specs.inner.Number.{digits}
use Rattle.arguments.specs.inner.Number.{value as valueTo}
use Rattle.arguments.proofs.number_of.Given as goal

abbrev pub invariant-loop-i : goal.invariant-loop-i
invariant-loop-i l = (0 < length l.s) × (l.value ≡ valueTo l.s l.i) × (digits l.s l.i ≡ true) × (l.value < 4294967296)
