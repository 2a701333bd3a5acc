-- `judging::deepest_of` meets its contract. The loop's invariant: no row passed is deeper. Assumes nothing.
use Prim.Native.Nat.{ℕ, ◌≤◌, ◌<◌}
use Rattle.views.specs.inner.View.{record_word}
use Rattle.judging.proofs.deepest_of.Given as goal

abbrev pub invariant-loop-r : goal.invariant-loop-r
invariant-loop-r l = (k : ℕ) → k < l.r → k < 256 → record_word l.table k 14 ≤ l.deepest
