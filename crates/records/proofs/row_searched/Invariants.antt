-- `records::row_searched` meets its contract. The loop's invariant: no row passed has the ID. Assumes nothing.
use Prim.Native.Nat.{ℕ, ◌<◌}
use mathlib.Core.Path.{◌≡◌}
use Rattle.records.specs.inner.Rows.{id_at}
use Rattle.records.proofs.row_searched.Given as goal

abbrev pub invariant-loop-k : goal.invariant-loop-k
invariant-loop-k l = (j : ℕ) → j < l.k → id_at l.table j ≡ l.id.0 → ⊥
