-- `arranged::move_records` meets its contract. Assumes nothing.
use Prim.Native.Nat.{ℕ, ◌*◌, ◌<◌}
use mathlib.Core.Path.{◌≡◌}
use lib.ListN.{length}
use Rattle.arranged.specs.inner.Order.{row_in}
use Rattle.arranged.proofs.StepLaws.{MovedTo}
use Rattle.arranged.proofs.move_records.Given as goal

abbrev pub invariant-loop-q : goal.invariant-loop-q
invariant-loop-q l =
    (length l.table ≡ length l.initial.table) × (length l.kept ≡ 1024) ×
    (((k : ℕ) → k < l.n → row_in l.rows k < l.n) → MovedTo (4 * l.q) l.n (row_in l.rows) l.initial.table l.table)
