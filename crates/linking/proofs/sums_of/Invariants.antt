-- `linking::sums_of` meets its contract. The loop's invariant: the rows passed have their sums. Assumes nothing.
use Prim.Native.Nat.{ℕ, ◌+◌, ◌≤◌, ◌<◌}
use mathlib.Core.Path.{◌≡◌}
use lib.ListN.{length, get_or}
use Rattle.linking.specs.inner.Links.{first_extent, extents, length_sum}
use Rattle.records.specs.inner.Raw.{capped}
use Rattle.linking.proofs.sums_of.Given as goal

abbrev pub invariant-loop-r : goal.invariant-loop-r
invariant-loop-r l =
    (length l.sums ≡ 256) × ((x : ℕ) → x < l.r → first_extent l.table x + extents l.table x ≤ 512 →
    get_or l.sums x 0 ≡ capped (length_sum l.table x))
