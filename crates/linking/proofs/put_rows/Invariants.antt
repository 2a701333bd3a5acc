-- `linking::put_rows` meets its contract. The loop's invariant: the rows passed have their bytes. Assumes nothing.
use Prim.Native.Nat.{ℕ, ◌<◌}
use mathlib.Core.Path.{◌≡◌}
use mathlib.Core.List.{List}
use lib.ListN.{get_or}
use Rattle.linking.specs.inner.Links.{LinksIn}
use Rattle.linking.specs.inner.Bytes.{link_byte}
use Rattle.linking.proofs.put_rows.Given as goal

abbrev pub invariant-loop-r : goal.invariant-loop-r
invariant-loop-r l =
    (v : List ℕ) → LinksIn l.table v l.n → (x : ℕ) → x < l.r → get_or l.links x 0 ≡ link_byte l.table v 1 x
