-- `tracing::next_transform` meets its contract. The loop's invariant: what is left from k on leads to the same
-- transform as what is left from j on. Assumes nothing.
use Rattle.std.proofs.Common.{◌≡◌, ℕ, ◌+◌, ◌<◌, ◌≤◌, max, List, length, drop}
use Rattle.contents.specs.File.{File}
use Rattle.rules.specs.Joined.{types_of}
use Rattle.rules.specs.Places.{Places}
use Rattle.views.specs.inner.View.{TableOf, record_word, id_of}
use Rattle.tracing.specs.inner.Told.{first_transform}
use Rattle.tracing.proofs.next_transform.Given as goal

abbrev pub invariant-loop-k : goal.invariant-loop-k
invariant-loop-k l =
    (l.k ≤ max l.j l.n) × ((head : List ℕ) (pl : Places) (f : File) (r : ℕ) → TableOf l.table head pl f → r < length f.items →
    (r < 256 → l.first ≡ record_word l.table r 3) → (r < 256 → l.n ≡ record_word l.table r 4) →
    l.k + first_transform (drop l.k (types_of f (id_of f r))) ≡ l.j + first_transform (drop l.j (types_of f (id_of f r))))
