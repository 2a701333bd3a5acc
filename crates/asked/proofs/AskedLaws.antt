-- The property that an item's association names. Assumes nothing.
use Prim.Native.Nat.{ℕ, ◌-◌, ◌<◌, ◌≤◌}
use mathlib.Core.Path.{◌≡◌}
use lib.ListN.{length, get_or}
use borrow.Author.Tests.{le-leb, lt-leb}
use Rattle.boxes.specs.Answer.{ok, refuse, check, ◌>>=◌, ◌>>◌}
use Rattle.contents.specs.File.{File}
use Rattle.rules.specs.Joined.{associations_of, no_association}
use Rattle.rules.specs.Opening.{listed}
use Rattle.views.specs.inner.View.{id_of}
use Rattle.asked.specs.Told.{index_in}
use Rattle.asked.proofs.PicturedLaws.{listed_id}

module _ (f : File) (id k r : ℕ) (e : listed f id ≡ ok r) where
  pub index_under : k < 1 → index_in f id k ≡ refuse 25 id
  unfolding index_in check ◌>>=◌ ◌>>◌
  index_under h = rw (e, lt-leb 1 k h)

  pub index_over : 1 ≤ k → length (associations_of f (id_of f r)) < k → index_in f id k ≡ refuse 25 id
  unfolding index_in check ◌>>=◌ ◌>>◌
  index_over h l = let m = rw (listed_id f id r e) at l in rw (e, le-leb 1 k h, lt-leb k (length (associations_of f id)) m)

  pub index_at : 1 ≤ k → k ≤ length (associations_of f (id_of f r)) →
      index_in f id k ≡ ok (get_or (associations_of f (id_of f r)) (k - 1) no_association).index
  unfolding index_in check ◌>>=◌ ◌>>◌
  index_at h l =
      let m = rw (listed_id f id r e) at l in
      rw (e, le-leb 1 k h, le-leb k (length (associations_of f id)) m, listed_id f id r e)
