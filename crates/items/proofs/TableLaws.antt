-- The rest of a table stays where one more record is put. Assumes nothing.
use Prim.Native.Nat.{ℕ, ◌+◌, ◌*◌, ◌<◌}
use native.Mathlib.Omega.{arith}
use mathlib.Core.Path.{◌≡◌, ◌∙◌}
use mathlib.Core.List.{List}
use lib.ListN.{length, drop, length-set}
use lib.Seq.{drop-set-lt}
use Rattle.contents.specs.Iinf.{Item}
use Rattle.records.specs.inner.Stage.{Kept}
use Rattle.items.specs.inner.Told.{row_put}

-- row_put
module _ (t : List ℕ) (r : ℕ) (i : Item) where
  pub put-length : length (row_put t r i) ≡ length t
  unfolding row_put
  put-length = simp length-set

  put-drop : (n : ℕ) → 16 * r + 28 < n → drop n (row_put t r i) ≡ drop n t
  unfolding row_put
  put-drop n h =
      drop-set-lt n _ (16 + 16 * r + 12) i.protection (omega arith)
      ∙ drop-set-lt n _ (16 + 16 * r + 2) i.hidden (omega arith)
      ∙ drop-set-lt n _ (16 + 16 * r + 1) i.type (omega arith)
      ∙ drop-set-lt n t (16 + 16 * r) i.id (omega arith)

  pub put-kept : (t₀ : List ℕ) → r < 256 → Kept t₀ t → Kept t₀ (row_put t r i)
  put-kept t₀ h k = record { same_length = put-length ∙ k.same_length; past = put-drop 11280 (omega arith) ∙ k.past }
