-- Where the bytes of items lie that may be made of other items' bytes (document 02, Q-7), in terms of the table t and the list v,
-- as in crates/linking/specs/inner/Links.antt. All rows keep 13, 30 and 14.
--   holder_from t e n p       of the n extents from e on the one that has the byte p, and the byte's number in it
--   place_of k t v r p        where in the file the byte p of row r lies, k links being left; `nowhere` where it does not lie
--   PieceIs place p n q      q is a stretch of the file, in which the first of n bytes from p on lie
--   leading f n              of 0 .. n - 1 how many have f, up to the first that has not
--   run_of t v h r p          how many bytes of row r lie in a head of h bytes without a gap from p on, as far as it is asked
--   RunsTo, RunsAre          what stands for each extent: the run from its first byte on
--   bytes_of t v s r p n      the n bytes of row r from p on, s being the head
--   Sourced t v n            what 13, 30 and 14 make sure of, of n rows
use Rattle.std.specs.Prelude.{ℕ, zero, suc, ◌+◌, ◌-◌, ◌≤◌, ◌<◌, ◌≡◌, List, [], ◌∷◌, ◌++◌, Bool, true, Option, Some, None, get_or, ltb}
use Rattle.fields.specs.Choice.{pick}
use Rattle.linking.specs.inner.Links.{
  first_extent,
  extents,
  offset_at,
  size_at,
  made_of_items,
  named_row,
  named_by,
  chained,
  level,
  sum_from,
  length_sum,
  LinksIn,
}
use Rattle.joining.specs.declared.Held.{Held}
use Rattle.joining.specs.declared.Piece.{Piece}

-- "joined": extents one after the other
unfoldable pub holder_from : List ℕ → ℕ → ℕ → ℕ → Option Held
holder_from t e zero p = None
holder_from t e (suc n) p = pick (ltb p (size_at t e)) (Some (record { e = e; rest = p })) (holder_from t (suc e) n (p - size_at t e))

-- past every head
abbrev pub nowhere : ℕ
nowhere = 18446744073709551616

unfoldable pub place_from : (ℕ → ℕ → ℕ) → List ℕ → ℕ → ℕ → ℕ → ℕ
place_from from t e zero p = nowhere
place_from from t e (suc n) p = pick (ltb p (size_at t e)) (from e (offset_at t e + p)) (place_from from t (suc e) n (p - size_at t e))

-- "An item's bytes may be made of another item's bytes"
unfoldable pub place_of : ℕ → List ℕ → List ℕ → ℕ → ℕ → ℕ
place_of zero t v r p = place_from (λ e q. pick (made_of_items t r) nowhere q) t (first_extent t r) (extents t r) p
place_of (suc k) t v r p =
    place_from (λ e q. pick (made_of_items t r) (place_of k t v (named_row v e) q) q) t (first_extent t r) (extents t r) p

-- where the position q of the source of an extent e of row r lies, k links being left behind this one
abbrev pub source_place : ℕ → List ℕ → List ℕ → ℕ → ℕ → ℕ → ℕ
source_place k t v r e q = pick (made_of_items t r) (place_of k t v (named_row v e) q) q

abbrev pub PieceIs : (ℕ → ℕ) → ℕ → ℕ → Piece → Type 0
PieceIs place p n q = (0 < q.size) × (q.size ≤ n) × ((i : ℕ) → i < q.size → place (p + i) ≡ q.from + i)

unfoldable pub leading : (ℕ → Bool) → ℕ → ℕ
leading f zero = 0
leading f (suc n) = pick (f 0) (suc (leading (λ i. f (suc i)) n)) 0

-- one more than the longest body has
abbrev pub most : ℕ
most = 16403

abbrev pub run_of : ℕ → List ℕ → List ℕ → ℕ → ℕ → ℕ → ℕ
run_of k t v h r p = leading (λ i. ltb (place_of k t v r (p + i)) h) most

-- of the extents of row r; of n rows, those of a level below k
abbrev pub RunsIn : List ℕ → List ℕ → ℕ → ℕ → List ℕ → Type 0
RunsIn t v h r ks = (j : ℕ) → j < extents t r → get_or ks (first_extent t r + j) 0 ≡ run_of 8 t v h r (sum_from t (first_extent t r) j)

abbrev pub RunsTo : ℕ → List ℕ → List ℕ → ℕ → ℕ → List ℕ → Type 0
RunsTo k t v h n ks = (r : ℕ) → r < n → level t v r < k → RunsIn t v h r ks

abbrev pub RunsAre : List ℕ → List ℕ → ℕ → ℕ → List ℕ → Type 0
RunsAre t v h n ks = RunsTo 9 t v h n ks

-- no two rows have an extent in common; the chain of each ends (30); an extent ends where its source does, or before (14)
pub record Sourced (t v : List ℕ) (n : ℕ) : Type 0 where
  pub links : LinksIn t v n
  pub apart : (r q i j : ℕ) → r < n → q < n → i < extents t r → j < extents t q → first_extent t r + i ≡ first_extent t q + j → r ≡ q
  pub ends : (r : ℕ) → r < n → chained 8 t v r ≡ true
  pub filed : (r j : ℕ) → r < n → j < extents t r → offset_at t (first_extent t r + j) + size_at t (first_extent t r + j) < 18446744073709551616
  pub within : (r j : ℕ) → r < n → made_of_items t r ≡ true → j < extents t r →
      offset_at t (first_extent t r + j) + size_at t (first_extent t r + j) ≤ length_sum t (named_by t v r j)

-- the first n of what g gives
unfoldable pub bytes_by : (ℕ → ℕ) → ℕ → List ℕ
bytes_by g zero = []
bytes_by g (suc n) = bytes_by g n ++ (g n ∷ [])

-- those of row r from p on that lie in the head s
abbrev pub bytes_of : List ℕ → List ℕ → List ℕ → ℕ → ℕ → ℕ → List ℕ
bytes_of t v s r p n = bytes_by (λ i. get_or s (place_of 8 t v r (p + i)) 0) n
