-- Keys: the IDs of items in rising order, each with its row, in one number. Rows are looked for by them, and the table's
-- records are put in their order.
--   key_of id r            the key of an ID in row r;   no_key    what stands behind the last one
--   Split ks x            of 512 keys those that are at most x come first;   LastUpto ks x r    what a search for x says
--   keys_of ids            the keys of IDs, each in the row of its place;   order_of ids    the rows that they have
--   Keyed ids ks          512 keys that are those of the IDs, with 0 before the first and no_key behind the last
--   order_put rs v         v with the rows rs from 2,048 on
use Rattle.std.specs.Prelude.{ℕ, suc, ◌+◌, ◌*◌, ◌-◌, ◌%◌, ◌≤◌, ◌<◌, ◌≡◌, List, [], ◌∷◌, ◌++◌, map, length, get_or, take, drop, replicate, leb}
use Rattle.fields.specs.Choice.{pick}

abbrev pub key_of : ℕ → ℕ → ℕ
key_of id r = (id + 1) * 256 + r

abbrev pub no_key : ℕ
no_key = 18446744073709551615

abbrev pub Split : List ℕ → ℕ → Type 0
Split ks x = (j k : ℕ) → j ≤ k → k < 512 → get_or ks k 0 ≤ x → get_or ks j 0 ≤ x

-- where the first key is no larger than x, that of the last such one
abbrev pub LastUpto : List ℕ → ℕ → ℕ → Type 0
LastUpto ks x r = (r < 512)
    × (Split ks x → get_or ks 0 0 ≤ x → (get_or ks r 0 ≤ x) × ((k : ℕ) → r < k → k < 512 → x < get_or ks k 0))

-- one more among keys that rise
unfoldable pub key_among : ℕ → List ℕ → List ℕ
key_among x [] = x ∷ []
key_among x (k ∷ ks) = pick (leb k x) (k ∷ key_among x ks) (x ∷ k ∷ ks)

-- the keys of IDs, the first of them in row r, among those of the rows before
unfoldable pub keys_from : ℕ → List ℕ → List ℕ → List ℕ
keys_from r ks [] = ks
keys_from r ks (id ∷ ids) = keys_from (suc r) (key_among (key_of id r) ks) ids

abbrev pub keys_of : List ℕ → List ℕ
keys_of ids = keys_from 0 [] ids

abbrev pub order_of : List ℕ → List ℕ
order_of ids = map (λ (k : ℕ). k % 256) (keys_of ids)

pub record Keyed (ids ks : List ℕ) : Type 0 where
  pub first : ℕ
  pub above : 0 < first
  pub below : first + length ids ≤ 512
  pub keys : ks ≡ replicate first 0 ++ (keys_of ids ++ replicate (512 - (first + length ids)) no_key)

abbrev pub order_put : List ℕ → List ℕ → List ℕ
order_put rs v = take 2048 v ++ (rs ++ drop (2048 + length rs) v)
