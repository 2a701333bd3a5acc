-- Rows: an item found by its ID among the first n records of a table.
--   id_at t r           the ID in row r;   ids_in t n    those of the first n rows
--   Distinct ids       no ID stands twice
-- RowedTo n k t v    v has for each of the first k targets of the table t the row, among the first n, that it names;
-- TargetsRowed t v    the same for all of a table that was read;   Ordered t v    v has, from 2,048 on, its rows in rising
-- ID order;   Rowed t v    both
--   FoundIs t n id     what a lookup says, whatever order it searches in
use Rattle.std.specs.Prelude.{ℕ, zero, suc, ◌+◌, ◌*◌, ◌<◌, ◌≡◌, List, [], ◌∷◌, ◌++◌, Option, Some, None, false, get_or}
use Rattle.fields.specs.Lists.{member}
use Rattle.records.specs.inner.Keys.{order_of}
use Rattle.table.specs.declared.ItemRow.{ItemRow}

abbrev pub id_at : List ℕ → ℕ → ℕ
id_at t r = get_or t (16 + 16 * r) 0

unfoldable pub ids_in : List ℕ → ℕ → List ℕ
ids_in t zero = []
ids_in t (suc n) = ids_in t n ++ (id_at t n ∷ [])

abbrev pub Distinct : List ℕ → Type 0
Distinct [] = Unit {0}
Distinct (x ∷ xs) = (member x xs ≡ false) × Distinct xs

abbrev pub RowedTo : ℕ → ℕ → List ℕ → List ℕ → Type 0
RowedTo n k t v = (j : ℕ) → j < k → (get_or v j 0 < n) × (id_at t (get_or v j 0) ≡ get_or t (7184 + j) 0)

abbrev pub TargetsRowed : List ℕ → List ℕ → Type 0
TargetsRowed t v = RowedTo (get_or t 0 0) (get_or t 3 0) t v

abbrev pub Ordered : List ℕ → List ℕ → Type 0
Ordered t v = (k : ℕ) → k < get_or t 0 0 → get_or v (2048 + k) 0 ≡ get_or (order_of (ids_in t (get_or t 0 0))) k 0

abbrev pub Rowed : List ℕ → List ℕ → Type 0
Rowed t v = TargetsRowed t v × Ordered t v

abbrev pub FoundIs : List ℕ → ℕ → ℕ → Option ItemRow → Type 0
FoundIs t n id (Some r) = (r.0 < n) × (id_at t r.0 ≡ id)
FoundIs t n id None = (k : ℕ) → k < n → id_at t k ≡ id → ⊥
