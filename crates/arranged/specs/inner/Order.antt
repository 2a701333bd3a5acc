-- The order in which a file's records leave: rows, the places in `iinf`, in rising ID order.
--   InOrder v f      v has them from 2,048 on;   row_in v k    the k-th of them;   Rising n v    n rows that are those of `iinf`
--   PlacesPut n t u          u is t with each of n rows in its sixteenth word
--   QuartersKept n c t v w   w is v with four words, from word c on, of each of n records of t
--   QuartersPut n c v b t u  u is t with four words, from word c on, of each of n records, taken from v in the order of b
--   Moved n row t u          u is t with n records moved whole, the record of row k coming from row `row k`
--   place_in t k              the sixteenth word of record k;   PlacesApart n t    those of n records are below 256, no two alike
--   ByPlace n t v            v has the row of each place among n records
use Rattle.std.specs.Prelude.{ℕ, ◌+◌, ◌*◌, ◌%◌, ◌≤◌, ◌<◌, ◌≡◌, List, map, ◌⊎◌, length, get_or}
use Rattle.contents.specs.File.{File}
use Rattle.rules.specs.Words.{Filed, by_id}

abbrev pub InOrder : List ℕ → File → Type 0
InOrder v f = (k : ℕ) → k < length f.items → get_or v (2048 + k) 0 ≡ get_or (map (λ (p : Filed). p.place) (by_id f.items)) k 0

abbrev pub row_in : List ℕ → ℕ → ℕ
row_in v k = get_or v (2048 + k) 0

abbrev pub Rising : ℕ → List ℕ → Type 0
Rising n v = (k : ℕ) → k < n → row_in v k ≡ k

-- a word that is none of the records'
abbrev pub Outside : ℕ → ℕ → Type 0
Outside n i = (i < 16) ⊎ (16 + 16 * n ≤ i)

pub record PlacesPut (n : ℕ) (t u : List ℕ) : Type 0 where
  pub long : length u ≡ length t
  pub placed : (k : ℕ) → k < n → get_or u (16 + 16 * k + 15) 0 ≡ k
  pub others : (k c : ℕ) → c < 15 → get_or u (16 + 16 * k + c) 0 ≡ get_or t (16 + 16 * k + c) 0
  pub outside : (i : ℕ) → Outside n i → get_or u i 0 ≡ get_or t i 0

pub record QuartersKept (n c : ℕ) (t v w : List ℕ) : Type 0 where
  pub long : length w ≡ length v
  pub words : (k e : ℕ) → k < n → e < 4 → get_or w (4 * k + e) 0 ≡ get_or t (16 + 16 * k + c + e) 0
  pub past : (i : ℕ) → 4 * n ≤ i → get_or w i 0 ≡ get_or v i 0

pub record QuartersPut (n c : ℕ) (v b t u : List ℕ) : Type 0 where
  pub long : length u ≡ length t
  pub words : (k e : ℕ) → k < n → e < 4 → get_or u (16 + 16 * k + c + e) 0 ≡ get_or v (4 * (row_in b k % 256) + e) 0
  pub others : (k e : ℕ) → e < 16 → (e < c) ⊎ (c + 4 ≤ e) → get_or u (16 + 16 * k + e) 0 ≡ get_or t (16 + 16 * k + e) 0
  pub outside : (i : ℕ) → Outside n i → get_or u i 0 ≡ get_or t i 0

pub record Moved (n : ℕ) (row : ℕ → ℕ) (t u : List ℕ) : Type 0 where
  pub long : length u ≡ length t
  pub words : (k c : ℕ) → k < n → c < 16 → get_or u (16 + 16 * k + c) 0 ≡ get_or t (16 + 16 * row k + c) 0
  pub outside : (i : ℕ) → Outside n i → get_or u i 0 ≡ get_or t i 0

abbrev pub place_in : List ℕ → ℕ → ℕ
place_in t k = get_or t (16 + 16 * k + 15) 0

pub record PlacesApart (n : ℕ) (t : List ℕ) : Type 0 where
  pub below : (k : ℕ) → k < n → place_in t k < 256
  pub apart : (j k : ℕ) → j < n → k < n → place_in t j ≡ place_in t k → j ≡ k

pub record ByPlace (n : ℕ) (t v : List ℕ) : Type 0 where
  pub rows : (k : ℕ) → k < n → get_or v (place_in t k) 0 ≡ k
  pub none : (p : ℕ) → ((k : ℕ) → k < n → place_in t k ≡ p → ⊥) → get_or v p 0 ≡ 0
