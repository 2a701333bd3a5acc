-- The marks by which is found what a row is derived from, in terms of the table t and the resolved rows.
--   Marked l x         word x of l is 1;   Bits l    each word of l is 0 or 1;   bare l    how many words of l are 0
--   IsInput t rows r x    x is the row of an input of row r
--   Passes t rows n Q     the test Q passes on from each of n rows to its inputs
--   Grown old new grew    marks are added, never lost: some where grew, else none
--   Spread I old new grew all of I are marked besides, and nothing else
--   Reached I old new before after start end    the same, and each new mark's row is put into the list, from start to end
--   Listing marks list end    each row that is marked is in the list, and there is room for the others
--   Closed t rows n old list end new    of n rows, all that follows from the rows of the list, which were marked, is marked, and nothing else
use Rattle.std.specs.Prelude.{ℕ, suc, ◌+◌, ◌≤◌, ◌<◌, ◌≡◌, List, [], ◌∷◌, Bool, true, false, ◌⊎◌, length, get_or, eqb}
use Rattle.fields.specs.Choice.{pick}
use Rattle.depths.specs.inner.Rounds.{at, inputs, input_at}

abbrev pub Marked : List ℕ → ℕ → Type 0
Marked l x = get_or l x 0 ≡ 1

abbrev pub Bits : List ℕ → Type 0
Bits l = (x : ℕ) → get_or l x 0 ≤ 1

unfoldable pub bare : List ℕ → ℕ
bare [] = 0
bare (x ∷ xs) = pick (eqb x 0) (suc (bare xs)) (bare xs)

-- one of g 0 .. g (k - 1)
abbrev pub Among : (ℕ → ℕ) → ℕ → ℕ → Type 0
Among g k x = (j : ℕ) × (j < k) × (g j ≡ x)

abbrev pub IsInput : List ℕ → List ℕ → ℕ → ℕ → Type 0
IsInput t rows r = Among (input_at t rows r) (inputs t r)

-- of one of n rows
abbrev pub InputOf : List ℕ → List ℕ → ℕ → ℕ → ℕ → Type 0
InputOf t rows n r x = (r < n) × IsInput t rows r x

abbrev pub Passes : List ℕ → List ℕ → ℕ → (ℕ → Bool) → Type 0
Passes t rows n Q = (r x : ℕ) → r < n → Q r ≡ true → IsInput t rows r x → Q x ≡ true

pub record Grown (old new : List ℕ) (grew : Bool) : Type 0 where
  pub bits : Bits new
  pub stay : (x : ℕ) → Marked old x → Marked new x
  pub quiet : grew ≡ false → new ≡ old
  pub more : grew ≡ true → bare new < bare old

pub record Spread (I : ℕ → Type 0) (old new : List ℕ) (grew : Bool) : Type 0 where
  pub grown : Grown old new grew
  pub all : (x : ℕ) → I x → x < length old → Marked new x
  pub only : (x : ℕ) → Marked new x → Marked old x ⊎ I x

-- a row is marked once, so the list has room for it
pub record Reached (I : ℕ → Type 0) (old new before after : List ℕ) (start end : ℕ) : Type 0 where
  pub bits : Bits new
  pub stay : (x : ℕ) → Marked old x → Marked new x
  pub all : (x : ℕ) → I x → x < length old → Marked new x
  pub room : end + bare new ≤ start + bare old
  pub on : start ≤ end
  pub front : (j : ℕ) → j < start → get_or after j 0 ≡ get_or before j 0
  pub back : (j : ℕ) → start ≤ j → j < end → I (get_or after j 0)
  pub listed : (x : ℕ) → Marked new x → Marked old x ⊎ Among (at after) end x

pub record Listing (marks list : List ℕ) (end : ℕ) : Type 0 where
  pub bits : Bits marks
  pub room : end + bare marks ≤ length list
  pub listed : (x : ℕ) → Marked marks x → Among (at list) end x

pub record Closed (t rows : List ℕ) (n : ℕ) (old list : List ℕ) (end : ℕ) (new : List ℕ) : Type 0 where
  pub stay : (x : ℕ) → Marked old x → Marked new x
  pub sound : (Q : ℕ → Bool) → Passes t rows n Q → ((j : ℕ) → j < end → Q (get_or list j 0) ≡ true) → (x : ℕ) → Marked new x → Q x ≡ true
  pub closed : (i x : ℕ) → i < n → Marked new i → IsInput t rows i x → x < length old → Marked new x
