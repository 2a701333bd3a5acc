-- Kept: what runs of stores within the table keep. Assumes nothing.
use Prim.Native.Nat.{ℕ, suc, ◌+◌, ◌≤◌}
use native.Mathlib.Omega.{arith}
use mathlib.Core.Path.{◌≡◌, refl, ◌∙◌}
use mathlib.Core.List.{List, [], ◌∷◌}
use lib.ListN.{length, set, drop}
use lib.Seq.{sets, length-sets, drop-set-lt}
use Rattle.records.specs.inner.Stage.{Kept}

-- drop
pub drop-sets : (vs l : List ℕ) (i n : ℕ) → i + length vs ≤ n → drop n (sets l i vs) ≡ drop n l
drop-sets [] l i n h = refl
drop-sets (v ∷ vs) l i n h = drop-sets vs (set l i v) (suc i) n (omega arith) ∙ drop-set-lt n l i v (omega arith)

-- Kept
pub kept_same : (t : List ℕ) → Kept t t
kept_same t = record { same_length = refl; past = refl }

pub kept_on : (t u v : List ℕ) → Kept t u → Kept u v → Kept t v
kept_on t u v a b = record { same_length = b.same_length ∙ a.same_length; past = b.past ∙ a.past }

pub kept_sets : (t : List ℕ) (i : ℕ) (vs : List ℕ) → i + length vs ≤ 11280 → Kept t (sets t i vs)
kept_sets t i vs h = record { same_length = length-sets t i vs; past = drop-sets vs t i 11280 h }
