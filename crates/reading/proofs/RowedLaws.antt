-- The rows of the targets, from `iref` up to the whole reading. Assumes nothing.
use Prim.Native.Nat.{ℕ, ◌+◌, ◌*◌, ◌≤◌, ◌<◌}
use native.Mathlib.Omega.{arith}
use mathlib.Core.Path.{◌≡◌, ap, sym, ◌∙◌}
use mathlib.Core.List.{List}
use mathlib.Core.Logic.{◌⊎◌, inl, inr}
use lib.ListN.{length, get_or, set, length-set}
use lib.Seq.{get_or-set_same, get_or-set_other}
use Rattle.records.specs.inner.Rows.{RowedTo, TargetsRowed}

-- where there are no targets, each has its row
pub none_rowed : (n k : ℕ) (t v : List ℕ) → k ≡ 0 → RowedTo n k t v
none_rowed n k t v z j h = absurd (omega arith)

-- a place before 4 or from 8 on is none of 4 to 7
apart : (m n : ℕ) → (m < 4) ⊎ (8 ≤ m) → 4 ≤ n → n < 8 → m ≡ n → ⊥
apart m n (inl h) k l q = absurd (omega arith)
apart m n (inr h) k l q = absurd (omega arith)

-- u is the table t with its first words set
module _ (t u v : List ℕ) (a b c d e f g h : ℕ) (w : u ≡ set
    (set (set (set (set (set (set (set t 0 a) 1 b) 2 c) 3 d) 4 e) 5 f) 6 g) 7 h) (l : 11280 ≤ length t) where
  abbrev two : List ℕ
  two = set (set t 0 a) 1 b

  abbrev three : List ℕ
  three = set two 2 c

  abbrev four : List ℕ
  four = set three 3 d

  abbrev seven : List ℕ
  seven = set (set (set four 4 e) 5 f) 6 g

  -- the words at such places are those after the fourth store
  late : (m : ℕ) → (m < 4) ⊎ (8 ≤ m) → get_or u m 0 ≡ get_or four m 0
  late m o =
      ap (λ (y : List ℕ). get_or y m 0) w
      ∙ get_or-set_other seven 7 m h 0 (apart m 7 o (omega arith) (omega arith))
      ∙ get_or-set_other (set (set four 4 e) 5 f) 6 m g 0 (apart m 6 o (omega arith) (omega arith))
      ∙ get_or-set_other (set four 4 e) 5 m f 0 (apart m 5 o (omega arith) (omega arith))
      ∙ get_or-set_other four 4 m e 0 (apart m 4 o (omega arith) (omega arith))

  -- word 3 is the count of targets, word 0 that of items
  targets_word : get_or u 3 0 ≡ d
  targets_word = late 3 (inl (omega arith)) ∙ get_or-set_same three 3 d 0 (simp length-set (omega arith))

  items_word : get_or u 0 0 ≡ a
  items_word =
      late 0 (inl (omega arith))
      ∙ get_or-set_other three 3 0 d 0 (λ q. absurd (omega arith))
      ∙ get_or-set_other two 2 0 c 0 (λ q. absurd (omega arith))
      ∙ get_or-set_other (set t 0 a) 1 0 b 0 (λ q. absurd (omega arith))
      ∙ get_or-set_same t 0 a 0 (omega arith)

  -- the records and the targets stay
  behind : (m : ℕ) → 8 ≤ m → get_or u m 0 ≡ get_or t m 0
  behind m k =
      late m (inr k)
      ∙ get_or-set_other three 3 m d 0 (λ q. absurd (omega arith))
      ∙ get_or-set_other two 2 m c 0 (λ q. absurd (omega arith))
      ∙ get_or-set_other (set t 0 a) 1 m b 0 (λ q. absurd (omega arith))
      ∙ get_or-set_other t 0 m a 0 (λ q. absurd (omega arith))

  -- what holds of the counts that are set holds of the table as read
  pub head_rowed : RowedTo a d t v → TargetsRowed u v
  head_rowed r j k =
      let i = items_word in
      let n = targets_word in
      let q = r j (omega arith) in
      (omega (arith, q.0), behind (16 + 16 * get_or v j 0) (omega arith) ∙ q.1 ∙ sym (behind (7184 + j) (omega arith)))
