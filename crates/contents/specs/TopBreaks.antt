-- The first fault on the top level, said without reading: 3, 4 and 5.
--   TopSize n s k                the box at the front of s, with n bytes of the file from there on, has the size k
--   BadTop n s                 its size is bad, or it ends outside the file
--   WalkedTo head p r          the head is an `ftyp` as 4 asks, whole boxes none of which is a `meta`, and then r, which begins at p
--   TopBreaks total head n p   the top level is broken by n at p
use Rattle.std.specs.Prelude.{ℕ, ◌+◌, ◌-◌, ◌≤◌, ◌<◌, ◌≡◌, List, ◌++◌, true, false, length}
use Rattle.fields.specs.Field.{be_at}
use Rattle.fields.specs.Lists.{All}
use Rattle.boxes.specs.Types.{meta}
use Rattle.boxes.specs.Box.{head_of, size_of, kind_of, IsBox, flat}
use Rattle.boxes.specs.Top.{branded}

-- "size 0: to the file's end, top level only"
pub data TopSize (n : ℕ) (s : List ℕ) (k : ℕ) : Type 0 where
  stated : (be_at s 0 4 ≡ 0 → ⊥) → k ≡ size_of s → head_of s ≤ k → k ≤ n → TopSize n s k
  to_the_end : be_at s 0 4 ≡ 0 → k ≡ n → TopSize n s k

-- 3: "box size bad, or box outside .. the file"
pub data BadTop (n : ℕ) (s : List ℕ) : Type 0 where
  size-bad : (be_at s 0 4 ≡ 0 → ⊥) → size_of s < head_of s → BadTop n s
  past-file : (be_at s 0 4 ≡ 0 → ⊥) → n < size_of s → BadTop n s

-- "Walk on to the first `meta`"
pub record WalkedTo (head : List ℕ) (p : ℕ) (r : List ℕ) : Type 0 where
  pub first : List ℕ
  pub before : List (List ℕ)
  pub box : IsBox first
  pub brand : branded first ≡ true
  pub all : All IsBox before
  pub none : All (λ (b : List ℕ). kind_of b ≡ meta → ⊥) before
  pub joined : first ++ (flat before ++ r) ≡ head
  pub where_it_is : p ≡ length first + length (flat before)

pub data TopBreaks (total : ℕ) (head : List ℕ) (n p : ℕ) : Type 0 where
  -- "the first needs its header in the head (else 4), a good size (else 3), then 4's rule"
  first-header : length head < head_of head → n ≡ 4 → p ≡ 0 → TopBreaks total head n p
  first-size : head_of head ≤ length head → BadTop total head → n ≡ 3 → p ≡ 0 → TopBreaks total head n p
  -- "first box not an `ftyp` wholly in the head with `mif1` among its compatible brands"
  first_past : (k : ℕ) → head_of head ≤ length head → TopSize total head k → length head < k → n ≡ 4 → p ≡ 0 →
      TopBreaks total head n p
  first-brand : (b behind : List ℕ) → head_of head ≤ length head → TopSize total head (length b) → b ++ behind ≡ head →
      branded b ≡ false → n ≡ 4 → p ≡ 0 → TopBreaks total head n p
  -- "no `meta` wholly in the head": an `ftyp` that reaches to the end of the file is the last box
  first-last : head_of head ≤ length head → be_at head 0 4 ≡ 0 → total ≡ length head → branded head ≡ true → n ≡ 5 → p ≡ 0 → TopBreaks total head n p
  -- "a header not wholly in the head ends the walk (5)"
  later-header : (e : ℕ) (r : List ℕ) → WalkedTo head e r → length r < head_of r → n ≡ 5 → p ≡ 0 → TopBreaks total head n p
  -- 3, at that box
  later-size : (r : List ℕ) → WalkedTo head p r → head_of r ≤ length r → BadTop (total - p) r → n ≡ 3 → TopBreaks total head n p
  later-past : (e k : ℕ) (r : List ℕ) → WalkedTo head e r → head_of r ≤ length r → TopSize (total - e) r k → length r < k → n ≡ 5 →
      p ≡ 0 → TopBreaks total head n p
  later_last : (e : ℕ) (r : List ℕ) → WalkedTo head e r → head_of r ≤ length r → be_at r 0 4 ≡ 0 → total ≡ length head →
      (kind_of r ≡ meta → ⊥) → n ≡ 5 → p ≡ 0 → TopBreaks total head n p
