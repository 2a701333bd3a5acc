-- The six regions of a table, and what is read from each. Assumes nothing.
-- h    the first words;   r    the records;   p    the properties;   a    the associations;   t    the targets;   e
-- the extents;   x    the caller's words past the table
use Prim.Native.Nat.{ℕ, ◌+◌, ◌<◌, ◌≤◌}
use native.Mathlib.Omega.{arith}
use mathlib.Core.Path.{◌≡◌, refl, ap, ◌∙◌}
use mathlib.Core.List.{List, ◌++◌, append_assoc}
use lib.ListN.{length, get_or, length-append}
use lib.Seq.{sets}
use Rattle.rules.specs.Words.{region}
use Rattle.records.proofs.SetsLaws.{sets_first, sets-from, get_or-from, region-length, region-sets, region-front}

unfoldable pub table_by : List ℕ → List ℕ → List ℕ → List ℕ → List ℕ → List ℕ → List ℕ
table_by h r p a t e = region 16 h ++ (region 4096 r ++ (region 1024 p ++ (region 2048 a ++ (region 2048 t ++ region 2048 e))))

pub record Fill (h r p a t e : List ℕ) : Type 0 where
  pub in_head : length h ≤ 16
  pub in_records : length r ≤ 4096
  pub in_properties : length p ≤ 1024
  pub in_associations : length a ≤ 2048
  pub in_targets : length t ≤ 2048
  pub in_extents : length e ≤ 2048

pub table_length : (h r p a t e : List ℕ) → Fill h r p a t e → length (table_by h r p a t e) ≡ 11280
unfolding table_by
table_length h r p a t e l =
    let l0 = region-length 16 h l.in_head in
    let l1 = region-length 4096 r l.in_records in
    let l2 = region-length 1024 p l.in_properties in
    let l3 = region-length 2048 a l.in_associations in
    let l4 = region-length 2048 t l.in_targets in
    let l5 = region-length 2048 e l.in_extents in
    rw (length-append, length-append, length-append, length-append, length-append) (omega arith)

module _ (h r p a t e x : List ℕ) (l : Fill h r p a t e) where
  abbrev whole : List ℕ
  whole = table_by h r p a t e ++ x

  regions : whole ≡ region 16 h ++ (region 4096 r ++ (region 1024 p ++ (region 2048 a ++ (region 2048 t ++ (region 2048 e ++ x)))))
  unfolding table_by
  regions = simp append_assoc

  from_records : (i k : ℕ) → k ≡ 16 + i → get_or whole k 0 ≡ get_or
      (region 4096 r ++ (region 1024 p ++ (region 2048 a ++ (region 2048 t ++ (region 2048 e ++ x))))) i 0
  from_records i k q = ap (λ (s : List ℕ). get_or s k 0) regions ∙ get_or-from (region 16 h) _ 16 i k (region-length 16 h l.in_head) q

  from-properties : (i k : ℕ) → k ≡ 4112 + i → get_or whole k 0 ≡ get_or (region 1024 p ++ (region 2048 a ++ (region 2048 t ++ (region 2048 e ++ x)))) i 0
  from-properties i k q = from_records (4096 + i) k (omega arith) ∙ get_or-from (region 4096 r) _ 4096 i (4096 + i) (region-length 4096 r l.in_records) refl

  from-associations : (i k : ℕ) → k ≡ 5136 + i → get_or whole k 0 ≡ get_or (region 2048 a ++ (region 2048 t ++ (region 2048 e ++ x))) i 0
  from-associations i k q = from-properties (1024 + i) k (omega arith) ∙
      get_or-from (region 1024 p) _ 1024 i (1024 + i) (region-length 1024 p l.in_properties) refl

  from-targets : (i k : ℕ) → k ≡ 7184 + i → get_or whole k 0 ≡ get_or (region 2048 t ++ (region 2048 e ++ x)) i 0
  from-targets i k q = from-associations (2048 + i) k (omega arith) ∙
      get_or-from (region 2048 a) _ 2048 i (2048 + i) (region-length 2048 a l.in_associations) refl

  from-extents : (i k : ℕ) → k ≡ 9232 + i → get_or whole k 0 ≡ get_or (region 2048 e ++ x) i 0
  from-extents i k q = from-targets (2048 + i) k (omega arith) ∙ get_or-from (region 2048 t) _ 2048 i (2048 + i) (region-length 2048 t l.in_targets) refl

  -- what is read from each region
  pub head_word : (i : ℕ) → i < length h → get_or whole i 0 ≡ get_or h i 0
  head_word i m = ap (λ (s : List ℕ). get_or s i 0) regions ∙ region-front 16 h _ i m

  pub record_word_lem : (i k : ℕ) → k ≡ 16 + i → i < length r → get_or whole k 0 ≡ get_or r i 0
  record_word_lem i k q m = from_records i k q ∙ region-front 4096 r _ i m

  pub property_word : (i k : ℕ) → k ≡ 4112 + i → i < length p → get_or whole k 0 ≡ get_or p i 0
  property_word i k q m = from-properties i k q ∙ region-front 1024 p _ i m

  pub association_word_lem : (i k : ℕ) → k ≡ 5136 + i → i < length a → get_or whole k 0 ≡ get_or a i 0
  association_word_lem i k q m = from-associations i k q ∙ region-front 2048 a _ i m

  pub target_word : (i k : ℕ) → k ≡ 7184 + i → i < length t → get_or whole k 0 ≡ get_or t i 0
  target_word i k q m = from-targets i k q ∙ region-front 2048 t _ i m

  pub extent_word : (i k : ℕ) → k ≡ 9232 + i → i < length e → get_or whole k 0 ≡ get_or e i 0
  extent_word i k q m = from-extents i k q ∙ region-front 2048 e _ i m

  -- a run of stores into the records
  pub record_sets : (vs : List ℕ) (i k : ℕ) → k ≡ 16 + i → i + length vs ≤ length r → sets whole k vs ≡ table_by h (sets r i vs) p a t e ++ x
  unfolding table_by
  record_sets vs i k q m =
      let n = l.in_records in
      ap (λ (s : List ℕ). sets s k vs) regions
      ∙ sets-from vs (region 16 h) _ 16 i k (region-length 16 h l.in_head) q
      ∙ ap (λ (s : List ℕ). region 16 h ++ s) (sets_first vs (region 4096 r) _ i (rw (region-length 4096 r n) (omega arith)))
      ∙ ap (λ (s : List ℕ). region 16 h ++ (s ++ (region 1024 p ++ (region 2048 a ++ (region 2048 t ++ (region 2048 e ++ x)))))) (region-sets 4096 r vs i m)
      ∙ simp append_assoc
