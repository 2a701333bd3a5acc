-- Keys of IDs as 512 words: they apart, 0 stands before the first and nothing less than 256 behind it; and what is left of a
-- search among keys that apart. Assumes nothing.
use Prim.Native.Nat.{ℕ, zero, suc, ◌+◌, ◌-◌, ◌<◌, ◌≤◌}
use native.Mathlib.Omega.{arith}
use mathlib.Core.Path.{◌≡◌, refl, ap, ◌∙◌}
use mathlib.Core.List.{List, [], ◌∷◌, ◌++◌}
use mathlib.Core.Logic.{◌⊎◌, inl, inr, ⊎_elim}
use lib.ListN.{length, get_or, replicate, length-replicate, get_or-replicate, get_or-append}
use lib.Seq.{get_or-append-add}
use lib.Dec.{leb}
use borrow.Author.Tests.{leb-true, leb-false}
use Rattle.fields.proofs.FieldLaws.{both}
use Rattle.records.specs.inner.Keys.{key_of, no_key, Split, LastUpto, key_among, keys_from, keys_of, Keyed}

upto_or_above : (a b : ℕ) → (a ≤ b) ⊎ (b < a)
upto_or_above zero b = inl (omega arith)
upto_or_above (suc a) zero = inr (omega arith)
upto_or_above (suc a) (suc b) = ⊎_elim (λ p. inl (omega arith)) (λ q. inr (omega arith)) (upto_or_above a b)

-- LastUpto: the place is one of `width` from `at` on
abbrev pub Within : List ℕ → ℕ → ℕ → ℕ → Type 0
Within ks x at width =
    Split ks x → get_or ks 0 0 ≤ x → (get_or ks at 0 ≤ x) × ((k : ℕ) → at + width ≤ k → k < 512 → x < get_or ks k 0)

module _ (ks : List ℕ) (x : ℕ) where
  pub within_all : Within ks x 0 512
  within_all apart least = (least, λ k l h. absurd (omega arith))

  module _ (at width half here : ℕ) (fits : half + half ≤ width) where
    pub within-right : get_or ks (at + half) 0 ≤ x → here ≡ at + half → Within ks x at width → Within ks x here (width - half)
    within-right low e w apart least = (rw e low, λ k l m. (w apart least).1 k (omega arith) m)

    pub within-left : x < get_or ks (at + half) 0 → here ≡ at → Within ks x at width → Within ks x here (width - half)
    within-left high e w apart least = (
      rw e (w apart least).0,
      λ k l m.
          ⊎_elim (λ q. let r = apart (at + half) k (omega arith) m q in absurd (omega arith)) (λ q. q) (upto_or_above (get_or ks k 0) x),
    )

  pub within-one : (at width : ℕ) → 0 < width → width ≤ 1 → at + width ≤ 512 → Within ks x at width → LastUpto ks x at
  within-one at width a b h w = (omega arith, λ apart least. ((w apart least).0, λ k l m. (w apart least).1 k (omega arith) m))

-- keys_of
abbrev Up : ℕ → List ℕ → Type 0
Up lo [] = Unit {0}
Up lo (k ∷ ks) = (lo ≤ k) × Up k ks

up_among : (lo x : ℕ) (ks : List ℕ) → lo ≤ x → Up lo ks → Up lo (key_among x ks)
unfolding key_among
up_among lo x [] l u = (l, tt)
up_among lo x (k ∷ ks) l u =
    both (Up lo) (leb k x) _ _ (λ e. (u.0, up_among k x ks (leb-true _ _ e) u.1))
    (λ e. let m = leb-false k x e in (l, (omega arith, u.1)))

up_keys : (r : ℕ) (ks ids : List ℕ) → Up 256 ks → Up 256 (keys_from r ks ids)
unfolding keys_from
up_keys r ks [] u = u
up_keys r ks (id ∷ ids) u = up_keys (suc r) (key_among (key_of id r) ks) ids (up_among 256 (key_of id r) ks (omega arith) u)

up_least : (lo : ℕ) (ks : List ℕ) (k : ℕ) → Up lo ks → k < length ks → lo ≤ get_or ks k 0
up_least lo [] k u h = absurd (omega arith)
up_least lo (x ∷ ks) zero u h = u.0
up_least lo (x ∷ ks) (suc k) u h = let l = up_least x ks k u.1 (omega arith) in omega arith

up_aparts : (lo : ℕ) (ks : List ℕ) (j k : ℕ) → Up lo ks → j ≤ k → k < length ks → get_or ks j 0 ≤ get_or ks k 0
up_aparts lo [] j k u l h = absurd (omega arith)
up_aparts lo (x ∷ ks) zero zero u l h = omega arith
up_aparts lo (x ∷ ks) zero (suc k) u l h = up_least x ks k u.1 (omega arith)
up_aparts lo (x ∷ ks) (suc j) zero u l h = absurd (omega arith)
up_aparts lo (x ∷ ks) (suc j) (suc k) u l h = up_aparts x ks j k u.1 (omega arith) (omega arith)

among-long : (x : ℕ) (ks : List ℕ) → length (key_among x ks) ≡ suc (length ks)
unfolding key_among
among-long x [] = refl
among-long x (k ∷ ks) =
    both (λ (l : List ℕ). length l ≡ suc (suc (length ks))) (leb k x) _ _ (λ e. ap suc (among-long x ks)) (λ e. refl)

from-long : (r : ℕ) (ks ids : List ℕ) → length (keys_from r ks ids) ≡ length ks + length ids
unfolding keys_from
from-long r ks [] = omega arith
from-long r ks (id ∷ ids) =
    let m = among-long (key_of id r) ks in let l = from-long (suc r) (key_among (key_of id r) ks) ids in omega arith

pub keys-long : (ids : List ℕ) → length (keys_of ids) ≡ length ids
keys-long ids = let l = from-long 0 [] ids in omega arith

pub keys-least : (ids : List ℕ) (k : ℕ) → k < length ids → 256 ≤ get_or (keys_of ids) k 0
keys-least ids k h = let l = keys-long ids in up_least 256 (keys_of ids) k (up_keys 0 [] ids tt) (omega arith)

pub keys_rise : (ids : List ℕ) (j k : ℕ) → j ≤ k → k < length ids → get_or (keys_of ids) j 0 ≤ get_or (keys_of ids) k 0
keys_rise ids j k l h = let e = keys-long ids in up_aparts 256 (keys_of ids) j k (up_keys 0 [] ids tt) l (omega arith)

-- Keyed: what stands before the first key, what are the keys, what stands behind them
module _ (ids ks : List ℕ) (y : Keyed ids ks) where
  pub keyed_before : (k : ℕ) → k < y.first → get_or ks k 0 ≡ 0
  keyed_before k h =
      let l = length-replicate {A = ℕ} y.first 0 in
      ap (λ (l : List ℕ). get_or l k 0) y.keys ∙ get_or-append (replicate y.first 0) _ 0 k (omega arith)
      ∙ get_or-replicate y.first k 0 0 h

  keyed_from : (k i : ℕ) → k ≡ y.first + i → get_or ks k 0 ≡ get_or (keys_of ids ++ replicate (512 - (y.first + length ids)) no_key) i 0
  keyed_from k i e =
      let l = length-replicate {A = ℕ} y.first 0 in
      let here-is : k ≡ length (replicate {A = ℕ} y.first 0) + i = omega arith in
      ap (λ (l : List ℕ). get_or l k 0) y.keys
      ∙ ap (λ (j : ℕ). get_or (replicate y.first 0 ++ (keys_of ids ++ replicate (512 - (y.first + length ids)) no_key)) j 0)
      here-is
      ∙ get_or-append-add (replicate y.first 0) _ i 0

  pub keyed_at : (k i : ℕ) → k ≡ y.first + i → i < length ids → get_or ks k 0 ≡ get_or (keys_of ids) i 0
  keyed_at k i e h = let l = keys-long ids in keyed_from k i e ∙ get_or-append (keys_of ids) _ 0 i (omega arith)

  pub keyed_behind : (k : ℕ) → y.first + length ids ≤ k → k < 512 → get_or ks k 0 ≡ no_key
  keyed_behind k l h =
      let m = keys-long ids in
      let i = k - (y.first + length ids) in
      keyed_from k (length (keys_of ids) + i) (omega arith) ∙ get_or-append-add (keys_of ids) _ i 0
      ∙ get_or-replicate (512 - (y.first + length ids)) i no_key 0 (omega arith)

  pub keyed_split : (x : ℕ) → x < no_key → Split ks x
  keyed_split x small j k l h up =
      ⊎_elim
      (λ a. ⊎_elim
      (λ b. absurd (let q = keyed_behind k b h in omega arith))
      (λ b.
      let p = keyed_at j (j - y.first) (omega arith) (omega arith) in
      let q = keyed_at k (k - y.first) (omega arith) (omega arith) in
      let r = keys_rise ids (j - y.first) (k - y.first) (omega arith) (omega arith) in
      omega arith)
      (upto_or_above (y.first + length ids) k))
      (λ b. let q = keyed_before j b in omega arith)
      (upto_or_above y.first j)

  -- the last of what is less than any key stands just before them
  pub first_found : (r : ℕ) → LastUpto ks 255 r → r + 1 ≡ y.first
  first_found r found =
      let a = y.above in
      let w = found.1 (keyed_split 255 (omega arith)) (let q = keyed_before 0 a in omega arith) in
      ⊎_elim
      (λ b. absurd (⊎_elim
      (λ e. let q = keyed_behind r e found.0 in omega arith)
      (λ e. let q = keyed_at r (r - y.first) (omega arith) (omega arith) in let z = keys-least ids (r - y.first) (omega arith) in omega arith)
      (upto_or_above (y.first + length ids) r)))
      (λ b. ⊎_elim (λ e. omega arith)
      (λ e. absurd (let q = keyed_before (r + 1) e in let u = w.1 (r + 1) (omega arith) (let f = y.below in omega arith) in omega arith))
      (upto_or_above y.first (r + 1)))
      (upto_or_above y.first r)
