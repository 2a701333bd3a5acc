-- Keys of IDs: what holds of each, one more among those that rise, and whether an ID is one of theirs. Assumes nothing.
use Prim.Native.Nat.{ℕ, zero, suc, ◌+◌, ◌≤◌, ◌<◌}
use native.Mathlib.Nat.{not-suc-le-zero, le_of_suc-le-suc}
use native.Mathlib.Omega.{arith}
use mathlib.Core.Path.{◌≡◌, refl, ap, ◌∙◌, subst}
use mathlib.Core.List.{List, [], ◌∷◌, ◌++◌}
use mathlib.Core.Bool.{true, false}
use lib.ListN.{length, get_or, take, drop}
use lib.Dec.{leb}
use borrow.Author.Tests.{le-leb, lt-leb}
use Rattle.fields.specs.Lists.{member, All}
use Rattle.fields.proofs.FieldLaws.{both, pick_yes, pick_no}
use Rattle.fields.proofs.TestLaws.{member-at}
use Rattle.records.specs.inner.Keys.{key_of, key_among, keys_from, keys_of}
use Rattle.records.proofs.MemberLaws.{member-none}
use Rattle.records.proofs.KeyedLaws.{keys-long}

-- All, by places
pub all-place : (P : ℕ → Type 0) (l : List ℕ) → All P l → (j : ℕ) → j < length l → P (get_or l j 0)
all-place P [] a j h = absurd (not-suc-le-zero h)
all-place P (x ∷ l) a zero h = a.0
all-place P (x ∷ l) a (suc j) h = all-place P l a.1 j (le_of_suc-le-suc h)

pub place-all : (P : ℕ → Type 0) (l : List ℕ) → ((j : ℕ) → j < length l → P (get_or l j 0)) → All P l
place-all P [] h = tt
place-all P (x ∷ l) h = (h 0 (omega arith), place-all P l (λ j i. h (suc j) (omega arith)))

-- key_among
module _ (x : ℕ) where
  pub all_among : (P : ℕ → Type 0) (ks : List ℕ) → P x → All P ks → All P (key_among x ks)
  unfolding key_among
  all_among P [] h a = (h, tt)
  all_among P (k ∷ ks) h a = both (All P) (leb k x) _ _ (λ e. (a.0, all_among P ks h a.1)) (λ e. (h, a))

  pub among-all : (P : ℕ → Type 0) (ks : List ℕ) → All P (key_among x ks) → P x × All P ks
  unfolding key_among
  among-all P [] a = a
  among-all P (k ∷ ks) a =
      both (λ (l : List ℕ). All P l → P x × (P k × All P ks)) (leb k x) _ _
      (λ e b. let r = among-all P ks b.1 in (r.0, (b.0, r.1)))
      (λ e b. b) a

  -- its place is that of the first one that is larger
  pub among-at : (ks : List ℕ) (k : ℕ) → k ≤ length ks → ((j : ℕ) → j < k → get_or ks j 0 ≤ x) → (k < length ks → x < get_or ks k 0) →
      key_among x ks ≡ take k ks ++ (x ∷ drop k ks)
  unfolding key_among
  among-at [] zero l a b = refl
  among-at [] (suc k) l a b = absurd (not-suc-le-zero l)
  among-at (y ∷ ks) zero l a b = pick_no _ _ (lt-leb y x (b (omega arith)))
  among-at (y ∷ ks) (suc k) l a b =
      pick_yes _ _ (le-leb y x (a 0 (omega arith)))
      ∙ ap (λ (r : List ℕ). y ∷ r) (among-at ks k (le_of_suc-le-suc l) (λ j h. a (suc j) (omega arith)) (λ h. b (omega arith)))

-- keys_from
pub from_snoc : (r : ℕ) (ks ids : List ℕ) (id : ℕ) → keys_from r ks (ids ++ (id ∷ [])) ≡ key_among (key_of id (r + length ids)) (keys_from r ks ids)
unfolding keys_from
from_snoc r ks [] id = let e : r ≡ r + 0 = omega arith in ap (λ (k : ℕ). key_among (key_of id k) ks) e
from_snoc r ks (i ∷ ids) id =
    let e : suc r + length ids ≡ r + suc (length ids) = omega arith in
    from_snoc (suc r) (key_among (key_of i r) ks) ids id
    ∙ ap (λ (k : ℕ). key_among (key_of id k) (keys_from (suc r) (key_among (key_of i r) ks) ids)) e

module _ (P : ℕ → Type 0) where
  -- the key of each ID
  abbrev pub Each : ℕ → List ℕ → Type 0
  Each r ids = (j : ℕ) → j < length ids → P (key_of (get_or ids j 0) (r + j))

  all_from : (r : ℕ) (ks ids : List ℕ) → All P ks → Each r ids → All P (keys_from r ks ids)
  unfolding keys_from
  all_from r ks [] a h = a
  all_from r ks (i ∷ ids) a h =
      let e : r + 0 ≡ r = omega arith in
      all_from (suc r) (key_among (key_of i r) ks) ids
      (all_among (key_of i r) P ks (subst (λ (k : ℕ). P (key_of i k)) e (h 0 (omega arith))) a)
      (λ j l. let q : r + suc j ≡ suc r + j = omega arith in subst (λ (k : ℕ). P (key_of (get_or ids j 0) k)) q (h (suc j) (omega arith)))

  from_all : (r : ℕ) (ks ids : List ℕ) → All P (keys_from r ks ids) → All P ks × Each r ids
  unfolding keys_from
  from_all r ks [] a = (a, λ j l. absurd (not-suc-le-zero l))
  from_all r ks (i ∷ ids) a =
      let s = from_all (suc r) (key_among (key_of i r) ks) ids a in
      let t = among-all (key_of i r) P ks s.0 in
      (t.1, go t.0 s.1)
    where
      go : P (key_of i r) → Each (suc r) ids → Each r (i ∷ ids)
      go h g zero l = let e : r ≡ r + 0 = omega arith in subst (λ (k : ℕ). P (key_of i k)) e h
      go h g (suc j) l = let q : suc r + j ≡ r + suc j = omega arith in subst (λ (k : ℕ). P (key_of (get_or ids j 0) k)) q (g j (le_of_suc-le-suc l))

-- keys_of
pub keys_snoc : (ids : List ℕ) (id : ℕ) → keys_of (ids ++ (id ∷ [])) ≡ key_among (key_of id (length ids)) (keys_of ids)
keys_snoc ids id = let e : 0 + length ids ≡ length ids = omega arith in from_snoc 0 [] ids id ∙ ap (λ (k : ℕ). key_among (key_of id k) (keys_of ids)) e

pub keys-all : (P : ℕ → Type 0) (ids : List ℕ) → Each P 0 ids → All P (keys_of ids)
keys-all P ids h = all_from P 0 [] ids tt h

pub all-keys : (P : ℕ → Type 0) (ids : List ℕ) → All P (keys_of ids) → Each P 0 ids
all-keys P ids a = (from_all P 0 [] ids a).1

-- whether an ID is one of them, by the keys
module _ (ids : List ℕ) (few : length ids ≤ 256) (id : ℕ) where
  pub keys_none : ((j : ℕ) → j < length ids → (key_of id 0 ≤ get_or (keys_of ids) j 0) → (get_or (keys_of ids) j 0 ≤ key_of id 255) → ⊥) → member id ids ≡ false
  keys_none h =
      let l = keys-long ids in
      let a = all-keys (λ (k : ℕ). key_of id 0 ≤ k → k ≤ key_of id 255 → ⊥) ids (place-all _ (keys_of ids) (λ j q. h j (omega arith))) in
      member-none id ids (λ j q e. a j q (omega arith) (omega arith))

  pub keys-some : (j : ℕ) → j < length ids → key_of id 0 ≤ get_or (keys_of ids) j 0 → get_or (keys_of ids) j 0 ≤ key_of id 255 → member id ids ≡ true
  keys-some j l a b =
      let e = keys-long ids in
      all-place (λ (k : ℕ). key_of id 0 ≤ k → k ≤ key_of id 255 → member id ids ≡ true) (keys_of ids)
      (keys-all _ ids (λ i q g h. member-at id ids i q (omega arith))) j (omega arith) a b
