-- The rows that extents name by an `iloc`: what going over them leaves. Assumes nothing.
use Prim.Native.Nat.{ℕ, ◌+◌, ◌-◌, ◌*◌, ◌<◌, ◌≤◌}
use native.Mathlib.Nat.{eq-or-lt_of_le}
use native.Mathlib.Omega.{arith}
use mathlib.Core.Path.{◌≡◌, refl, sym, ap, ◌∙◌, subst}
use mathlib.Core.List.{List}
use mathlib.Core.Bool.{true}
use mathlib.Core.Logic.{◌⊎◌, inl, inr, ⊎_elim}
use lib.ListN.{length, get_or, set, drop, replicate, length-replicate, length-take, length-drop, get_or-replicate}
use lib.Seq.{sets, sets-eq, take-length, get_or-set_same, get_or-set_other}
use borrow.Rule.Slice.PartMut.{put_mid, mid_of}
use Rattle.std.proofs.lemmas.Slice.{put_mid-paste}
use Rattle.std.specs.Prelude.{None}
use Rattle.fields.specs.Lists.{member}
use Rattle.fields.proofs.TestLaws.{untrue}
use Rattle.records.specs.inner.Rows.{id_at, ids_in, FoundIs}
use Rattle.records.proofs.IdLaws.{row_missing}
use Rattle.records.proofs.SetsLaws.{sets-above, sets_in}
use Rattle.references.specs.inner.Steps.{PickedBy, NamedFrom, NamesPut}

-- where a target of w bytes stands
pub width_small : (w j : ℕ) → (w ≡ 2) ⊎ (w ≡ 4) → j < 65536 → w * j < 262144
width_small w j (inl e) h = rw e (omega arith)
width_small w j (inr e) h = rw e (omega arith)

pub width-at : (w j : ℕ) → (w ≡ 2) ⊎ (w ≡ 4) → j < 65536 → w + 2 + w * j < 300000
width-at w j (inl e) h = rw e (omega arith)
width-at w j (inr e) h = rw e (omega arith)

pub width-inside : (w k j : ℕ) → (w ≡ 2) ⊎ (w ≡ 4) → j < k → w * j + w ≤ w * k
width-inside w k j (inl e) h = rw e (omega arith)
width-inside w k j (inr e) h = rw e (omega arith)

-- PickedBy: a mark of a target
pub picked-at : (t : List ℕ) (n k : ℕ) (target : ℕ → ℕ) (mark : ℕ) → 258 ≤ mark → mark - 258 < k → (r : ℕ) → r < n →
    id_at t r ≡ target (mark - 258) → PickedBy t n k target mark r
picked-at t n k target mark l m r h q = (
  λ i. absurd (omega arith),
  λ i. absurd (omega arith),
  λ j i e. (h, q ∙ ap target (omega arith)),
)

-- a target that is listed is found
pub picked_missing : {P : Type 0} (t : List ℕ) (n id target : ℕ) → FoundIs t n id None → id ≡ target →
    member target (ids_in t n) ≡ true → P
picked_missing t n id target g q l = untrue (sym (row_missing t n id g) ∙ ap (λ (i : ℕ). member i (ids_in t n)) q ∙ l)

-- a part that is overwritten
pub part_set : (l ys : List ℕ) (a k : ℕ) → a + k ≤ length l → length ys ≡ k → put_mid a k l ys ≡ sets l a ys
part_set l ys a k h e =
    put_mid-paste a k l ys ys (length ys) refl e refl ∙ rw (take-length ys) (sym (sets-eq ys l a (omega arith)))

-- the marks, cleared
pub cleared : (l ys : List ℕ) (a k : ℕ) → a + k ≤ length l → ys ≡ replicate (length (mid_of a k l)) 0 → put_mid a k l ys ≡ sets l a (replicate k 0)
cleared l ys a k h e =
    let q : length (mid_of a k l) ≡ k = omega (arith, length-take k (drop a l), length-drop a l) in
    let i : ys ≡ replicate k 0 = rw q at e in
    part_set l ys a k h (ap length i ∙ length-replicate k 0) ∙ ap (sets l a) i

-- all 256
module _ (l r : List ℕ) (m : ℕ) (few : m ≡ 256) (e : r ≡ sets l 2048 (replicate m 0)) where
  pub cleared_mark : 2816 ≤ length l → (k : ℕ) → k < 256 → get_or r (2048 + k) 0 ≡ 0
  cleared_mark room k h =
      let z : length (replicate {A = ℕ} m 0) ≡ m = length-replicate m 0 in
      ap (λ (a : List ℕ). get_or a (2048 + k) 0) e ∙ sets_in (replicate m 0) l 2048 k (omega arith) (omega arith) ∙ get_or-replicate m k 0 0 (omega arith)

  pub cleared-past : (i : ℕ) → 2304 ≤ i → get_or r i 0 ≡ get_or l i 0
  cleared-past i h =
      let z : length (replicate {A = ℕ} m 0) ≡ m = length-replicate m 0 in
      ap (λ (a : List ℕ). get_or a i 0) e ∙ sets-above (replicate m 0) l 2048 i (omega arith)

-- NamedFrom: no extent, and one more
module _ (t : List ℕ) (n k : ℕ) (target : ℕ → ℕ) (first : ℕ) (v : List ℕ) where
  pub named_none : NamedFrom t n k target first 0 v v
  named_none = record { picked = λ j h. absurd (omega arith); apart = λ i h. refl }

  pub named_next : (j : ℕ) (x : List ℕ) → NamedFrom t n k target first j v x → 2304 + first + j < length x → (r : ℕ) →
      PickedBy t n k target (get_or x (2304 + first + j) 0) r → NamedFrom t n k target first (j + 1) v (set x (2304 + first + j) r)
  named_next j x so room r p =
      record {
        picked = λ i h. ⊎_elim (λ e. last i e) (λ l. earlier i l) (eq-or-lt_of_le {n = i} {m = j} (omega arith));
        apart = λ i h. get_or-set_other x (2304 + first + j) i r 0 (⊎_elim (λ a. omega arith) (λ a. omega arith) h)
            ∙ so.apart i (⊎_elim (λ a. inl a) (λ a. inr (omega arith)) h);
      }
    where
      last : (i : ℕ) → i ≡ j → PickedBy t n k target (get_or v (2304 + first + i) 0) (get_or (set x (2304 + first + j) r) (2304 + first + i) 0)
      last i e =
          let a : get_or (set x (2304 + first + j) r) (2304 + first + j) 0 ≡ r = get_or-set_same x (2304 + first + j) r 0 room in
          let b : get_or x (2304 + first + j) 0 ≡ get_or v (2304 + first + j) 0 = so.apart (2304 + first + j) (inr (omega arith)) in
          rw (e, a, ← b) p

      earlier : (i : ℕ) → i < j → PickedBy t n k target (get_or v (2304 + first + i) 0) (get_or (set x (2304 + first + j) r) (2304 + first + i) 0)
      earlier i l =
          let a : get_or (set x (2304 + first + j) r) (2304 + first + i) 0 ≡ get_or x (2304 + first + i) 0 =
          get_or-set_other x (2304 + first + j) (2304 + first + i) r 0 (omega arith) in
          rw a (so.picked i l)

-- NamesPut: a is where the record of the row begins
module _ (t : List ℕ) (n k : ℕ) (target : ℕ → ℕ) (row : ℕ) (v : List ℕ) (a : ℕ) (e : a ≡ 16 + 16 * row) where
  word_at : (i : ℕ) → get_or t (a + i) 0 ≡ get_or t (16 + 16 * row + i) 0
  word_at i = ap (λ (j : ℕ). get_or t (j + i) 0) e

  -- an item of another method, and one whose extents are too many, which no file has
  pub names-other : (get_or t (a + 9) 0 ≡ 2 → ⊥) → NamesPut t n k target row v v
  names-other h = record { below = λ i l. refl; named = λ q. absurd (h (word_at 9 ∙ q)); other = λ q. refl }

  pub names-over : 512 < get_or t (a + 7) 0 + get_or t (a + 8) 0 → NamesPut t n k target row v v
  names-over h = record { below = λ i l. refl; named = λ q l. absurd (omega (arith, word_at 7, word_at 8)); other = λ q. refl }

  pub names-put : get_or t (a + 9) 0 ≡ 2 → (x : List ℕ)
      → NamedFrom t n k target (get_or t (a + 7) 0) (get_or t (a + 8) 0) v x → NamesPut t n k target row v x
  names-put m x so =
      record {
        below = λ i l. so.apart i (inl (omega arith));
        named = λ q l. subst (λ (j : ℕ). NamedFrom t n k target (get_or t (j + 7) 0) (get_or t (j + 8) 0) v x) e so;
        other = λ h. absurd (h (sym (word_at 9) ∙ m));
      }

-- the same of a table and rows that are known by another name, v having been marked for the row
module _ (t u : List ℕ) (same : u ≡ t) (v o : List ℕ) (rows : o ≡ v) (n k : ℕ) (target : ℕ → ℕ) (row : ℕ) (x : List ℕ)
    (so : NamesPut u n k target row (set o (2048 + row) 1) x) where
  pub names-moved : NamesPut t n k target row (set v (2048 + row) 1) x
  names-moved =
      subst (λ (l : List ℕ). NamesPut l n k target row (set v (2048 + row) 1) x) same
      (subst (λ (l : List ℕ). NamesPut u n k target row (set l (2048 + row) 1) x) rows so)

  -- the rows of the targets are the same
  pub names-targets : (i : ℕ) → i < 2048 → get_or x i 0 ≡ get_or v i 0
  names-targets i h = names-moved.below i (omega arith) ∙ get_or-set_other v (2048 + row) i 1 0 (λ q. omega arith)

-- the same for targets that are known by another name
module _ (t : List ℕ) (n k : ℕ) (target : ℕ → ℕ) (m : ℕ) (named : ℕ → ℕ) (count : m ≡ k)
    (same : (j : ℕ) → j < k → named j ≡ target j) where
  picked_as : (mark r : ℕ) → PickedBy t n k target mark r → PickedBy t n m named mark r
  picked_as mark r p = (p.0, λ h. p.1 (omega arith), λ j h e. let q = p.2 j (omega arith) e in (q.0, q.1 ∙ sym (same j (omega arith))))

  from_as : (first many : ℕ) (v x : List ℕ) → NamedFrom t n k target first many v x → NamedFrom t n m named first many v x
  from_as first many v x so =
      record { picked = λ j h. picked_as (get_or v (2304 + first + j) 0) (get_or x (2304 + first + j) 0) (so.picked j h); apart = so.apart }

  pub names_as : (row : ℕ) (v x : List ℕ) → NamesPut t n k target row v x → NamesPut t n m named row v x
  names_as row v x so = record { below = so.below; named = λ e l. from_as _ _ v x (so.named e l); other = so.other }
