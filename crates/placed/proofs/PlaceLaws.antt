-- 13 and 14 by the words of an item's record and the ends of its extents. Assumes nothing.
use Prim.Native.Nat.{ℕ, ◌+◌, ◌≤◌, ◌<◌}
use native.Mathlib.Omega.{arith}
use mathlib.Core.Path.{◌≡◌, refl, sym, ap, ◌∙◌, fun_ext}
use mathlib.Core.List.{List}
use mathlib.Core.Bool.{Bool, true, false, ◌&&◌, not}
use lib.ListN.{length}
use lib.Dec.{leb, eqb}
use Rattle.std.specs.Prelude.{Some, None}
use borrow.Author.Tests.{leb-true, leb-false, eqb-true, eqb-false, eq-eqb, ne_eqb}
use Rattle.fields.specs.Choice.{pick}
use Rattle.fields.proofs.FieldLaws.{pick_yes, pick_no}
use Rattle.fields.proofs.TestLaws.{and_both}
use Rattle.boxes.specs.Answer.{◌>>◌, check}
use Rattle.contents.specs.Iloc.{Extent, Location}
use Rattle.contents.specs.Iinf.{Item}
use Rattle.contents.specs.File.{File}
use Rattle.rules.specs.Bytes.{all_extents, good_method, good_lengths, made_of_items, chained, names_past}
use Rattle.rules.specs.Bytes as file
use Rattle.rules.specs.inner.Direct.{Store, store_of, within}
use Rattle.rules.specs.Joined.{location_of}
use Rattle.rules.specs.Places.{Places, file_offset}
use Rattle.rules.specs.Rules.{has_bytes, rule13-30-14}
use Rattle.views.specs.inner.View.{TableOf, record_word, id_of}
use Rattle.views.specs.inner.Told.{fault_of}
use Rattle.views.proofs.TableLaws.{row_small}
use Rattle.rules.proofs.ChainLaws.{chained-other}
use Rattle.rules.proofs.ByteLaws.{within-other}
use Rattle.placed.specs.inner.Plain.{plain_method, plain_rule}

-- leb
pub same-leb : (a b c d : ℕ) → (a ≤ b → c ≤ d) → (c ≤ d → a ≤ b) → leb a b ≡ leb c d
same-leb a b c d there back = by (leb a b) (leb c d) refl refl
  where
    by : (t u : Bool) → leb a b ≡ t → leb c d ≡ u → leb a b ≡ leb c d
    by true true e q = e ∙ sym q
    by true false e q = absurd (omega (arith, there (leb-true a b e), leb-false c d q))
    by false true e q = absurd (omega (arith, back (leb-true c d q), leb-false a b e))
    by false false e q = e ∙ sym q

-- within: in bytes of the source, and in places of the file, where the source ends at `end`
within-before : (total : ℕ) (head : List ℕ) (f : File) (pl : Places) (l : Location) (end : ℕ) →
    (l.method ≡ 1 → end ≡ pl.idat + length f.idat) → ((l.method ≡ 1 → ⊥) → end ≡ total)
    → within (store_of total head f l.method) l ≡ all_extents (λ (e : Extent). leb (file_offset pl l e + e.size) end) l.extents
unfolding file_offset pick
within-before total head f pl l end inside outside = ap (λ (t : Extent → Bool). all_extents t l.extents)
    (fun_ext (λ (e : Extent). by e (eqb l.method 1) refl))
  where
    by : (e : Extent) (t : Bool) → eqb l.method 1 ≡ t
        → leb (l.base + e.offset + e.size) (pick {A = Store} t (record { size = length f.idat; known = f.idat })
        (record { size = total; known = head })).size
        ≡ leb (pick t pl.idat 0 + (l.base + e.offset) + e.size) end
    by e true q = let z = inside (eqb-true l.method 1 q) in
        same-leb (l.base + e.offset + e.size) (length f.idat) (pl.idat + (l.base + e.offset) + e.size) end
        (λ h. omega arith) (λ h. omega arith)
    by e false q = let z = outside (eqb-false l.method 1 q) in
        same-leb (l.base + e.offset + e.size) total (0 + (l.base + e.offset) + e.size) end (λ h. omega arith)
        (λ h. omega arith)

-- the item in row r, by the words of its record
module _ {t head : List ℕ} {pl : Places} {f : File} (v : TableOf t head pl f) (r : ℕ) (h : r < length f.items) where
  module _ (m : ℕ) (e : r < 256 → m ≡ record_word t r 9) where
    method-read : m ≡ (location_of f (id_of f r)).method
    method-read = e (row_small v r h) ∙ v.method r h

    pub method-made : m ≡ 2 → made_of_items f (id_of f r) ≡ true
    method-made q = eq-eqb _ 2 (sym method-read ∙ q)

    pub method-other : (m ≡ 2 → ⊥) → made_of_items f (id_of f r) ≡ false
    method-other q = ne_eqb _ 2 (λ z. q (method-read ∙ z))

    module _ (total : ℕ) where
      pub within-idat : m ≡ 1 → (end : ℕ) → pl.idat + length f.idat ≡ end
          → within (store_of total head f (location_of f (id_of f r)).method) (location_of f (id_of f r)) ≡ all_extents
          (λ (e : Extent). leb (file_offset pl (location_of f (id_of f r)) e + e.size) end)
          (location_of f (id_of f r)).extents
      within-idat q end z = within-before total head f pl (location_of f (id_of f r)) end (λ x. sym z) (λ x. absurd (x (sym method-read ∙ q)))

      pub within-file : (m ≡ 1 → ⊥)
          → within (store_of total head f (location_of f (id_of f r)).method) (location_of f (id_of f r)) ≡ all_extents
          (λ (e : Extent). leb (file_offset pl (location_of f (id_of f r)) e + e.size) total)
          (location_of f (id_of f r)).extents
      within-file q = within-before total head f pl (location_of f (id_of f r)) total (λ x. absurd (q (method-read ∙ x))) (λ x. refl)

-- plain_rule
module _ (total : ℕ) (head : List ℕ) (f : File) (i : Item) where
  abbrev method_and_lengths : Bool
  method_and_lengths = plain_method (location_of f i.id) && good_lengths (location_of f i.id)

  abbrev within_and_bytes : Bool
  within_and_bytes = within (store_of total head f (location_of f i.id).method) (location_of f i.id) && has_bytes f i

  plain_other : made_of_items f i.id ≡ false → plain_rule total head f i ≡ (check 13 i.id method_and_lengths >> check 14 i.id within_and_bytes)
  unfolding plain_rule
  plain_other m = pick_no _ _ m

  -- an item of another method: what the rule itself says
  module _ (m : made_of_items f i.id ≡ false) where
    between : (a c d : Bool) → c ≡ true → (check 13 i.id a >> check 14 i.id d) ≡ (check 13 i.id a >> check 30 i.id c >> check 14 i.id d)
    unfolding check ◌>>◌
    between true c d e = rw e
    between false c d e = refl

    same-method : method_and_lengths ≡ (good_method (location_of f i.id) && good_lengths (location_of f i.id))
    same-method = ap (λ (b : Bool). (b && eqb (location_of f i.id).reference 0) && good_lengths (location_of f i.id))
        (same-leb (location_of f i.id).method 1 (location_of f i.id).method 2 (λ h. omega arith) (λ h. below h (eqb-false _ 2 m)))
      where
        below : {k : ℕ} → k ≤ 2 → (k ≡ 2 → ⊥) → k ≤ 1
        below h n = omega arith

    names-none : names_past 8 f i.id ≡ false
    unfolding names_past
    names-none = rw m

    same_place : within_and_bytes ≡ (not (names_past 8 f i.id) && (file.within total head f i.id && has_bytes f i))
    same_place = sym (ap (λ (b : Bool). not b && (file.within total head f i.id && has_bytes f i)) names-none
        ∙ ap (λ (b : Bool). b && has_bytes f i) (within-other total head f i.id m))

    pub plain-same : plain_rule total head f i ≡ rule13-30-14 total head f i
    unfolding rule13-30-14
    plain-same =
        plain_other m ∙ between method_and_lengths (chained 8 f i.id) within_and_bytes (chained-other f 8 i.id m)
        ∙ ap (λ (b : Bool). check 13 i.id b >> check 30 i.id (chained 8 f i.id) >> check 14 i.id within_and_bytes) same-method
        ∙ ap (λ (b : Bool). check 13 i.id (good_method (location_of f i.id) && good_lengths (location_of f i.id)) >>
        check 30 i.id (chained 8 f i.id) >> check 14 i.id b) same_place

-- plain_rule: by answers, each needed only where those before it are yes; the lengths apart only where an extent is wrong
module _ (total : ℕ) (head : List ℕ) (f : File) (i : Item) (good : Bool) (e : good ≡ plain_method (location_of f i.id)) where
  pub fault_made : made_of_items f i.id ≡ true → Some 30 ≡ fault_of (plain_rule total head f i)
  unfolding plain_rule fault_of
  fault_made m = sym (ap fault_of (pick_yes _ _ m))

  pub fault_method : good ≡ false → made_of_items f i.id ≡ false → Some 13 ≡ fault_of (plain_rule total head f i)
  unfolding fault_of check ◌>>◌
  fault_method n m = rw (plain_other total head f i m, ← e, n) refl

  module _ (y : good ≡ true) (inside : Bool) (q : inside ≡
      (good_lengths (location_of f i.id) && within (store_of total head f (location_of f i.id).method)
      (location_of f i.id))) where
    -- method 0 or 1
    other : made_of_items f i.id ≡ false
    other =
        let few = leb-true (location_of f i.id).method 1 (and_both (leb (location_of f i.id).method 1) _ (sym e ∙ y)).0 in
        ne_eqb (location_of f i.id).method 2 (λ z. omega arith)

    module _ (n : inside ≡ false) (long : Bool) (p : long ≡ good_lengths (location_of f i.id)) where
      pub fault_length : long ≡ false → Some 13 ≡ fault_of (plain_rule total head f i)
      unfolding fault_of check ◌>>◌
      fault_length z = rw (plain_other total head f i other, ← e, y, ← p, z) refl

      pub fault_outside : long ≡ true → Some 14 ≡ fault_of (plain_rule total head f i)
      unfolding fault_of check ◌>>◌
      fault_outside z =
          let o : within (store_of total head f (location_of f i.id).method) (location_of f i.id) ≡ false = rw (sym p ∙ z) at (sym q ∙ n) in
          rw (plain_other total head f i other, ← e, y, ← p, z, o) refl

    module _ (z : inside ≡ true) (full : Bool) (p : full ≡ has_bytes f i) where
      both-good : (good_lengths (location_of f i.id) ≡ true) × (within (store_of total head f (location_of f i.id).method) (location_of f i.id) ≡ true)
      both-good = and_both (good_lengths (location_of f i.id)) _ (sym q ∙ z)

      pub fault_empty : full ≡ false → Some 14 ≡ fault_of (plain_rule total head f i)
      unfolding fault_of check ◌>>◌
      fault_empty n = rw (plain_other total head f i other, ← e, y, both-good.0, both-good.1, ← p, n) refl

      pub fault_none : full ≡ true → None ≡ fault_of (plain_rule total head f i)
      unfolding fault_of check ◌>>◌
      fault_none n = rw (plain_other total head f i other, ← e, y, both-good.0, both-good.1, ← p, n) refl
