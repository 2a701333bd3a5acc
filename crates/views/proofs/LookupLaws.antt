-- A lookup by ID gives the item's row. Assumes nothing.
use Prim.Native.Nat.{ℕ, zero, suc, ◌+◌, ◌*◌, ◌<◌}
use native.Mathlib.Nat.{not-suc-le-zero, le_of_suc-le-suc, add-zero}
use native.Mathlib.Omega.{arith}
use mathlib.Core.Path.{◌≡◌, refl, sym, ap, ◌∙◌, subst}
use mathlib.Core.List.{List, [], ◌∷◌}
use mathlib.Core.Bool.{true, false}
use mathlib.Core.Logic.{⊎_elim}
use lib.ListN.{length, get_or, length-map}
use lib.Dec.{eqb}
use borrow.Author.Tests.{eq-eqb, ne_eqb, eqb-true}
use Rattle.std.specs.Prelude.{Option, Some, None}
use Rattle.fields.specs.Lists.{member}
use Rattle.fields.proofs.FieldLaws.{pick_yes, pick_no, both}
use Rattle.fields.proofs.TestLaws.{untrue, or_either, member-at}
use Rattle.table.specs.declared.ItemRow.{ItemRow}
use Rattle.contents.specs.Iinf.{Item, ids_of}
use Rattle.contents.specs.File.{File}
use Rattle.rules.specs.Joined.{row_of, no_item, item_at}
use Rattle.rules.specs.Places.{Places}
use Rattle.records.specs.inner.Rows.{Distinct, id_at, FoundIs}
use Rattle.records.proofs.MemberLaws.{member-none, none-member, member_neither}
use Rattle.records.proofs.RawLaws.{id-at, ids-long}
use Rattle.views.specs.inner.View.{TableOf, id_of}
use Rattle.views.specs.inner.Told.{told_row}

-- row_of
pub row_of_at : (is : List Item) (r id : ℕ) → r < length is → Distinct (ids_of is) → (get_or is r no_item).id ≡ id → row_of id is ≡ r
unfolding row_of
row_of_at [] r id h d e = absurd (not-suc-le-zero h)
row_of_at (i ∷ is) zero id h d e = pick_yes _ _ (eq-eqb i.id id e)
row_of_at (i ∷ is) (suc r) id h d e =
    let l = le_of_suc-le-suc h in
    let n : i.id ≡ id → ⊥ = λ q. none-member i.id (ids_of is) d.0 r (rw length-map l) (id-at is r ∙ e ∙ sym q) in
    pick_no _ _ (ne_eqb i.id id n) ∙ ap suc (row_of_at is r id l d.1 e)

pub row_of_none : (is : List Item) (id : ℕ) → member id (ids_of is) ≡ false → row_of id is ≡ length is
unfolding row_of
row_of_none [] id e = refl
row_of_none (i ∷ is) id e =
    let n = member_neither id i.id (ids_of is) e in
    pick_no _ _ (ne_eqb i.id id (λ q. n.0 (sym q))) ∙ ap suc (row_of_none is id n.1)

-- the row of a listed ID is one of the rows
pub row_listed : (is : List Item) (id : ℕ) → member id (ids_of is) ≡ true → row_of id is < length is
unfolding row_of
row_listed [] id e = untrue e
row_listed (i ∷ is) id e =
    both (λ (r : ℕ). r < suc (length is)) (eqb i.id id) _ _ (λ q. omega arith)
    (λ q. ⊎_elim (λ z. untrue (sym q ∙ eq-eqb i.id id (sym (eqb-true id i.id z))))
    (λ z. omega (arith, row_listed is id z)) (or_either (eqb id i.id) (member id (ids_of is)) e))

-- told_row: what a lookup found
abbrev pub Found : ℕ → List Item → Option ItemRow → Type 0
Found id is (Some r) = (member id (ids_of is) ≡ true) × (row_of id is ≡ r.0) × (r.0 < length is)
Found id is None = (member id (ids_of is) ≡ false) × (row_of id is ≡ length is)

pub found : (id : ℕ) (is : List Item) (x y : Option ItemRow) → x ≡ told_row id is → x ≡ y → Found id is y
unfolding told_row
found id is x y e q =
    subst (Found id is) (sym e ∙ q)
    (both (Found id is) (member id (ids_of is)) _ _ (λ m. (m, refl, row_listed is id m)) (λ m. (m, row_of_none is id m)))

module _ (id : ℕ) (is : List Item) where
  pub told_at : (r : ItemRow) → Some r ≡ told_row id is → (r.0 ≡ row_of id is) × (r.0 < length is)
  told_at r e = let w = found id is (Some r) (Some r) e refl in (sym w.1, w.2)

  pub told-nothing : None ≡ told_row id is → length is ≡ row_of id is
  told-nothing e = let w = found id is None None e refl in sym w.1

-- the row that a table gives
module _ {t head : List ℕ} {pl : Places} {f : File} (v : TableOf t head pl f) (id : ℕ) where
  row-id : (r : ℕ) → r < length f.items → id_at t r ≡ id_of f r
  row-id r h = ap (λ (k : ℕ). get_or t k 0) (sym (add-zero (16 + 16 * r))) ∙ v.id r h

  pub found-told : (n : ℕ) (x : Option ItemRow) → n ≡ length f.items → FoundIs t n id x → x ≡ told_row id f.items
  unfolding told_row
  found-told n (Some r) q w =
      let l : r.0 < length f.items = rw (← q) w.0 in
      let e : (item_at f r.0).id ≡ id = sym (row-id r.0 l) ∙ w.1 in
      let m : member id (ids_of f.items) ≡ true = member-at id (ids_of f.items) r.0 (rw length-map l) (id-at f.items r.0 ∙ e) in
      rw (m, row_of_at f.items r.0 id l v.distinct e) (sym (pick_yes _ _ refl))
  found-told n None q w =
      sym (pick_no _ _ (member-none id (ids_of f.items) (λ k h e.
      let l : k < length f.items = omega (arith, ids-long f.items) in
      w k (omega arith) (row-id k l ∙ sym (id-at f.items k) ∙ e))))
