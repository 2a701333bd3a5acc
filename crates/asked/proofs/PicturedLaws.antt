-- Items that are asked for: their rows in the table of an accepted file, 21 and 22. Assumes nothing.
use Prim.Native.Nat.{ℕ, suc, ◌<◌}
use mathlib.Core.Path.{◌≡◌, refl, sym, ap, ◌∙◌, subst}
use mathlib.Core.List.{List, [], ◌∷◌}
use mathlib.Core.Bool.{Bool, true, false}
use mathlib.Core.Logic.{⊎_elim}
use lib.ListN.{length, get_or}
use lib.Dec.{eqb}
use borrow.Author.Tests.{eq-eqb, eqb-true}
use Rattle.std.specs.Prelude.{Some, None, Ok, ok_or}
use Rattle.fields.specs.Choice.{pick}
use Rattle.fields.specs.Lists.{member}
use Rattle.fields.proofs.FieldLaws.{both}
use Rattle.fields.proofs.TestLaws.{untrue, or_either}
use Rattle.table.specs.declared.ItemRow.{ItemRow}
use Rattle.boxes.specs.Answer.{Answer, ok, refuse, check, ◌>>=◌, ◌>>◌}
use Rattle.boxes.specs.Types.{image}
use Rattle.boxes.specs.declared.Refusal.{Refusal}
use Rattle.boxes.specs.Told.{told}
use Rattle.boxes.proofs.AnswerLaws.{bind_ok, then_ok, check-ok, ok_inj}
use Rattle.boxes.proofs.ToldLaws.{told-ok}
use Rattle.contents.specs.Iinf.{Item, ids_of}
use Rattle.contents.specs.File.{File}
use Rattle.rules.specs.Joined.{row_of, no_item, item_at}
use Rattle.rules.specs.Opening.{listed, pictured}
use Rattle.views.specs.inner.View.{id_of}
use Rattle.views.specs.inner.Told.{told_row}
use Rattle.views.proofs.LookupLaws.{row_listed}
use Rattle.asked.specs.inner.Told.{row_at}

-- row_of: the item in its row
pub row_holds : (is : List Item) (id : ℕ) → member id (ids_of is) ≡ true → (get_or is (row_of id is) no_item).id ≡ id
unfolding row_of
row_holds [] id e = untrue e
row_holds (i ∷ is) id e = both (λ (k : ℕ). (get_or (i ∷ is) k no_item).id ≡ id) (eqb i.id id) 0 (suc (row_of id is))
    (λ q. eqb-true i.id id q) (λ q. row_holds is id (rest q))
  where
    rest : eqb i.id id ≡ false → member id (ids_of is) ≡ true
    rest q = ⊎_elim (λ h. untrue (sym q ∙ eq-eqb i.id id (sym (eqb-true id i.id h)))) (λ h. h) (or_either (eqb id i.id) (member id (ids_of is)) e)

-- told by a row: which one
pub row_told : (m : Answer ℕ) (r : ItemRow) → Ok r ≡ told row_at m → m ≡ ok r.0
row_told m r e = let w = told-ok row_at m r (sym e) in w.1 ∙ ap (λ (x : ItemRow). ok x.0) w.2

-- listed, asked by the lookup: 21 where nothing is found
pub row-listed : (f : File) (id : ℕ) (y : Refusal) → y.number ≡ 21 → y.place ≡ id → ok_or (told_row id f.items) y ≡ told row_at (listed f id)
unfolding told told_row pick listed check ◌>>◌
row-listed f id y n p = by (member id (ids_of f.items))
  where
    by : (t : Bool) → ok_or (pick t (Some (row_at (row_of id f.items))) None) y ≡ told row_at (check 21 id t >> ok (row_of id f.items))
    by true = refl
    by false = rw (← n, ← p)

-- listed: the row is the asked item's
module _ (f : File) (id r : ℕ) (e : listed f id ≡ ok r) where
  is_listed : (member id (ids_of f.items) ≡ true) × (row_of id f.items ≡ r)
  unfolding listed
  is_listed = let x = then_ok _ _ r e in (check-ok 21 id _ x.0 x.1, ok_inj _ _ x.2)

  pub listed_row : r < length f.items
  listed_row = subst (λ (k : ℕ). k < length f.items) is_listed.1 (row_listed f.items id is_listed.0)

  pub listed_id : id_of f r ≡ id
  listed_id = subst (λ (k : ℕ). id_of f k ≡ id) is_listed.1 (row_holds f.items id is_listed.0)

-- pictured: the item in the listed row, by whether it is a picture
module _ (f : File) (id : ℕ) where
  pub picture_at : (r : ℕ) → listed f id ≡ ok r → image (item_at f r).type ≡ true → pictured f id ≡ ok r
  unfolding pictured check ◌>>=◌ ◌>>◌
  picture_at r e i = rw (e, i)

  pub picture_opaque : (r : ℕ) → listed f id ≡ ok r → image (item_at f r).type ≡ false → pictured f id ≡ refuse 22 id
  unfolding pictured check ◌>>=◌ ◌>>◌
  picture_opaque r e i = rw (e, i)

module _ (f : File) (id r : ℕ) (e : pictured f id ≡ ok r) where
  is_picture : (listed f id ≡ ok r) × (image (item_at f r).type ≡ true)
  unfolding pictured
  is_picture =
      let x = bind_ok _ _ r e in
      let z = then_ok _ _ r x.2 in
      let i = check-ok 22 id _ z.0 z.1 in
      let k = ok_inj _ _ z.2 in
      (x.1 ∙ z.2, subst (λ (k : ℕ). image (item_at f k).type ≡ true) k i)

  pub picture-listed : r < length f.items
  picture-listed = listed_row f id r is_picture.0

  pub picture-image : image (item_at f r).type ≡ true
  picture-image = is_picture.1

  pub picture-id : id_of f r ≡ id
  picture-id = listed_id f id r is_picture.0
