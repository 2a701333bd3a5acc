-- The primary item by its row: not listed, opaque, or a picture. Assumes nothing.
use Prim.Native.Nat.{ℕ, ◌<◌}
use native.Mathlib.Omega.{arith}
use mathlib.Core.Path.{◌≡◌, refl, sym, ap, ◌∙◌}
use mathlib.Core.List.{List}
use mathlib.Core.Bool.{true, false}
use lib.ListN.{length, get_or, get_or-eq_default}
use lib.Dec.{eqb}
use Rattle.std.specs.Prelude.{Option, Some, None}
use Rattle.boxes.specs.Types.{image}
use Rattle.table.specs.declared.ItemRow.{ItemRow}
use Rattle.contents.specs.File.{File}
use Rattle.rules.specs.Joined.{row_of, no_item, item_at}
use Rattle.rules.specs.Places.{Places}
use Rattle.rules.specs.Rules.{good_primary}
use Rattle.views.specs.inner.View.{TableOf, record_word}
use Rattle.views.specs.inner.Told.{told_row}
use Rattle.views.proofs.LookupLaws.{Found, found}
use Rattle.views.proofs.TableLaws.{row_small}

-- good_primary: by what the lookup gives for the ID p that stands in the table
module _ {t head : List ℕ} {pl : Places} {f : File} (v : TableOf t head pl f) (p : ℕ) (q : p ≡ get_or t 5 0) where
  primary-told : (x : Option ItemRow) → x ≡ told_row p f.items → Found f.primary f.items x
  primary-told x e = rw (q ∙ v.primary) at (found p f.items x x e refl)

  pub primary-unlisted : None ≡ told_row p f.items → false ≡ good_primary f
  primary-unlisted e =
      let r : row_of f.primary f.items ≡ length f.items = (primary-told None e).1 in
      rw (r, get_or-eq_default f.items no_item {n = length f.items} (omega arith)) refl

  module _ (r : ItemRow) (e : Some r ≡ told_row p f.items) (k : ℕ) (w : r.0 < 256 → k ≡ record_word t r.0 1) where
    row_told : (row_of f.primary f.items ≡ r.0) × (r.0 < length f.items)
    row_told = let w = primary-told (Some r) e in (w.1, w.2)

    row_type : k ≡ (item_at f (row_of f.primary f.items)).type
    row_type = w (row_small v r.0 row_told.1) ∙ v.type r.0 row_told.1 ∙ ap (λ (i : ℕ). (item_at f i).type) (sym row_told.0)

    pub primary-opaque : image k ≡ false → false ≡ good_primary f
    primary-opaque o = rw (← row_type, o) refl

    pub primary-shown : image k ≡ true → (h : ℕ) → (r.0 < 256 → h ≡ record_word t r.0 2) → eqb h 0 ≡ good_primary f
    primary-shown o h z =
        let s : h ≡ (item_at f (row_of f.primary f.items)).hidden = z (row_small v r.0 row_told.1) ∙
        v.hidden r.0 row_told.1 ∙ ap (λ (i : ℕ). (item_at f i).hidden) (sym row_told.0) in
        rw (← row_type, o, ← s) refl
