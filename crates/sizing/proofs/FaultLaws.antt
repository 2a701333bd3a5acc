-- rule15-29-16 by its five tests, and as the code comes to them. Assumes nothing.
use Prim.Native.Nat.{ℕ, ◌<◌}
use mathlib.Core.Path.{◌≡◌, refl, sym, ap, ◌∙◌}
use mathlib.Core.List.{List}
use mathlib.Core.Bool.{Bool, true, false, ◌&&◌}
use Rattle.std.specs.Prelude.{Option, Some, None}
use Rattle.std.proofs.lemmas.Option.{none-some}
use lib.ListN.{length}
use lib.Dec.{eqb}
use borrow.Author.Tests.{eq-eqb, ne_eqb}
use Rattle.fields.specs.Choice.{pick}
use Rattle.fields.proofs.TestLaws.{untrue}
use Rattle.boxes.specs.Answer.{ok, check, ◌>>◌}
use Rattle.boxes.specs.Types.{image}
use Rattle.contents.specs.Iinf.{Item}
use Rattle.contents.specs.File.{File}
use Rattle.rules.specs.Joined.{associations_of, types_of, item_at}
use Rattle.rules.specs.Places.{Places}
use Rattle.rules.specs.Rules.{essential_known, configured, good_ispe, rule15-29-16}
use Rattle.views.specs.inner.View.{TableOf, record_word, id_of}
use Rattle.views.specs.inner.Told.{fault_of}
use Rattle.views.proofs.TableLaws.{row_small, test_read}
use Rattle.sizing.proofs.PropertiesLaws.{good_properties}

-- 15, 29 and 16 by what the five tests say
abbrev ruled : ℕ → Bool → Bool → Bool → Bool → Bool → Option ℕ
ruled id a b c k d = fault_of (pick a (check 15 id (b && c) >> check 29 id k >> check 16 id d) (ok tt))

module _ (f : File) (i : Item) where
  abbrev known : Bool
  known = essential_known f (associations_of f i.id)

  abbrev sized : Bool
  sized = good_ispe (types_of f i.id)

  told : (a b c k d : Bool) → image i.type ≡ a → eqb i.protection 0 ≡ b → known ≡ c → configured f i ≡ k → sized ≡ d
      → fault_of (rule15-29-16 f i) ≡ ruled i.id a b c k d
  unfolding rule15-29-16
  told a b c k d ea eb ec ek ed =
      ap (λ (x : Bool). ruled i.id x (eqb i.protection 0) known (configured f i) sized) ea
      ∙ ap (λ (x : Bool). ruled i.id a x known (configured f i) sized) eb
      ∙ ap (λ (x : Bool). ruled i.id a b x (configured f i) sized) ec
      ∙ ap (λ (x : Bool). ruled i.id a b c x sized) ek
      ∙ ap (λ (x : Bool). ruled i.id a b c k x) ed

  opaque_free : image i.type ≡ false → None ≡ fault_of (rule15-29-16 f i)
  unfolding fault_of pick
  opaque_free e = sym (told false _ _ _ _ e refl refl refl refl)

  module _ (e : image i.type ≡ true) where
    protected-15 : eqb i.protection 0 ≡ false → Some 15 ≡ fault_of (rule15-29-16 f i)
    unfolding fault_of pick check ◌>>◌
    protected-15 p = sym (told true false _ _ _ e p refl refl refl)

    -- c, k and d are what the properties say
    module _ (p : eqb i.protection 0 ≡ true) where
      properties_fault : (c k d : Bool) → known ≡ c → configured f i ≡ k → sized ≡ d → (k && (c && d)) ≡ false →
          Some (pick c (pick k 16 29) 15) ≡ fault_of (rule15-29-16 f i)
      unfolding fault_of pick check ◌>>◌
      properties_fault true true true ec ek ed q = untrue (sym q)
      properties_fault true true false ec ek ed q = sym (told true true true true false e p ec ek ed)
      properties_fault true false d ec ek ed q = sym (told true true true false d e p ec ek ed)
      properties_fault false k d ec ek ed q = sym (told true true false k d e p ec ek ed)

      properties_free : (c k d : Bool) → known ≡ c → configured f i ≡ k → sized ≡ d → (k && (c && d)) ≡ true →
          None ≡ fault_of (rule15-29-16 f i)
      unfolding fault_of pick check ◌>>◌
      properties_free true true true ec ek ed q = sym (told true true true true true e p ec ek ed)
      properties_free true true false ec ek ed q = untrue q
      properties_free c false d ec ek ed q = untrue q
      properties_free false true d ec ek ed q = untrue q

    -- and the other way: what the properties of an item say that is not refused
    good_free : (b c k d : Bool) → eqb i.protection 0 ≡ b → known ≡ c → configured f i ≡ k → sized ≡ d →
        fault_of (rule15-29-16 f i) ≡ None → (k && (c && d)) ≡ true
    unfolding fault_of pick check ◌>>◌
    good_free true true true true p ec ek ed z = refl
    good_free true true true false p ec ek ed z = absurd (none-some _ (sym z ∙ told true true true true false e p ec ek ed))
    good_free true true false d p ec ek ed z = absurd (none-some _ (sym z ∙ told true true true false d e p ec ek ed))
    good_free true false k d p ec ek ed z = absurd (none-some _ (sym z ∙ told true true false k d e p ec ek ed))
    good_free false c k d p ec ek ed z = absurd (none-some _ (sym z ∙ told true false c k d e p ec ek ed))

    pub free_good : fault_of (rule15-29-16 f i) ≡ None → good_properties f i ≡ true
    free_good z = good_free _ _ _ _ refl refl refl refl z

-- the item in row r of a table, by what the code reads: k its type, p its protection; x whether it is an image
module _ {t head : List ℕ} {pl : Places} {f : File} (v : TableOf t head pl f) (r : ℕ) (h : r < length f.items)
    (k : ℕ) (ek : r < 256 → k ≡ record_word t r 1) (x : Bool) (ex : x ≡ image k) where
  pub row_no_image : x ≡ false → image (item_at f r).type ≡ false
  row_no_image y = test_read v r h image k x ek ex ∙ y

  pub row-image : x ≡ true → image (item_at f r).type ≡ true
  row-image y = test_read v r h image k x ek ex ∙ y

  pub row-opaque : x ≡ false → None ≡ fault_of (rule15-29-16 f (item_at f r))
  row-opaque y = opaque_free f (item_at f r) (row_no_image y)

  module _ (y : x ≡ true) (g : record_word t r 12 ≡ (item_at f r).protection) (p : ℕ) (ep : r < 256 → p ≡ record_word t r 12) where
    protection_said : p ≡ (item_at f r).protection
    protection_said = ep (row_small v r h) ∙ g

    pub row-protected : (p ≡ 0 → ⊥) → Some 15 ≡ fault_of (rule15-29-16 f (item_at f r))
    row-protected n = protected-15 f (item_at f r) (row-image y) (ne_eqb _ 0 (λ z. n (protection_said ∙ z)))

    module _ (z : p ≡ 0) where
      open_is : eqb (item_at f r).protection 0 ≡ true
      open_is = eq-eqb _ 0 (sym protection_said ∙ z)

      pub row_wrong : (n : ℕ) →
          n ≡ pick (essential_known f (associations_of f (id_of f r))) (pick (configured f (item_at f r)) 16 29) 15 →
          good_properties f (item_at f r) ≡ false → Some n ≡ fault_of (rule15-29-16 f (item_at f r))
      row_wrong n e q = ap Some e ∙ properties_fault f (item_at f r) (row-image y) open_is _ _ _ refl refl refl q

      pub row-declared : good_properties f (item_at f r) ≡ true → None ≡ fault_of (rule15-29-16 f (item_at f r))
      row-declared q = properties_free f (item_at f r) (row-image y) open_is _ _ _ refl refl refl q
