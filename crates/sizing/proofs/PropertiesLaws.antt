-- told_properties: as the code comes to it, and what it says of 15, 29 and 16. Assumes nothing.
--   good_properties f i    the properties of the item i keep 15, 29 and 16
--   Said f r x            what the code's value x says of the properties of the item in row r
use Prim.Native.Nat.{ℕ}
use mathlib.Core.Path.{◌≡◌, refl, sym, ap, subst}
use mathlib.Core.Bool.{Bool, true, false, ◌&&◌}
use Rattle.std.specs.Prelude.{Option, Some, None}
use Rattle.fields.proofs.FieldLaws.{pick_yes, pick_no, both}
use Rattle.fields.proofs.TestLaws.{both-and, and_none}
use Rattle.contents.specs.Iinf.{Item}
use Rattle.contents.specs.File.{File}
use Rattle.rules.specs.Joined.{associations_of, boxes_of, types_of, item_at}
use Rattle.rules.specs.Derivations.{declared_in}
use Rattle.rules.specs.Rules.{essential_known, configured, good_ispe}
use Rattle.views.specs.inner.View.{id_of}
use Rattle.declared.specs.inner.Told.{Alike, told_sizes}
use Rattle.declared.specs.declared.Sizes.{Sizes}
use Rattle.declared.proofs.AlikeLaws.{alike_told, alike_configured}
use Rattle.declared.proofs.SizeLaws.{through}
use Rattle.declared.proofs.ToldLaws.{Says, says}
use Rattle.sizing.specs.inner.Drawn.{told_properties}

abbrev pub good_properties : File → Item → Bool
good_properties f i = configured f i && (essential_known f (associations_of f i.id) && good_ispe (types_of f i.id))

abbrev pub Said : File → ℕ → Option Sizes → Type 0
Said f r (Some s) =
    (good_properties f (item_at f r) ≡ true) × (s.declared ≡ declared_in (boxes_of f (id_of f r))) ×
    (s.output ≡ through s.declared (boxes_of f (id_of f r)))
Said f r None = good_properties f (item_at f r) ≡ false

module _ (f : File) (r : ℕ) where
  pub properties-read : configured f (item_at f r) ≡ true → told_sizes f (id_of f r) ≡ told_properties f r
  unfolding told_properties
  properties-read e = sym (pick_yes _ _ e)

  pub properties_wrong : configured f (item_at f r) ≡ false → None ≡ told_properties f r
  unfolding told_properties
  properties_wrong e = sym (pick_no _ _ e)

  pub properties_alike : (q : ℕ) → Alike f r q → told_properties f r ≡ told_properties f q
  unfolding told_properties
  properties_alike q e = rw (alike_configured f r q e, alike_told f r q e)

  -- the code's value
  said_so : (x : Option Sizes) → configured f (item_at f r) ≡ true → Says f (id_of f r) x → Said f r x
  said_so (Some x) k s = (both-and _ _ k s.0, s.1, s.2)
  said_so None k s = and_none (configured f (item_at f r)) _ s

  pub said : (x : Option Sizes) → x ≡ told_properties f r → Said f r x
  unfolding told_properties
  said x e = subst (Said f r) (sym e) (both (Said f r) (configured f (item_at f r)) _ _
      (λ k. said_so (told_sizes f (id_of f r)) k (says f (id_of f r) _ _ refl refl))
      (λ k. ap (λ (t : Bool). t && (essential_known f (associations_of f (id_of f r)) && good_ispe (types_of f (id_of f r)))) k))
