-- 13 and 14 as most files need them, against 13, 30 and 14 themselves, over all items. Assumes nothing.
--   plain-good    where nothing is refused, nothing is;   plain-off    where something is by another number than 30, it is by the same
--   plain-unmade    where nothing is refused no item is made of others
use Prim.Native.Nat.{ℕ, suc, ◌<◌}
use mathlib.Core.Path.{◌≡◌, refl, sym, ap, ◌∙◌}
use mathlib.Core.List.{List, [], ◌∷◌}
use mathlib.Core.Bool.{true}
use mathlib.Core.Logic.{◌⊎◌, inl, inr, ⊎_elim}
use lib.ListN.{length}
use Rattle.fields.proofs.FieldLaws.{pick_yes}
use Rattle.std.specs.Prelude.{Ok, Err}
use Rattle.boxes.specs.Answer.{Answer, ok, refuse, ◌>>◌}
use Rattle.boxes.proofs.ToldLaws.{told-refused}
use Rattle.boxes.specs.declared.Refusal.{Refusal}
use Rattle.boxes.proofs.AnswerLaws.{not-refused, refuse-same}
use Rattle.contents.specs.Iinf.{Item}
use Rattle.contents.specs.File.{File}
use Rattle.rules.specs.Bytes.{made_of_items}
use Rattle.rules.specs.Joined.{item_at}
use Rattle.rules.specs.Places.{Places}
use Rattle.rules.specs.Rules.{in_order, rule13-30-14}
use Rattle.views.specs.inner.View.{TableOf, id_of}
use Rattle.linking.specs.inner.Links as Links
use Rattle.linking.proofs.LinkLaws.{by_test}
use Rattle.linking.proofs.LiftLaws.{made_lift}
use Rattle.placed.specs.inner.Plain.{plain_rule}
use Rattle.placed.proofs.PlaceLaws.{plain-same}
use Rattle.judging.specs.inner.Order.{rule_by, places_judged, told_judged}
use Rattle.judging.specs.declared.Rule.TheVariants.{Placed}
use Rattle.judging.proofs.JudgedLaws.{told-good, each-kept}

module _ (total : ℕ) (head : List ℕ) (f : File) where
  plain-made : (i : Item) → made_of_items f i.id ≡ true → plain_rule total head f i ≡ refuse 30 i.id
  unfolding plain_rule
  plain-made i m = pick_yes _ _ m

  -- the two differ only where the first of them gives 30
  abbrev plain_order : ℕ → List Item → Answer (Unit {0})
  plain_order r is = in_order (rule_by Placed total head f) r is

  abbrev place_order : ℕ → List Item → Answer (Unit {0})
  place_order r is = in_order (λ (r : ℕ) (i : Item). rule13-30-14 total head f i) r is

  order_same : (r : ℕ) (is : List Item) → ((p : ℕ) × (plain_order r is ≡ refuse 30 p)) ⊎ (plain_order r is ≡ place_order r is)
  unfolding in_order rule_by ◌>>◌
  order_same r [] = inr refl
  order_same r (i ∷ is) =
      by_test (made_of_items f i.id)
      (λ m. inl (i.id, ap (λ (a : Answer (Unit {0})). a >> plain_order (suc r) is) (plain-made i m)))
      (λ m. ⊎_elim
      (λ x. after (plain_rule total head f i) x.0 x.1 (plain-same total head f i m))
      (λ x. inr (ap (λ (a : Answer (Unit {0})). a >> plain_order (suc r) is) (plain-same total head f i m)
      ∙ ap (λ (a : Answer (Unit {0})). rule13-30-14 total head f i >> a) x)) (order_same (suc r) is))
    where
      after : (a : Answer (Unit {0})) (p : ℕ) → plain_order (suc r) is ≡ refuse 30 p → a ≡ rule13-30-14 total head f i →
          ((p : ℕ) × ((a >> plain_order (suc r) is) ≡ refuse 30 p)) ⊎
          ((a >> plain_order (suc r) is) ≡ (rule13-30-14 total head f i >> place_order (suc r) is))
      after (ok u) p x e = inl (p, x)
      after (refuse n q) p x e = inr (ap (λ (b : Answer (Unit {0})). b >> place_order (suc r) is) e)

  pub plain-good : told_judged (plain_order 0 f.items) ≡ Ok tt → told_judged (places_judged total head f) ≡ Ok tt
  plain-good e =
      ⊎_elim (λ x. not-refused tt 30 x.0 (sym (told-good _ e) ∙ x.1)) (λ x. ap told_judged (sym x) ∙ e) (order_same 0 f.items)

  pub plain_off : (y : Refusal) → told_judged (plain_order 0 f.items) ≡ Err y → (y.number ≡ 30 → ⊥) →
      told_judged (places_judged total head f) ≡ Err y
  plain_off y e n =
      ⊎_elim (λ x. absurd (n (refuse-same _ _ _ _ (sym x.1 ∙ told-refused _ _ y e)).0)) (λ x. ap told_judged (sym x) ∙ e) (order_same 0 f.items)

  pub plain_unmade : told_judged (plain_order 0 f.items) ≡ Ok tt → {t : List ℕ} {pl : Places} → TableOf t head pl f →
      (r : ℕ) → r < length f.items → Links.made_of_items t r ≡ true → ⊥
  unfolding rule_by
  plain_unmade e v r h m =
      not-refused tt 30 (id_of f r) (sym (each-kept (rule_by Placed total head f) f (told-good _ e) r h)
      ∙ plain-made (item_at f r) (sym (made_lift v r h) ∙ m))
