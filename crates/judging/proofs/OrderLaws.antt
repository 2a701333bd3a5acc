-- A rule for each item in table order, item by item. Assumes nothing.
use Prim.Native.Nat.{ℕ, ◌+◌, ◌<◌, ◌≤◌}
use native.Mathlib.Omega.{arith}
use mathlib.Core.Path.{◌≡◌, refl, sym, ap, ◌∙◌, subst}
use mathlib.Core.List.{List}
use lib.ListN.{length}
use Rattle.fields.proofs.FieldLaws.{both}
use Rattle.std.specs.Prelude.{Ok, Err, Option, Some, None}
use Rattle.boxes.specs.Answer.{Answer, ok, refuse, ◌>>=◌}
use Rattle.boxes.specs.Told.{told}
use Rattle.contents.specs.Iinf.{Item}
use Rattle.contents.specs.File.{File}
use Rattle.pictures.specs.Recipe.{Recipe}
use Rattle.rules.specs.Joined.{item_at}
use Rattle.rules.specs.Derivations.{as_rule17}
use Rattle.rules.specs.Rules.{rule13-30-14, rule17, rule18, rule19}
use Rattle.rules.specs.Places.{places_in}
use Rattle.views.specs.inner.View.{TableOf}
use Rattle.views.specs.inner.Told.{fault_of}
use Rattle.placed.specs.inner.Plain.{plain_rule}
use Rattle.sizing.proofs.OrderLaws.{Blames, check_blames, then_blames}
use Rattle.sizing.proofs.OrderLaws as orders
use Rattle.judging.specs.inner.Order.{rule_by, Ready, told_judged}
use Rattle.judging.specs.declared.Rule.{Rule}
use Rattle.judging.specs.declared.Rule.TheVariants.{Placed, Derived, Itself, Deep}

recipe_blames : (id : ℕ) (m : Answer Recipe) → Blames id (as_rule17 id m >>= (λ (r : Recipe). ok tt))
unfolding as_rule17 ◌>>=◌
recipe_blames id (ok r) = tt
recipe_blames id (refuse n p) = (refl, omega arith)

-- rule_by, and the rule that is asked where Placed gives 30
rule_blames : (rule : Rule) (total : ℕ) (head : List ℕ) (f : File) (r : ℕ) (i : Item) → Blames i.id (rule_by rule total head f r i)
unfolding rule_by plain_rule rule17 rule18 rule19
rule_blames Placed total head f r i =
    both (Blames i.id) _ _ _ (λ e. (refl, omega arith))
    (λ e. then_blames i.id _ _ (check_blames 13 _ _ (omega arith)) (check_blames 14 _ _ (omega arith)))
rule_blames Derived total head f r i = recipe_blames i.id _
rule_blames Itself total head f r i = check_blames 18 _ _ (omega arith)
rule_blames Deep total head f r i = check_blames 19 _ _ (omega arith)

place_blames : (total : ℕ) (head : List ℕ) (f : File) (i : Item) → Blames i.id (rule13-30-14 total head f i)
unfolding rule13-30-14
place_blames total head f i =
    then_blames i.id _ _ (then_blames i.id _ _ (check_blames 13 _ _ (omega arith)) (check_blames 30 _ _ (omega arith)))
    (check_blames 14 _ _ (omega arith))

-- in_order
module _ (g : ℕ → Item → Answer (Unit {0})) (f : File) (blames : (r : ℕ) (i : Item) → Blames i.id (g r i)) where
  told-end : (k : ℕ) → length f.items ≤ k → orders.from g f 0 ≡ orders.from g f k → Ok tt ≡ told_judged (orders.from g f 0)
  unfolding told
  told-end k h e = sym (ap told_judged (e ∙ orders.order_end g f k h))

  -- the item in row r, at place k in table order
  module _ (k r : ℕ) (h : k < length f.items) (e : orders.from g f 0 ≡ orders.from g f k) (i : r ≡ k) where
    told-on : None ≡ fault_of (g r (item_at f r)) → orders.from g f 0 ≡ orders.from g f (k + 1)
    told-on q = e ∙ orders.order_on g f k h (rw i at q)

    told_off : (n : ℕ) → Some n ≡ fault_of (g r (item_at f r)) → (id : ℕ) → id ≡ (item_at f r).id →
        Err (record { number = n; place = id }) ≡ told_judged (orders.from g f 0)
    unfolding told
    told_off n q id j = rw (j, i) (sym (ap told_judged (e ∙ orders.order_off g f k h n (blames k (item_at f k)) (rw i at q))))

module _ (rule : Rule) (total : ℕ) (head : List ℕ) (f : File) where
  abbrev pub from : ℕ → Answer (Unit {0})
  from = orders.from (rule_by rule total head f) f

  pub order_end : (k : ℕ) → length f.items ≤ k → from 0 ≡ from k → Ok tt ≡ told_judged (from 0)
  order_end = told-end (rule_by rule total head f) f (rule_blames rule total head f)

  module _ (k r : ℕ) (h : k < length f.items) (e : from 0 ≡ from k) (i : r ≡ k) where
    pub order_on : None ≡ fault_of (rule_by rule total head f r (item_at f r)) → from 0 ≡ from (k + 1)
    order_on = told-on (rule_by rule total head f) f (rule_blames rule total head f) k r h e i

    pub order_off : (n : ℕ) → Some n ≡ fault_of (rule_by rule total head f r (item_at f r)) → (id : ℕ) → id ≡ (item_at f r).id →
        Err (record { number = n; place = id }) ≡ told_judged (from 0)
    order_off = told_off (rule_by rule total head f) f (rule_blames rule total head f) k r h e i

module _ (total : ℕ) (head : List ℕ) (f : File) where
  abbrev pub places_from : ℕ → Answer (Unit {0})
  places_from = orders.from (λ (r : ℕ) (i : Item). rule13-30-14 total head f i) f

  pub places_end : (k : ℕ) → length f.items ≤ k → places_from 0 ≡ places_from k → Ok tt ≡ told_judged (places_from 0)
  places_end = told-end (λ (r : ℕ) (i : Item). rule13-30-14 total head f i) f (λ r i. place_blames total head f i)

  module _ (k : ℕ) (h : k < length f.items) (e : places_from 0 ≡ places_from k) where
    pub places_on : None ≡ fault_of (rule13-30-14 total head f (item_at f k)) → places_from 0 ≡ places_from (k + 1)
    places_on = told-on (λ (r : ℕ) (i : Item). rule13-30-14 total head f i) f (λ r i. place_blames total head f i) k k h e refl

    pub places_off : (n : ℕ) → Some n ≡ fault_of (rule13-30-14 total head f (item_at f k)) → (id : ℕ) → id ≡ (item_at f k).id →
        Err (record { number = n; place = id }) ≡ told_judged (places_from 0)
    places_off = told_off (λ (r : ℕ) (i : Item). rule13-30-14 total head f i) f (λ r i. place_blames total head f i) k k h e refl

-- Ready
module _ (t rows runs head : List ℕ) (total idat : ℕ) (f : File) where
  -- what is shown of a rule that is told
  pub by_rule : (rule asked : Rule) (r : ℕ) (n : Option ℕ) → rule ≡ asked →
      (Ready asked t rows runs head total idat f → n ≡ fault_of (rule_by asked total head f r (item_at f r))) →
      Ready rule t rows runs head total idat f → n ≡ fault_of (rule_by rule total head f r (item_at f r))
  by_rule rule asked r n e k w =
      subst (λ (q : Rule). n ≡ fault_of (rule_by q total head f r (item_at f r))) (sym e)
      (k (subst (λ (q : Rule). Ready q t rows runs head total idat f) e w))

  -- whatever the rule, the table is the file's
  pub ready-view : (rule : Rule) → Ready rule t rows runs head total idat f → TableOf t head (places_in total head) f
  ready-view Placed w = w.view
  ready-view Derived w = w.0.view
  ready-view Itself w = w.followed.view
  ready-view Deep w = w.followed.view
