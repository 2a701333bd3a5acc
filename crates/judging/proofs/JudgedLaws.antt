-- What judging comes to, rule after rule. Assumes nothing.
use Prim.Native.Nat.{ℕ, zero, suc, ◌+◌, ◌<◌, ◌≤◌}
use native.Mathlib.Nat.{add-zero, zero-add, eq-or-lt_of_le}
use native.Mathlib.Omega.{arith}
use mathlib.Core.Path.{◌≡◌, refl, sym, ap, ◌∙◌, subst}
use mathlib.Core.List.{List, [], ◌∷◌}
use mathlib.Core.Bool.{false}
use mathlib.Core.Logic.{⊎_elim}
use lib.ListN.{length, get_or}
use Rattle.std.specs.Prelude.{Result, Ok, Err, IsErrAnd}
use Rattle.std.proofs.lemmas.Result.{err_from_is_err_and}
use Rattle.boxes.specs.Answer.{Answer, ok, refuse, ◌>>◌}
use Rattle.boxes.specs.Told.{told}
use Rattle.boxes.proofs.ToldLaws.{told-ok}
use Rattle.boxes.proofs.AnswerLaws.{ok-then}
use Rattle.boxes.specs.declared.Refusal.{Refusal}
use Rattle.contents.specs.Iinf.{Item}
use Rattle.contents.specs.File.{File}
use Rattle.pictures.specs.Scene.{Scene}
use Rattle.pictures.specs.Depth.{derives_itself, depth}
use Rattle.rules.specs.Joined.{no_item, item_at}
use Rattle.rules.specs.Places.{places_in}
use Rattle.rules.specs.Derivations.{scene_of}
use Rattle.rules.specs.Rules.{in_order, by_depth, rule13-30-14}
use Rattle.rules.proofs.RuleLaws.{in_order_each}
use Rattle.views.specs.inner.View.{AllPlaced, AllFed, record_word}
use Rattle.depths.specs.inner.Inputs.{InputsAre}
use Rattle.sizing.specs.inner.Drawn.{Drawn}
use Rattle.judging.specs.inner.Order.{rule_by, places_judged, pictures_judged, NoneDeeper, told_judged}
use Rattle.judging.specs.declared.Rule.TheVariants.{Derived, Itself, Deep}
use Rattle.judging.proofs.SceneLaws.{scene_long, inputs_are, shallow_itself, itself_kept, deep_kept, deep_word}

-- told_judged: the first of two rules refuses, or the second decides
pub told-good : (m : Answer (Unit {0})) → told_judged m ≡ Ok tt → m ≡ ok tt
told-good m e = (told-ok _ m tt e).1

module _ (m k : Answer (Unit {0})) where
  pub told_off : (x : Refusal) → told_judged m ≡ Err x → Err x ≡ told_judged (m >> k)
  unfolding told ◌>>◌
  told_off x = by m
    where
      by : (m : Answer (Unit {0})) → told_judged m ≡ Err x → Err x ≡ told_judged (m >> k)
      by (ok u) e = cc
      by (refuse n p) e = sym e

  pub told-on : told_judged m ≡ Ok tt → (m >> k) ≡ k
  told-on e = ok-then m k tt (told-good m e)

-- what `?` hands on: y is the refusal r
pub handed : (y : Result (Unit {0}) Refusal) (r : Refusal) → IsErrAnd y (λ f. f ≡ r) → y ≡ Err r
handed y r h = let p = err_from_is_err_and y h in p.1 ∙ ap Err p.2

-- in_order: a rule that every item keeps refuses nothing
kept_order : (rule : ℕ → Item → Answer (Unit {0})) (r : ℕ) (items : List Item) →
    ((k : ℕ) → k < length items → rule (r + k) (get_or items k no_item) ≡ ok tt) → in_order rule r items ≡ ok tt
unfolding in_order ◌>>◌
kept_order rule r [] h = refl
kept_order rule r (i ∷ is) h =
    let e = kept_order rule (suc r) is (λ k l. let z : suc r + k ≡ r + suc k = omega arith in rw z (h (suc k) (omega arith))) in
    rw (rw add-zero at (h 0 (omega arith))) e

pub kept-all : (rule : ℕ → Item → Answer (Unit {0})) (f : File) →
    ((r : ℕ) → r < length f.items → rule r (item_at f r) ≡ ok tt) → in_order rule 0 f.items ≡ ok tt
kept-all rule f h = kept_order rule 0 f.items (λ k l. rw zero-add (h k l))

-- in_order: what refuses the item in row k, where every item before it keeps the rule
refused_order : (rule : ℕ → Item → Answer (Unit {0})) (r : ℕ) (items : List Item) (k n p : ℕ) → k < length items →
    ((j : ℕ) → j < k → rule (r + j) (get_or items j no_item) ≡ ok tt) → rule (r + k) (get_or items k no_item) ≡ refuse n p
    → in_order rule r items ≡ refuse n p
unfolding in_order ◌>>◌
refused_order rule r [] k n p l h e = absurd (omega arith)
refused_order rule r (i ∷ is) zero n p l h e = rw (rw add-zero at e)
refused_order rule r (i ∷ is) (suc k) n p l h e =
    let q = refused_order rule (suc r) is k n p (omega arith) (λ j m. let z : suc r + j ≡ r + suc j = omega arith in
    rw z (h (suc j) (omega arith))) (let z : suc r + k ≡ r + suc k = omega arith in rw z e) in
    rw (rw add-zero at (h 0 (omega arith))) q

pub refused-at : (rule : ℕ → Item → Answer (Unit {0})) (f : File) (k n p : ℕ) → k < length f.items →
    ((r : ℕ) → r < k → rule r (item_at f r) ≡ ok tt) → rule k (item_at f k) ≡ refuse n p →
    in_order rule 0 f.items ≡ refuse n p
refused-at rule f k n p l h e = refused_order rule 0 f.items k n p l (λ r m. rw zero-add (h r m)) (rw zero-add e)

-- the largest of g 0, g 1 .. so far, and one more
pub none_larger : (g : ℕ → ℕ) (r a d b : ℕ) → ((j : ℕ) → j < r → j < 256 → g j ≤ a) → (r < 256 → d ≡ g r) → (a ≤ b) ×
    (d ≤ b) → (j : ℕ) → j < r + 1 → j < 256 → g j ≤ b
none_larger g r a d b h e q j k l =
    ⊎_elim (λ z. subst (λ (i : ℕ). g i ≤ b) (sym z) (omega (arith, e (omega arith), q.1)))
    (λ z. omega (arith, h j z l, q.0)) (eq-or-lt_of_le {n = j} {m = r} (omega arith))

-- 18 and 19
module _ (total : ℕ) (head : List ℕ) (f : File) where
  itself_all : ((r : ℕ) → r < length f.items → derives_itself (scene_of total head f) r ≡ false) → in_order (rule_by Itself total head f) 0 f.items ≡ ok tt
  unfolding rule_by
  itself_all h = kept-all (rule_by Itself total head f) f (λ r m. itself_kept total head f r (item_at f r) (h r m))

  deep_all : ((r : ℕ) → r < length f.items → depth (scene_of total head f) r ≤ 16) → in_order (rule_by Deep total head f) 0 f.items ≡ ok tt
  unfolding rule_by
  deep_all h = kept-all (rule_by Deep total head f) f (λ r m. deep_kept total head f r (item_at f r) (h r m))

  pub itself_grounded : {t rows : List ℕ} → Drawn t rows head total f → (n : ℕ) → n ≡ get_or t 0 0
      → ((s : Scene) → length s ≡ n → InputsAre t rows s → (r : ℕ) → r < n → derives_itself s r ≡ false) →
      Ok tt ≡ told_judged (in_order (rule_by Itself total head f) 0 f.items)
  unfolding told
  itself_grounded {t} {rows} v n e h =
      let i = inputs_are total head f t rows (places_in total head) v.followed.view v.resolved v.fed in
      ap told_judged (sym (itself_all (λ r m. h (scene_of total head f)
      (scene_long total head f ∙ sym (e ∙ v.followed.view.items)) i r (omega (arith, e, v.followed.view.items)))))

  -- the depths of the scene by the table's words
  module _ {t rows : List ℕ} (v : Drawn t rows head total f) (w : ℕ) (h : NoneDeeper t w) where
    none_over : (r : ℕ) → r < length f.items → depth (scene_of total head f) r ≤ w
    none_over r m = omega (
      arith,
      deep_word total head f v r m (record_word t r 14) refl,
      h r (omega (arith, v.followed.view.items)) (omega (arith, v.followed.view.bounded.few-items)),
    )

    -- where nothing lies over 16 deep, 18 and 19 refuse nothing
    pub pictures_shallow : w ≤ 16 → pictures_judged total head f ≡ by_depth (scene_of total head f) f.items 17 0
    unfolding pictures_judged ◌>>◌
    pictures_shallow l = rw (itself_all (λ r m. shallow_itself total head f r (omega (arith, none_over r m))), deep_all (λ r m. omega (arith, none_over r m)))

-- in_order: a rule that refuses nothing holds of each item
pub each-kept : (rule : ℕ → Item → Answer (Unit {0})) (f : File) → in_order rule 0 f.items ≡ ok tt → (r : ℕ) → r < length f.items →
    rule r (item_at f r) ≡ ok tt
each-kept rule f e r h = rw zero-add at (in_order_each rule 0 f.items e r h)

module _ (total : ℕ) (head : List ℕ) (f : File) where
  pub placed-all : places_judged total head f ≡ ok tt → AllPlaced total head f
  placed-all e r h = each-kept (λ (r : ℕ) (i : Item). rule13-30-14 total head f i) f e r h

  pub fed-all : in_order (rule_by Derived total head f) 0 f.items ≡ ok tt → AllFed total head f
  unfolding rule_by
  fed-all e r h = each-kept (rule_by Derived total head f) f e r h
