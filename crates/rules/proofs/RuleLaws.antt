-- What a file that is judged well keeps, rule by rule. Assumes nothing.
use Prim.Native.Nat.{ℕ, zero, suc, ◌+◌, ◌<◌}
use native.Mathlib.Nat.{add-zero, zero-add}
use native.Mathlib.Omega.{arith}
use mathlib.Core.Path.{◌≡◌, refl, ◌∙◌, subst}
use mathlib.Core.List.{List, [], ◌∷◌}
use lib.ListN.{length, get_or}
use Rattle.fields.specs.Lists.{All}
use Rattle.boxes.specs.Answer.{Answer, ok}
use Rattle.boxes.proofs.AnswerLaws.{bind_ok, ok_bind, then_ok, ok-then, ok_inj}
use Rattle.contents.specs.Iinf.{Item}
use Rattle.contents.specs.File.{File, read_file}
use Rattle.pictures.specs.Scene.{Scene}
use Rattle.rules.specs.Joined.{no_item, item_at}
use Rattle.rules.specs.Derivations.{scene_of}
use Rattle.rules.specs.Rules.{in_order, rule12, rule13-30-14, rule15-29-16, rule17, rule18, rule19, rule20, by_depth, judged}
use Rattle.rules.specs.Opening.{accepted}

-- in_order: a rule that refuses nothing holds of each item, with its row
pub in_order_each : (rule : ℕ → Item → Answer (Unit {0})) (r : ℕ) (items : List Item) → in_order rule r items ≡ ok tt →
    (k : ℕ) → k < length items → rule (r + k) (get_or items k no_item) ≡ ok tt
unfolding in_order
in_order_each rule r [] e k h = absurd (omega arith)
in_order_each rule r (i ∷ is) e zero h = rw add-zero (then_ok _ _ tt e).1
in_order_each rule r (i ∷ is) e (suc k) h =
    let z : suc r + k ≡ r + suc k = omega arith in
    rw z at (in_order_each rule (suc r) is (then_ok (rule r i) _ tt e).2 k (omega arith))

-- and what follows from that for an item, for all
pub in_order_all : (rule : ℕ → Item → Answer (Unit {0})) (P : Item → Type 0) →
    ((r : ℕ) (i : Item) → rule r i ≡ ok tt → P i) → (r : ℕ) (items : List Item) → in_order rule r items ≡ ok tt → All P items
unfolding in_order
in_order_all rule P h r [] e = tt
in_order_all rule P h r (i ∷ is) e = let x = then_ok _ _ tt e in (h r i x.1, in_order_all rule P h (suc r) is x.2)

-- two rules that answer alike of each item
pub in_order_same : (p q : ℕ → Item → Answer (Unit {0})) (r : ℕ) (items : List Item) →
    All (λ (i : Item). (r : ℕ) → p r i ≡ q r i) items → in_order p r items ≡ in_order q r items
unfolding in_order
in_order_same p q r [] a = refl
in_order_same p q r (i ∷ is) a = rw (a.0 r, in_order_same p q (suc r) is a.1)

-- by_depth
pub by-depth-each : (s : Scene) (is : List Item) (n d : ℕ) → by_depth s is n d ≡ ok tt → (k : ℕ) → k < n → in_order (rule20 s (d + k)) 0 is ≡ ok tt
unfolding by_depth
by-depth-each s is zero d e k h = absurd (omega arith)
by-depth-each s is (suc n) d e zero h = rw add-zero (then_ok _ _ tt e).1
by-depth-each s is (suc n) d e (suc k) h =
    let z : suc d + k ≡ d + suc k = omega arith in
    rw z at (by-depth-each s is n (suc d) (then_ok (in_order (rule20 s d) 0 is) _ tt e).2 k (omega arith))

-- judged: each rule refuses no item
pub record Judged (total : ℕ) (head : List ℕ) (f : File) : Type 0 where
  pub by-12 : rule12 f ≡ ok tt
  pub by-13-30-14 : (i : ℕ) → i < length f.items → rule13-30-14 total head f (item_at f i) ≡ ok tt
  pub by-15-29-16 : (i : ℕ) → i < length f.items → rule15-29-16 f (item_at f i) ≡ ok tt
  pub by-17 : (i : ℕ) → i < length f.items → rule17 total head f (item_at f i) ≡ ok tt
  pub by-18 : (i : ℕ) → i < length f.items → rule18 (scene_of total head f) i (item_at f i) ≡ ok tt
  pub by-19 : (i : ℕ) → i < length f.items → rule19 (scene_of total head f) i (item_at f i) ≡ ok tt
  pub by-20 : (d : ℕ) → d < 17 → (i : ℕ) → i < length f.items → rule20 (scene_of total head f) d i (item_at f i) ≡ ok tt

pub judged-each : (total : ℕ) (head : List ℕ) (f : File) → judged total head f ≡ ok tt → Judged total head f
unfolding judged
judged-each total head f e =
    let x20 = then_ok _ _ tt e in
    let x19 = then_ok _ _ tt x20.1 in
    let x18 = then_ok _ _ tt x19.1 in
    let x17 = then_ok _ _ tt x18.1 in
    let x15 = then_ok _ _ tt x17.1 in
    let x13 = then_ok _ _ tt x15.1 in
    record {
      by-12 = x13.1;
      by-13-30-14 = each (λ r i. rule13-30-14 total head f i) x13.2;
      by-15-29-16 = each (λ r i. rule15-29-16 f i) x15.2;
      by-17 = each (λ r i. rule17 total head f i) x17.2;
      by-18 = each (rule18 (scene_of total head f)) x18.2;
      by-19 = each (rule19 (scene_of total head f)) x19.2;
      by-20 = λ d h. each (rule20 (scene_of total head f) d) (rw zero-add at (by-depth-each (scene_of total head f) f.items 17 0 x20.2 d h));
    }
  where
    each : (rule : ℕ → Item → Answer (Unit {0})) → in_order rule 0 f.items ≡ ok tt → (i : ℕ) → i < length f.items → rule i (item_at f i) ≡ ok tt
    each rule h i l = rw zero-add at (in_order_each rule 0 f.items h i l)

-- accepted: read, and judged well
pub accepted-both : (total : ℕ) (head : List ℕ) (f : File) → accepted total head ≡ ok f →
    (read_file total head ≡ ok f) × (judged total head f ≡ ok tt)
unfolding accepted
accepted-both total head f e =
    let x = bind_ok _ _ f e in
    let y = then_ok _ _ f x.2 in
    subst (λ (g : File). (read_file total head ≡ ok g) × (judged total head g ≡ ok tt)) (ok_inj _ f y.2) (x.1, y.1)

pub both-accepted : (total : ℕ) (head : List ℕ) (f : File) → read_file total head ≡ ok f → judged total head f ≡ ok tt →
    accepted total head ≡ ok f
unfolding accepted
both-accepted total head f r j = ok_bind _ _ f r ∙ ok-then _ _ tt j
