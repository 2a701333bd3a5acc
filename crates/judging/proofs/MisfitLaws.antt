-- 20 by rising depth is the misfit of the least depth, the first row among those. Assumes nothing.
--   misfit s f r        the item in row r is a picture of the scene s, and its sizes are wrong
-- Least s f k d b     among the first k rows: no misfit is less than d deep, and row b is the first of those that are d
-- deep; d is 17 where none is less deep than that
use Prim.Native.Nat.{ℕ, zero, suc, ◌+◌, ◌<◌, ◌≤◌}
use native.Mathlib.Nat.{eq-or-lt_of_le}
use native.Mathlib.Omega.{arith}
use mathlib.Core.Path.{◌≡◌, refl, sym, ap, ◌∙◌, subst}
use mathlib.Core.Bool.{Bool, true, false, ◌&&◌, not}
use mathlib.Core.Logic.{⊎_elim}
use lib.ListN.{length}
use lib.Dec.{eqb}
use borrow.Author.Tests.{eq-eqb, eqb-true, not-true}
use Rattle.fields.proofs.FieldLaws.{pick_yes, both}
use Rattle.fields.proofs.TestLaws.{and_both, both-and}
use Rattle.std.specs.Prelude.{Ok, Err}
use Rattle.boxes.specs.Answer.{Answer, ok, refuse, check, ◌>>◌}
use Rattle.boxes.specs.Told.{told}
use Rattle.boxes.specs.Types.{image}
use Rattle.contents.specs.File.{File}
use Rattle.pictures.specs.Scene.{Scene, picture_at, good_sizes}
use Rattle.pictures.specs.Depth.{depth}
use Rattle.rules.specs.Joined.{item_at}
use Rattle.rules.specs.Rules.{in_order, rule20, by_depth}
use Rattle.judging.specs.inner.Order.{told_judged}
use Rattle.judging.proofs.JudgedLaws.{kept-all, refused-at}

module _ (s : Scene) (f : File) where
  abbrev pub misfit : ℕ → Bool
  misfit r = image (item_at f r).type && not (good_sizes s (picture_at s r))

  -- by the two tests of the code
  module _ (r : ℕ) where
    pub misfit_opaque : false ≡ image (item_at f r).type → false ≡ misfit r
    misfit_opaque e = ap (λ (i : Bool). i && not (good_sizes s (picture_at s r))) e

    pub misfit_sized : true ≡ image (item_at f r).type → (b : Bool) → b ≡ good_sizes s (picture_at s r) → not b ≡ misfit r
    misfit_sized e b q = ap not q ∙ ap (λ (i : Bool). i && not (good_sizes s (picture_at s r))) e

  -- rule20: a row of another depth, or that is no misfit, and a misfit of the depth
  size-kept : (d r : ℕ) → (misfit r ≡ true → depth s r ≡ d → ⊥) → rule20 s d r (item_at f r) ≡ ok tt
  unfolding rule20 check
  size-kept d r h =
      both (λ (a : Answer (Unit {0})). a ≡ ok tt) (image (item_at f r).type && eqb (depth s r) d) _ _
      (λ e. let w = and_both (image (item_at f r).type) (eqb (depth s r) d) e in by (good_sizes s (picture_at s r)) refl w.0 (eqb-true (depth s r) d w.1))
      (λ e. refl)
    where
      by : (b : Bool) → good_sizes s (picture_at s r) ≡ b → image (item_at f r).type ≡ true → depth s r ≡ d →
          check 20 (item_at f r).id (good_sizes s (picture_at s r)) ≡ ok tt
      by true e i q = ap (check 20 (item_at f r).id) e
      by false e i q = absurd (h (both-and _ _ i (ap not e)) q)

  size-refused : (d r : ℕ) → misfit r ≡ true → depth s r ≡ d → rule20 s d r (item_at f r) ≡ refuse 20 (item_at f r).id
  unfolding rule20 check
  size-refused d r m e =
      let w = and_both (image (item_at f r).type) (not (good_sizes s (picture_at s r))) m in
      pick_yes (check 20 (item_at f r).id (good_sizes s (picture_at s r))) (ok tt)
      (both-and _ _ w.0 (eq-eqb (depth s r) d e)) ∙
      ap (check 20 (item_at f r).id) (not-true (good_sizes s (picture_at s r)) w.1)

  -- by_depth: n depths from d on, no misfit so little deep
  none_within : (n d : ℕ) → ((r : ℕ) → r < length f.items → misfit r ≡ true → d + n ≤ depth s r) → by_depth s f.items n d ≡ ok tt
  unfolding by_depth ◌>>◌
  none_within zero d h = refl
  none_within (suc n) d h =
      rw (kept-all (rule20 s d) f (λ r l. size-kept d r (λ m e. absurd (omega (arith, h r l m, e))))) (none_within n (suc d) (λ r l m. omega (arith, h r l m)))

  -- of the misfits, row b is the first of the least depth
  module _ (least b : ℕ) (l : b < length f.items) (wrong : misfit b ≡ true) (deep : depth s b ≡ least)
      (none : (r : ℕ) → r < length f.items → misfit r ≡ true → least ≤ depth s r) (first : (r : ℕ) → r < b → misfit r ≡ true → least < depth s r) where
    at_least : in_order (rule20 s least) 0 f.items ≡ refuse 20 (item_at f b).id
    at_least = refused-at (rule20 s least) f b 20 (item_at f b).id l
        (λ r h. size-kept least r (λ m e. absurd (omega (arith, first r h m, e)))) (size-refused least b wrong deep)

    one-within : (n d : ℕ) → d ≤ least → least < d + n → by_depth s f.items n d ≡ refuse 20 (item_at f b).id
    unfolding by_depth ◌>>◌
    one-within zero d h k = absurd (omega arith)
    one-within (suc n) d h k =
        ⊎_elim
        (λ e. ap (λ (a : Answer (Unit {0})). a >> by_depth s f.items n (suc d)) (ap (λ (x : ℕ). in_order (rule20 s x) 0 f.items) e ∙ at_least))
        (λ e. rw (kept-all (rule20 s d) f (λ r i. size-kept d r (λ m q. absurd (omega (arith, none r i m, q)))))
        (one-within n (suc d) (omega arith) (omega arith)))
        (eq-or-lt_of_le {n = d} {m = least} h)

pub record Least (s : Scene) (f : File) (k d b : ℕ) : Type 0 where
  pub shallow : d ≤ 17
  pub none : (r : ℕ) → r < k → misfit s f r ≡ true → d ≤ depth s r
  pub first : (r : ℕ) → r < b → misfit s f r ≡ true → d < depth s r
  pub found : d < 17 → (b < k) × (misfit s f b ≡ true) × (depth s b ≡ d)

module _ (s : Scene) (f : File) where
  pub least_begun : Least s f 0 17 0
  least_begun = record { shallow = omega arith; none = λ r h. absurd (omega arith); first = λ r h. absurd (omega arith); found = λ h. absurd (omega arith) }

  -- the same by other names
  pub least-same : (k d b e c : ℕ) → e ≡ d → c ≡ b → Least s f k d b → Least s f k e c
  least-same k d b e c p q w = rw (p, q) w

  -- row k
  module _ (k d b : ℕ) (w : Least s f k d b) where
    pub least_other : (misfit s f k ≡ true → d ≤ depth s k) → Least s f (k + 1) d b
    least_other h =
        record {
          shallow = w.shallow;
          none = λ r l m. ⊎_elim (λ z. subst (λ (i : ℕ). misfit s f i ≡ true → d ≤ depth s i) (sym z) h m)
              (λ z. w.none r z m) (eq-or-lt_of_le {n = r} {m = k} (omega arith));
          first = w.first;
          found = λ h. let v = w.found h in (omega (arith, v.0), v.1, v.2);
        }

    pub least_more : (e : ℕ) → e ≡ depth s k → e < d → misfit s f k ≡ true → Least s f (k + 1) e k
    least_more e q l m =
        record {
          shallow = omega (arith, w.shallow);
          none = λ r h n. ⊎_elim (λ z. subst (λ (i : ℕ). e ≤ depth s i) (sym z) (omega (arith, q)))
              (λ z. omega (arith, w.none r z n)) (eq-or-lt_of_le {n = r} {m = k} (omega arith));
          first = λ r h n. omega (arith, w.none r h n);
          found = λ h. (omega arith, m, sym q);
        }

    -- all rows passed
    module _ (all : k ≡ length f.items) where
      pub least-none : 17 ≤ d → Ok tt ≡ told_judged (by_depth s f.items 17 0)
      unfolding told
      least-none e = ap told_judged (sym (none_within s f 17 0 (λ r l m. omega (arith, w.none r (omega arith) m))))

      -- there is one
      module _ (h : d < 17) where
        pub least-row : b < length f.items
        least-row = omega (arith, (w.found h).0)

        pub least-named : (id : ℕ) → id ≡ (item_at f b).id → Err (record { number = 20; place = id }) ≡ told_judged (by_depth s f.items 17 0)
        unfolding told
        least-named id i =
            let v = w.found h in
            rw i (sym (ap told_judged (one-within s f d b least-row v.1 v.2 (λ r l m. w.none r (omega arith) m)
            w.first 17 0 (omega arith) (omega arith))))
