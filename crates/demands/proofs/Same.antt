-- Q-6: the new table is the old one rearranged, and every question has the same answer. Assumes nothing.
use Prim.Native.Nat.{ℕ, ◌+◌, ◌*◌, ◌<◌}
use native.Mathlib.Omega.{arith}
use native.Mathlib.Decide.{dec_lt}
use mathlib.Core.Path.{◌≡◌, refl, sym, ap, ◌∙◌}
use mathlib.Core.List.{List}
use mathlib.Core.Bool.{Bool, true, false}
use lib.ListN.{length, get_or}
use lib.Dec.{leb}
use borrow.Author.Tests.{leb-true, leb-false}
use Rattle.boxes.specs.Answer.{refuse, check, ◌>>◌}
use Rattle.boxes.proofs.AnswerLaws.{then_ok, check-ok}
use Rattle.rules.specs.Opening.{accepted, opened, after, file_after}
use Rattle.bodied.specs.Body.{room_left}
use Rattle.arranged.specs.Rearranged.{Rearranged}
use Rattle.arranged.proofs.Rearranged.{rearranged_after}
use Rattle.demands.specs.Same.{record_word, Found, Moved, Same, Unmoved, AllSame, AllSameInC}
use Rattle.bodied.proofs.RoomLaws.{room-left, short-left}

-- an item is found under its ID in a table that was rearranged
module _ (n : ℕ) (old new : List ℕ) (r : Rearranged n old new) where
  first_word : (k : ℕ) → get_or new (16 + 16 * k) 0 ≡ record_word new k 0
  first_word k = let e : 16 + 16 * k ≡ 16 + 16 * k + 0 = omega arith in ap (λ (i : ℕ). get_or new i 0) e

  -- IDs rise, so no two are the same
  id-once : (j k : ℕ) → j < n → k < n → record_word new j 0 ≡ record_word new k 0 → j ≡ k
  id-once j k h l e = by (dec_lt j k) (dec_lt k j)
    where
      by : Dec (j < k) → Dec (k < j) → j ≡ k
      by (yes m) d = absurd (omega (arith, r.rising j k m l, first_word j, first_word k))
      by (no m) (yes d) = absurd (omega (arith, r.rising k j d h, first_word j, first_word k))
      by (no m) (no d) = omega arith

  row_is : (j k : ℕ) → j < n → k < n → record_word new k 0 ≡ record_word old j 0 → r.row j ≡ k
  row_is j k h l e = id-once (r.row j) k (r.inside j h) l (r.moved j 0 h (omega arith) ∙ sym e)

  pub found : Found n old new
  found =
      record {
        there = λ j h. (r.row j, (r.inside j h, r.moved j 0 h (omega arith)));
        here = λ k h. let j = r.onto k h in
            (j.0, (j.1, ap (λ (i : ℕ). record_word new i 0) (sym j.2) ∙ r.moved j.0 0 j.1 (omega arith)));
        words = λ j k h l e c m. ap (λ (i : ℕ). record_word new i c) (sym (row_is j k h l e)) ∙ r.moved j c h m;
        place = λ j k h l e. ap (λ (i : ℕ). record_word new i 15) (sym (row_is j k h l e)) ∙ r.placed j h;
      }

module _ (head : List ℕ) (total : ℕ) (table : List ℕ) where
  -- 1 to 20, 29 or 30: there is nothing to rearrange
  left-same : (n p : ℕ) → opened (length table) total head ≡ refuse n p → after total head table ≡ file_after total head table
  unfolding opened check ◌>>◌
  left-same n p e = by (leb 11280 (length table)) refl e
    where
      by : (t : Bool) → leb 11280 (length table) ≡ t → (check 1 0 t >> accepted total head) ≡ refuse n p →
          after total head table ≡ file_after total head table
      by false q e = (rearranged_after total head table).short (leb-false _ _ q)
      by true q e = (rearranged_after total head table).refuses n p e

  moved-is : (old new : List ℕ) → old ≡ file_after total head table → new ≡ after total head table → Moved head total table old new
  unfolding opened
  moved-is old new o n =
      record {
        accepted = λ f e.
            let x = then_ok _ _ f e in
            let r = (rearranged_after total head table).accepts f (leb-true 11280 (length table) (check-ok 1 0 _ x.0 x.1)) x.2 in
            rw (o, n) (r, found _ _ _ r);
        refused = λ i p e. n ∙ left-same i p e ∙ sym o;
      }

  -- a promise is an equation of what is answered and one of what is left
  same_by : {A : Type 0} (answer : A) (Given : (ℕ → List ℕ → List ℕ → List ℕ) → A → List ℕ → Type 0) →
      ((by : ℕ → List ℕ → List ℕ → List ℕ) (a : A) (left : List ℕ) → Given by a left → (a ≡ answer) × (left ≡ by total head table)) →
      ((by : ℕ → List ℕ → List ℕ → List ℕ) (a : A) (left : List ℕ) → a ≡ answer → left ≡ by total head table → Given by a left) →
      Same head total table Given
  same_by answer Given says gives =
      record {
        kept = λ a old g. (after total head table, gives after a _ (says file_after a old g).0 refl);
        no_other = λ a new g. (file_after total head table, gives file_after a _ (says after a new g).0 refl);
        same = λ a b old new g h. let x = says file_after a old g in let y = says after b new h in
            (x.0 ∙ sym y.0, moved-is old new x.1 y.1);
      }

  alone : {A : Type 0} (answer : A) → Same head total table (λ by (a : A) left. (a ≡ answer) × (left ≡ by total head table))
  alone answer = same_by answer _ (λ by a left g. g) (λ by a left e h. (e, h))

  -- with something lent beside the table
  pair_is : {A B : Type 0} (a : A × B) (answer : A) (beside : B) → a.0 ≡ answer → a.1 ≡ beside → a ≡ (answer, beside)
  pair_is a answer beside e h = ap (λ z. (z, a.1)) e ∙ ap (λ z. (answer, z)) h

  -- left-of: the table that a call leaves, which is what every other leaves
  module _ {A B : Type 0} (answer : A) (beside : B) (left-of : (ℕ → List ℕ → List ℕ → List ℕ) → List ℕ) where
    lent_by : ((by : ℕ → List ℕ → List ℕ → List ℕ) → left-of by ≡ by total head table) →
        Same head total table (λ by (a : A × B) left. (a.0 ≡ answer) × ((a.1 ≡ beside) × (left ≡ left-of by)))
    lent_by k =
        same_by (answer, beside) _ (λ by a left g. (pair_is a answer beside g.0 g.1.0, g.1.1 ∙ k by))
        (λ by a left e h. (ap (λ (z : _ × _). z.0) e, (ap (λ (z : _ × _). z.1) e, h ∙ sym (k by))))

    lent_by_in_c : ((by : ℕ → List ℕ → List ℕ → List ℕ) → left-of by ≡ by total head table) →
        Same head total table (λ by (a : A × B) left. (a.0 ≡ answer) × (a.1 ≡ beside) × (left ≡ left-of by))
    lent_by_in_c k =
        same_by (answer, beside) _ (λ by a left g. (pair_is a answer beside g.0 g.1, g.2 ∙ k by))
        (λ by a left e h. (ap (λ (z : _ × _). z.0) e, ap (λ (z : _ × _). z.1) e, h ∙ sym (k by)))

    -- or the same, however a file's words are laid out
    unmoved : left-of after ≡ left-of file_after →
        Unmoved head total table (λ by (a : A × B) left. (a.0 ≡ answer) × ((a.1 ≡ beside) × (left ≡ left-of by)))
    unmoved k a b old new g h =
        (pair_is a answer beside g.0 g.1.0 ∙ sym (pair_is b answer beside h.0 h.1.0), h.1.1 ∙ k ∙ sym g.1.1)

    unmoved_in_c : left-of after ≡ left-of file_after →
        Unmoved head total table (λ by (a : A × B) left. (a.0 ≡ answer) × (a.1 ≡ beside) × (left ≡ left-of by))
    unmoved_in_c k a b old new g h =
        (pair_is a answer beside g.0 g.1 ∙ sym (pair_is b answer beside h.0 h.1), h.2 ∙ k ∙ sym g.2)

  lent : {A B : Type 0} (answer : A) (beside : B) →
      Same head total table (λ by (a : A × B) left. (a.0 ≡ answer) × ((a.1 ≡ beside) × (left ≡ by total head table)))
  lent answer beside = lent_by answer beside (λ by. by total head table) (λ by. refl)

  -- the same, as C's promises are put together
  lent_in_c : {A B : Type 0} (answer : A) (beside : B) →
      Same head total table (λ by (a : A × B) left. (a.0 ≡ answer) × (a.1 ≡ beside) × (left ≡ by total head table))
  lent_in_c answer beside = lent_by_in_c answer beside (λ by. by total head table) (λ by. refl)

  pub all_same : AllSame head total table
  all_same =
      record {
        verdict = alone _;
        size = λ id. alone _;
        trace = λ id p. alone _;
        points = λ id records. lent _ _;
        point_numbers = λ id records. lent _ _;
        sources = λ id list. lent _ _;
        body = λ id buffer h. lent_by _ _ (λ by. room_left by (length buffer) total head table) (λ by. room-left head total table _ id by h);
        short-body = λ id buffer h.
            unmoved _ _ (λ by. room_left by (length buffer) total head table) (short-left head total table _ id after file_after h);
        asked = λ id k. alone _;
        property = λ id k. lent _ _;
        orientation = λ id. alone _;
      }

  pub all-same_in_c : AllSameInC head total table
  all-same_in_c =
      record {
        verdict = alone _;
        size = λ id. alone _;
        trace = λ id x y. alone _;
        points = λ id records. lent_in_c _ _;
        sources = λ id list. lent_in_c _ _;
        body = λ id buffer h. lent_by_in_c _ _ (λ by. room_left by (length buffer) total head table) (λ by. room-left head total table _ id by h);
        short-body = λ id buffer h.
            unmoved_in_c _ _ (λ by. room_left by (length buffer) total head table) (short-left head total table _ id after file_after h);
        property = λ id k. alone _;
        orientation = λ id. alone _;
      }
