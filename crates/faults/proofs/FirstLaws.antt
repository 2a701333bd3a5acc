-- First faults: what it is for an answer to examine faults in their order, and how such answers are put together. Assumes nothing.
--   Finds In k p        a fault among In that is refused by k at p, and none of In before it
--   Examines m In       the answer m examines the faults In: a value where none of them is there, else the refusal by the first
use Prim.Native.Nat.{ℕ, zero, suc, ◌+◌, ◌≤◌, ◌<◌}
use native.Mathlib.Nat.{add-zero}
use native.Mathlib.Omega.{arith}
use mathlib.Core.Path.{◌≡◌, refl, sym, ap, subst, ◌∙◌}
use mathlib.Core.List.{List, [], ◌∷◌}
use mathlib.Core.Bool.{Bool, true, false}
use mathlib.Core.Logic.{◌⊎◌, inl, inr}
use lib.ListN.{length, get_or}
use Rattle.boxes.specs.Answer.{Answer, ok, refuse, check, ◌>>◌}
use Rattle.boxes.proofs.AnswerLaws.{check-ok}
use Rattle.contents.specs.Iinf.{Item}
use Rattle.contents.specs.File.{File}
use Rattle.rules.specs.Joined.{no_item}
use Rattle.rules.specs.Rules.{in_order}
use Rattle.faults.specs.Fault.{Rule, Number, rule_of, Fault}
use Rattle.faults.specs.Order.{Earlier, order_of}
use Rattle.faults.proofs.TellsLaws.{Tells}

-- check
refused : (n p : ℕ) (t : Bool) (i j : ℕ) → check n p t ≡ refuse i j → (i ≡ n) × (j ≡ p) × (t ≡ false)
unfolding check
refused n p true i j e = let z : ◌≡◌ {A = ℕ} 0 1 = cc in absurd (omega arith)
refused n p false i j e = (cc, cc, refl)

module _ (total : ℕ) (head : List ℕ) (f : File) where
  abbrev F : Number → ℕ → Type 0
  F n r = Fault total head f n r

  abbrev T : Number → ℕ → List ℕ
  T n r = order_of total head f n r

  abbrev rule : Number → Rule
  rule n = rule_of total head f n

  -- Earlier: what it says of two turns, number by number
  module _ (n : Number) (r : ℕ) (m : Number) (q : ℕ) where
    pub order_stage : Earlier (T n r) (T m q) → (rule n).stage ≤ (rule m).stage
    order_stage (inl l) = omega arith
    order_stage (inr e) = omega (arith, e.0)

    pub order_lap : (rule m).stage ≤ (rule n).stage → Earlier (T n r) (T m q) → (rule n).lap r ≤ (rule m).lap q
    order_lap h (inl l) = absurd (omega arith)
    order_lap h (inr (e, inl l)) = omega arith
    order_lap h (inr (e, inr x)) = omega (arith, x.0)

    pub order_row : (rule m).stage ≤ (rule n).stage → (rule m).lap q ≤ (rule n).lap r → Earlier (T n r) (T m q) → r ≤ q
    order_row h k (inl l) = absurd (omega arith)
    order_row h k (inr (e, inl l)) = absurd (omega arith)
    order_row h k (inr (e, inr (d, inl l))) = omega arith
    order_row h k (inr (e, inr (d, inr x))) = omega (arith, x.0)

    pub order_rank : q ≤ r → Earlier (T n r) (T m q) → (rule m).stage ≤ (rule n).stage → (rule m).lap q ≤ (rule n).lap r → (rule n).rank < (rule m).rank
    order_rank g (inl l) h k = absurd (omega arith)
    order_rank g (inr (e, inl l)) h k = absurd (omega arith)
    order_rank g (inr (e, inr (d, inl l))) h k = absurd (omega arith)
    order_rank g (inr (e, inr (d, inr (c, inl l)))) h k = l
    order_rank g (inr (e, inr (d, inr (c, inr x)))) h k = absurd x.1

  pub record Finds (In : Number → ℕ → Type 0) (k p : ℕ) : Type 0 where
    pub number : Number
    pub row : ℕ
    pub among : In number row
    pub number_is : k ≡ (rule number).number
    pub place_is : p ≡ (rule number).place row
    pub there : F number row
    pub none_before : (m : Number) (q : ℕ) → In m q → Earlier (T m q) (T number row) → F m q → ⊥

  pub record Examines (m : Answer (Unit {0})) (In : Number → ℕ → Type 0) : Type 0 where
    pub good : m ≡ ok tt → (n : Number) (r : ℕ) → In n r → F n r → ⊥
    pub first : (k p : ℕ) → m ≡ refuse k p → Finds In k p

  -- one fault
  abbrev pub Just : Number → ℕ → Number → ℕ → Type 0
  Just n r m q = (m ≡ n) × (q ≡ r)

  just_fault : (n : Number) (r : ℕ) (m : Number) (q : ℕ) → Just n r m q → F m q → F n r
  just_fault n r m q i w = subst (λ (q : ℕ). F n q) i.1 (subst (λ (m : Number). F m q) i.0 w)

  just_turn : (n : Number) (r : ℕ) (m : Number) (q : ℕ) → Just n r m q → T m q ≡ T n r
  just_turn n r m q i = ap (λ (q : ℕ). T m q) i.1 ∙ ap (λ (m : Number). T m r) i.0

  earlier_itself : (l : List ℕ) → Earlier l l → ⊥
  earlier_itself [] e = e
  earlier_itself (x ∷ xs) (inl l) = omega arith
  earlier_itself (x ∷ xs) (inr e) = earlier_itself xs e.1

  pub examines_one : (n : Number) (r : ℕ) (m : Answer (Unit {0})) → (m ≡ ok tt → F n r → ⊥) →
      ((k p : ℕ) → m ≡ refuse k p → ((k ≡ (rule n).number) × (p ≡ (rule n).place r)) × F n r) → Examines m (Just n r)
  examines_one n r m g h =
      record {
        good = λ e m q i w. g e (just_fault n r m q i w);
        first = λ k p e.
            let x = h k p e in
            record {
              number = n;
              row = r;
              among = (refl, refl);
              number_is = x.0.0;
              place_is = x.0.1;
              there = x.1;
              none_before = λ m q i y w. earlier_itself (T n r) (subst (λ (l : List ℕ). Earlier l (T n r)) (just_turn n r m q i) y);
            };
      }

  pub examines_check : (n : Number) (r : ℕ) (t : Bool) → Tells t (F n r) → Examines (check (rule n).number ((rule n).place r) t) (Just n r)
  examines_check n r t k = examines_one n r _ (λ e. k.absent (check-ok _ _ t tt e)) (λ i j e. let x = refused _ _ t i j e in ((x.0, x.1), k.there x.2))

  -- two faults of a row, asked by rising rank
  pub just_apart : (n m : Number) (r : ℕ) → (rule n).stage ≤ (rule m).stage → (rule n).lap r ≤ (rule m).lap r →
      (rule n).rank < (rule m).rank → (a : Number) (b : ℕ) (c : Number) (d : ℕ) → Just n r a b → Just m r c d →
      Earlier (T c d) (T a b) → ⊥
  just_apart n m r hs hl hn a b c d i j y =
      let x : Earlier (T m r) (T n r) = subst (λ (l : List ℕ). Earlier l (T n r)) (just_turn m r c d j)
      (subst (λ (l : List ℕ). Earlier (T c d) l) (just_turn n r a b i) y) in
      let z = order_rank m r n r (omega arith) x hs hl in
      omega arith

  -- nothing to find
  pub examines_none : (In : Number → ℕ → Type 0) → ((n : Number) (r : ℕ) → In n r → F n r → ⊥) → Examines (ok tt) In
  examines_none In h = record { good = λ e. h; first = λ i j e. let z : ◌≡◌ {A = ℕ} 0 1 = cc in absurd (omega arith) }

  -- one after the other: none of the later faults has its turn before one of the earlier. The second is asked only where the first is
  -- passed.
  pub examines_then : (a b : Answer (Unit {0})) (A B : Number → ℕ → Type 0) →
      ((n : Number) (r : ℕ) (m : Number) (q : ℕ) → A n r → B m q → Earlier (T m q) (T n r) → ⊥) → Examines a A →
      (a ≡ ok tt → Examines b B) → Examines (a >> b) (λ n r. A n r ⊎ B n r)
  unfolding ◌>>◌
  examines_then (ok u) b A B apart k l = record { good = neither; first = λ i j e. second ((l refl).first i j e) }
    where
      neither : b ≡ ok tt → (n : Number) (r : ℕ) → A n r ⊎ B n r → F n r → ⊥
      neither e n r (inl a) = k.good refl n r a
      neither e n r (inr b) = (l refl).good e n r b

      second : {i j : ℕ} → Finds B i j → Finds (λ n r. A n r ⊎ B n r) i j
      second x = record {
        number = x.number;
        row = x.row;
        among = inr x.among;
        number_is = x.number_is;
        place_is =
            x.place_is;
        there = x.there;
        none_before = none;
      }
        where
          none : (m : Number) (q : ℕ) → A m q ⊎ B m q → Earlier (T m q) (T x.number x.row) → F m q → ⊥
          none m q (inl a) y w = k.good refl m q a w
          none m q (inr b) y w = x.none_before m q b y w
  examines_then (refuse i j) b A B apart k l = record {
    good = λ e. let z : ◌≡◌ {A = ℕ} 0 1 = cc in
        absurd (omega arith);
    first = λ i j e. only (k.first i j e);
  }
    where
      only : {i j : ℕ} → Finds A i j → Finds (λ n r. A n r ⊎ B n r) i j
      only x = record {
        number = x.number;
        row = x.row;
        among = inl x.among;
        number_is = x.number_is;
        place_is =
            x.place_is;
        there = x.there;
        none_before = none;
      }
        where
          none : (m : Number) (q : ℕ) → A m q ⊎ B m q → Earlier (T m q) (T x.number x.row) → F m q → ⊥
          none m q (inl a) y w = x.none_before m q a y w
          none m q (inr b) y w = apart x.number x.row m q x.among b y

  -- the same faults in other words
  pub examines_as : (m : Answer (Unit {0})) (A C : Number → ℕ → Type 0) → ((n : Number) (r : ℕ) → A n r → C n r) →
      ((n : Number) (r : ℕ) → F n r → C n r → A n r) → Examines m A → Examines m C
  examines_as m A C to from k =
      record {
        good = λ e n r c w. k.good e n r (from n r w c) w;
        first = λ i j e.
            let x = k.first i j e in
            record {
              number = x.number;
              row = x.row;
              among = to _ _ x.among;
              number_is = x.number_is;
              place_is = x.place_is;
              there = x.there;
              none_before = λ m q c y w. x.none_before m q (from m q w c) y w;
            };
      }

  -- in_order: a rule of each row, k the first; all of its faults have one stage and lap, and their row
  pub record Within (stage lap row : ℕ) (In : Number → ℕ → Type 0) : Type 0 where
    pub stage_is : (n : Number) (q : ℕ) → In n q → (rule n).stage ≡ stage
    pub lap-is : (n : Number) (q : ℕ) → In n q → (rule n).lap q ≡ lap
    pub row_is : (n : Number) (q : ℕ) → In n q → q ≡ row

  abbrev pub Rows : (ℕ → Number → ℕ → Type 0) → ℕ → ℕ → Number → ℕ → Type 0
  Rows In k n m q = (j : ℕ) × (j < n) × In (k + j) m q

  pub examines_rows : (g : ℕ → Item → Answer (Unit {0})) (In : ℕ → Number → ℕ → Type 0) (stage lap : ℕ) →
      ((r : ℕ) → Within stage lap r (In r)) → (k : ℕ) (is : List Item) →
      ((j : ℕ) → j < length is → Examines (g (k + j) (get_or is j no_item)) (In (k + j))) →
      Examines (in_order g k is) (Rows In k (length is))
  unfolding in_order
  examines_rows g In stage lap w k [] h = examines_none _ (λ n r i x. let z = i.1 in omega arith)
  examines_rows g In stage lap w k (i ∷ is) h =
      examines_as _ _ _ to from
      (examines_then _ _ (In k) (Rows In (suc k) (length is)) apart
      (rw add-zero at (h 0 (omega arith)))
      (λ e. examines_rows g In stage lap w (suc k) is (λ j l. let z : k + suc j ≡ suc k + j = omega arith in rw z at (h (suc j) (omega arith)))))
    where
      apart : (n : Number) (r : ℕ) (m : Number) (q : ℕ) → In k n r → Rows In (suc k) (length is) m q → Earlier (T m q) (T n r) → ⊥
      apart n r m q a b y =
          let wa = w k in
          let wb = w (suc k + b.0) in
          let s : (rule n).stage ≡ (rule m).stage = wa.stage_is n r a ∙ sym (wb.stage_is m q b.2) in
          let l : (rule n).lap r ≡ (rule m).lap q = wa.lap-is n r a ∙ sym (wb.lap-is m q b.2) in
          let ra = wa.row_is n r a in
          let rb = wb.row_is m q b.2 in
          let z = order_row m q n r (omega arith) (omega arith) y in
          omega arith

      to : (n : Number) (r : ℕ) → In k n r ⊎ Rows In (suc k) (length is) n r → Rows In k (suc (length is)) n r
      to n r (inl a) = (0, (omega arith), rw add-zero a)
      to n r (inr b) = let z : suc k + b.0 ≡ k + suc b.0 = omega arith in (suc b.0, (omega (arith, b.1)), rw z at b.2)

      from : (n : Number) (r : ℕ) → F n r → Rows In k (suc (length is)) n r → In k n r ⊎ Rows In (suc k) (length is) n r
      from n r x c = by c.0 c.1 c.2
        where
          by : (j : ℕ) → j < suc (length is) → In (k + j) n r → In k n r ⊎ Rows In (suc k) (length is) n r
          by zero l a = inl (rw add-zero at a)
          by (suc j) l a = let z : k + suc j ≡ suc k + j = omega arith in inr (j, (omega arith), rw z at a)
