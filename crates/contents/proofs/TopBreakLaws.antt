-- The top level is refused exactly where it is broken. Assumes nothing.
--   Sight n s l       what a look says, in full;   Walk, WalkBreak    `WalkedTo` and `TopBreaks`, from any place on
use Prim.Native.Nat.{ℕ, zero, suc, ◌+◌, ◌-◌, ◌≤◌, ◌<◌}
use native.Mathlib.Omega.{arith}
use mathlib.Core.Path.{◌≡◌, refl, sym, ap, ◌∙◌, subst}
use mathlib.Core.List.{List, [], ◌∷◌, ◌++◌, append_assoc}
use mathlib.Core.Bool.{Bool, true, false, ◌&&◌}
use lib.ListN.{length, take, drop, length-append, length-take, length-drop, take-append-drop, drop_of_length-le}
use lib.Seq.{take_at, drop_at, take_all}
use lib.Dec.{leb, eqb}
use borrow.Author.Tests.{
  leb-true,
  leb-false,
  ltb-true,
  ltb-false,
  le-leb,
  lt-leb,
  le-ltb,
  lt-ltb,
  eq-eqb,
  ne_eqb,
  eqb-true,
  eqb-false,
}
use Rattle.fields.specs.Choice.{pick}
use Rattle.fields.specs.Field.{be_at}
use Rattle.fields.specs.Lists.{All}
use Rattle.fields.proofs.FieldLaws.{both}
use Rattle.fields.proofs.TestLaws.{and_both, and-false}
use Rattle.boxes.specs.Answer.{refuse, check}
use Rattle.boxes.specs.Types.{meta}
use Rattle.boxes.specs.Box.{head_of, size_of, kind_of, IsBox, flat, starts}
use Rattle.boxes.specs.Top.{Look, short, bad, past, good, fit, look, branded, by_look, walk_n, walk, by_first, meta_in}
use Rattle.boxes.proofs.AnswerLaws.{with_then, refuse-then, refuse-same, not-refused, ok-then, check-ok, ok-check, check-refuse, refuse-check}
use Rattle.boxes.proofs.BoxLaws.{head_least, starts-yes, front-box, front-kind, front_length}
use Rattle.boxes.proofs.TopLaws.{box-look, walk-on, walk_hit, walk-box, walk_nil, few-boxes}
use Rattle.contents.specs.TopBreaks.{
  TopSize,
  stated,
  to_the_end,
  BadTop,
  size-bad,
  past-file,
  WalkedTo,
  TopBreaks,
  first-header,
  first-size,
  first_past,
  first-brand,
  first-last,
  later-header,
  later-size,
  later-past,
  later_last,
}

-- Sight
data Sight (n : ℕ) (s : List ℕ) : Look → Type 0 where
  is-short : length s < head_of s → Sight n s short
  is-bad : head_of s ≤ length s → BadTop n s → Sight n s bad
  is-past : (k : ℕ) → head_of s ≤ length s → TopSize n s k → length s < k → Sight n s past
  is-good : {k : ℕ} → head_of s ≤ length s → TopSize n s k → k ≤ length s → Sight n s (good k)

module _ (n : ℕ) (s : List ℕ) where
  fit_sight : (k : ℕ) → head_of s ≤ length s → TopSize n s k → Sight n s (fit k s)
  unfolding fit
  fit_sight k h p = both (Sight n s) _ _ _ (λ e. is-good h p (leb-true _ _ e)) (λ e. is-past k h p (leb-false _ _ e))

  not_good : (be_at s 0 4 ≡ 0 → ⊥) → (c d : Bool) → leb (head_of s) (size_of s) ≡ c → leb (size_of s) n ≡ d → (c && d) ≡ false → BadTop n s
  not_good z true true h l e = let y : ◌≡◌ {A = ℕ} 0 1 = cc in absurd (omega arith)
  not_good z true false h l e = past-file z (leb-false _ _ l)
  not_good z false d h l e = size-bad z (leb-false _ _ h)

  look_sight : Sight n s (look n s)
  unfolding look
  look_sight =
      both (Sight n s) _ _ _ (λ e. is-short (ltb-true _ _ e))
      (λ e. let h = ltb-false (length s) (head_of s) e in both (Sight n s) _ _ _
      (λ q. fit_sight n h (to_the_end (eqb-true _ _ q) refl))
      (λ q. let z = eqb-false (be_at s 0 4) 0 q in both (Sight n s) _ _ _
      (λ l. let t = and_both _ _ l in fit_sight (size_of s) h (stated z refl (leb-true _ _ t.0) (leb-true _ _ t.1)))
      (λ l. is-bad h (not_good z _ _ refl refl l))))

  -- and it determines the look
  look-fit : (k : ℕ) → head_of s ≤ length s → TopSize n s k → look n s ≡ fit k s
  unfolding look pick
  look-fit k h (stated z e i l) =
      rw (le-ltb _ _ h, ne_eqb _ _ z, le-leb (head_of s) (size_of s) (omega arith), le-leb (size_of s) n (omega arith), e)
  look-fit k h (to_the_end z e) = rw (le-ltb _ _ h, eq-eqb _ _ z, e)

  bad-look : head_of s ≤ length s → BadTop n s → look n s ≡ bad
  unfolding look pick
  bad-look h (size-bad z i) = rw (le-ltb _ _ h, ne_eqb _ _ z, lt-leb (head_of s) (size_of s) i)
  bad-look h (past-file z i) =
      rw (le-ltb _ _ h, ne_eqb _ _ z, and-false (leb (head_of s) (size_of s)) (leb (size_of s) n) (λ a b. let l = leb-true (size_of s) n b in omega arith))

  sight_look : (l : Look) → Sight n s l → look n s ≡ l
  unfolding look fit pick
  sight_look short (is-short h) = rw (lt-ltb _ _ h)
  sight_look bad (is-bad h b) = bad-look h b
  sight_look past (is-past k h p l) = look-fit k h p ∙ rw (lt-leb _ _ l)
  sight_look (good k) (is-good h p l) = look-fit k h p ∙ rw (le-leb _ _ l)

-- Walk: from a box at `at` on, n bytes of the file being left there; what begins at e has m bytes of the file left
record Walk (at n : ℕ) (s : List ℕ) (e m : ℕ) (r : List ℕ) : Type 0 where
  before : List (List ℕ)
  all : All IsBox before
  none : All (λ (b : List ℕ). kind_of b ≡ meta → ⊥) before
  joined : flat before ++ r ≡ s
  where_it_is : e ≡ at + length (flat before)
  left : m ≡ n - length (flat before)

data WalkBreak (at n : ℕ) (s : List ℕ) (k q : ℕ) : Type 0 where
  walk-header : (e m : ℕ) (r : List ℕ) → Walk at n s e m r → length r < head_of r → k ≡ 5 → q ≡ 0 → WalkBreak at n s k q
  walk-size : (m : ℕ) (r : List ℕ) → Walk at n s q m r → head_of r ≤ length r → BadTop m r → k ≡ 3 → WalkBreak at n s k q
  walk-past : (e m j : ℕ) (r : List ℕ) → Walk at n s e m r → head_of r ≤ length r → TopSize m r j → length r < j → k ≡ 5 → q ≡ 0 →
      WalkBreak at n s k q
  walk-last : (e m : ℕ) (r : List ℕ) → Walk at n s e m r → head_of r ≤ length r → be_at r 0 4 ≡ 0 → m ≡ length r →
      (kind_of r ≡ meta → ⊥) → k ≡ 5 → q ≡ 0 → WalkBreak at n s k q

module _ (at n : ℕ) where
  walk_here : (s : List ℕ) → Walk at n s at n s
  unfolding flat
  walk_here s = record {
    before = [];
    all = tt;
    none = tt;
    joined = refl;
    where_it_is = (let e : at ≡ at + 0 = omega arith in e);
    left = (let e : n ≡ n - 0 = omega arith in e);
  }

  walk-behind : (b s : List ℕ) (e m : ℕ) (r : List ℕ) → IsBox b → (kind_of b ≡ meta → ⊥) → Walk (at + length b) (n - length b) s e m r →
      Walk at n (b ++ s) e m r
  unfolding flat
  walk-behind b s e m r i o w =
      let l = length-append b (flat w.before) in
      record {
        before = b ∷ w.before;
        all = (i, w.all);
        none = (o, w.none);
        joined = append_assoc b (flat w.before) r ∙ ap (λ (v : List ℕ). b ++ v) w.joined;
        where_it_is = w.where_it_is ∙ (let e : at + length b + length (flat w.before) ≡ at + length (b ++ flat w.before) = omega arith in e);
        left = w.left ∙ (let e : n - length b - length (flat w.before) ≡ n - length (b ++ flat w.before) = omega arith in e);
      }

  break_behind : (b s : List ℕ) (k q : ℕ) → IsBox b → (kind_of b ≡ meta → ⊥) → WalkBreak (at + length b) (n - length b) s k q →
      WalkBreak at n (b ++ s) k q
  break_behind b s k q i o (walk-header e m r w h x y) = walk-header e m r (walk-behind b s e m r i o w) h x y
  break_behind b s k q i o (walk-size m r w h x y) = walk-size m r (walk-behind b s q m r i o w) h x y
  break_behind b s k q i o (walk-past e m j r w h p l x y) = walk-past e m j r (walk-behind b s e m r i o w) h p l x y
  break_behind b s k q i o (walk-last e m r w h z l c x y) = walk-last e m r (walk-behind b s e m r i o w) h z l c x y

-- one step of the walk
module _ (f at n : ℕ) (s : List ℕ) (k q : ℕ) (l : length s ≤ n) (e : walk_n (suc f) at n s ≡ refuse k q) where
  seen_as : (x : Look) → look n s ≡ x → by_look (λ a m t. walk_n f a m t) at n s x ≡ refuse k q
  unfolding walk_n
  seen_as x z = sym (ap (by_look (λ a m t. walk_n f a m t) at n s) z) ∙ e

  no_hit : {C : Type 0} (m : ℕ) → look n s ≡ good m → kind_of s ≡ meta → C
  no_hit m x z = not-refused _ k q (sym (walk_hit f at n m s x z) ∙ e)

  step_broken : ((a m : ℕ) (t : List ℕ) → length t < f → length t ≤ m → walk_n f a m t ≡ refuse k q → WalkBreak a m t k q) →
      length s < suc f → (x : Look) → Sight n s x → look n s ≡ x → WalkBreak at n s k q
  unfolding by_look
  step_broken ih g short (is-short h) x = let y = refuse-same 5 0 k q (seen_as short x) in walk-header at n s (walk_here at n s) h y.0 y.1
  step_broken ih g bad (is-bad h b) x =
      let y = refuse-same 3 at k q (seen_as bad x) in
      walk-size n s (subst (λ (i : ℕ). Walk at n s i n s) (sym y.1) (walk_here at n s)) h b y.0
  step_broken ih g past (is-past j h p r) x =
      let y = refuse-same 5 0 k q (seen_as past x) in walk-past at n j s (walk_here at n s) h p r y.0 y.1
  step_broken ih g (good m) (is-good h (stated z i j r) c) x = go (eqb (kind_of s) meta) refl
    where
      o : starts s ≡ true
      o = starts-yes s (omega arith) (omega arith)

      go : (t : Bool) → eqb (kind_of s) meta ≡ t → WalkBreak at n s k q
      go true w = no_hit m x (eqb-true _ _ w)
      go false w =
          let no : kind_of s ≡ meta → ⊥ = eqb-false (kind_of s) meta w in
          let fl = front_length s o in
          let hl = head_least s in
          let y : walk_n f (at + size_of s) (n - size_of s) (drop (size_of s) s) ≡ refuse k q =
          subst (λ (j : ℕ). walk_n f (at + j) (n - j) (drop j s) ≡ refuse k q) i (sym (walk-on f at n m s x no) ∙ e) in
          let u = ih _ _ _ (rw length-drop (omega arith)) (rw length-drop (omega arith)) y in
          let v = subst (λ (j : ℕ). WalkBreak (at + j) (n - j) (drop (size_of s) s) k q) (sym fl) u in
          subst (λ (v : List ℕ). WalkBreak at n v k q) (take-append-drop (size_of s) s)
          (break_behind at n (take (size_of s) s) (drop (size_of s) s) k q (front-box s o) (λ b. no (sym (front-kind s o) ∙ b)) v)
  step_broken ih g (good m) (is-good h (to_the_end z i) c) x = go (eqb (kind_of s) meta) refl
    where
      go : (t : Bool) → eqb (kind_of s) meta ≡ t → WalkBreak at n s k q
      go true w = no_hit m x (eqb-true _ _ w)
      go false w =
          let no : kind_of s ≡ meta → ⊥ = eqb-false (kind_of s) meta w in
          let d : drop m s ≡ [] = drop_of_length-le s {i = m} (omega arith) in
          let y = refuse-same 5 0 k q (sym (walk_nil f (at + m) (n - m)) ∙ ap (walk_n f (at + m) (n - m)) (sym d) ∙ sym (walk-on f at n m s x no) ∙ e) in
          walk-last at n s (walk_here at n s) h z (omega arith) no y.0 y.1

walk_broken : (f at n : ℕ) (s : List ℕ) (k q : ℕ) → length s < f → length s ≤ n → walk_n f at n s ≡ refuse k q → WalkBreak at n s k q
walk_broken zero at n s k q g l e = absurd (omega arith)
walk_broken (suc f) at n s k q g l e =
    step_broken f at n s k q l e (λ a m t i j x. walk_broken f a m t k q i j x) g (look n s) (look_sight n s) refl

-- the other way: whole boxes are walked past
walk-past-boxes : (bs : List (List ℕ)) (g f at n : ℕ) (r : List ℕ) → f ≡ length bs + g → All IsBox bs →
    All (λ (b : List ℕ). kind_of b ≡ meta → ⊥) bs → length (flat bs ++ r) ≤ n →
    walk_n f at n (flat bs ++ r) ≡ walk_n g (at + length (flat bs)) (n - length (flat bs)) r
unfolding flat
walk-past-boxes [] g f at n r j a o l =
    let i : at + 0 ≡ at = omega arith in
    let h : n - 0 ≡ n = omega arith in
    let y : f ≡ g = omega arith in
    rw (i, h, y)
walk-past-boxes (b ∷ bs) g zero at n r j a o l = absurd (omega arith)
walk-past-boxes (b ∷ bs) g (suc f) at n r j a o l =
    let x = length-append b (flat bs) in
    let y = length-append b (flat bs ++ r) in
    let m : length (b ++ (flat bs ++ r)) ≤ n = subst (λ (v : List ℕ). length v ≤ n) (append_assoc b (flat bs) r) l in
    let i : at + length b + length (flat bs) ≡ at + length (b ++ flat bs) = omega arith in
    let h : n - length b - length (flat bs) ≡ n - length (b ++ flat bs) = omega arith in
    ap (walk_n (suc f) at n) (append_assoc b (flat bs) r)
    ∙ walk-box f at n b (flat bs ++ r) a.0 m o.0
    ∙ walk-past-boxes bs g f (at + length b) (n - length b) r (omega arith) a.1 o.1 (omega arith)
    ∙ rw (i, h)

module _ (at n : ℕ) (s : List ℕ) (l : length s ≤ n) where
  -- some fuel is left
  walk_reached : (e m : ℕ) (r : List ℕ) → Walk at n s e m r → (g : ℕ) × (walk at n s ≡ walk_n (suc g) e m r)
  walk_reached e m r w =
      let c = few-boxes w.before w.all in
      let j = rw length-append at (ap length w.joined) in
      let g : ℕ = length s - length w.before in (
        g,
        ap (walk_n (suc (length s)) at n) (sym w.joined)
            ∙ walk-past-boxes w.before (suc g) (suc (length s)) at n r (omega arith) w.all w.none
            (subst (λ (v : List ℕ). length v ≤ n) (sym w.joined) l)
            ∙ rw (← w.where_it_is, ← w.left),
      )

  walk-left : (e m : ℕ) (r : List ℕ) → Walk at n s e m r → length r ≤ m
  walk-left e m r w = let j = rw length-append at (ap length w.joined) in let i = w.left in omega arith

  looks : (g e m : ℕ) (r : List ℕ) (x : Look) → Sight m r x → walk_n (suc g) e m r ≡ by_look (λ a i t. walk_n g a i t) e m r x
  unfolding walk_n
  looks g e m r x v = ap (by_look (λ a i t. walk_n g a i t) e m r) (sight_look m r x v)

  broken_walk : (k q : ℕ) → WalkBreak at n s k q → walk at n s ≡ refuse k q
  unfolding by_look
  broken_walk k q (walk-header e m r w h x y) =
      let z = walk_reached e m r w in z.1 ∙ looks z.0 e m r short (is-short h) ∙ rw (x, y)
  broken_walk k q (walk-size m r w h b x) =
      let z = walk_reached q m r w in z.1 ∙ looks z.0 q m r bad (is-bad h b) ∙ rw x
  broken_walk k q (walk-past e m j r w h p i x y) =
      let z = walk_reached e m r w in z.1 ∙ looks z.0 e m r past (is-past j h p i) ∙ rw (x, y)
  broken_walk k q (walk-last e m r w h b i o x y) =
      let z = walk_reached e m r w in
      let d : drop m r ≡ [] = drop_of_length-le r {i = m} (omega arith) in
      z.1 ∙ walk-on z.0 e m m r (sight_look m r (good m) (is-good h (to_the_end b refl) (omega arith))) o
      ∙ ap (walk_n z.0 (e + m) (m - m)) d ∙ walk_nil z.0 (e + m) (m - m) ∙ rw (x, y)

-- the first box
module _ (total : ℕ) (head : List ℕ) (n p : ℕ) (l : length head ≤ total) where
  -- behind an `ftyp` that is a box
  behind-first : (b s : List ℕ) → IsBox b → branded b ≡ true → b ++ s ≡ head → (e m : ℕ) (r : List ℕ) →
      Walk (length b) (total - length b) s e m r → WalkedTo head e r × (m ≡ total - e)
  behind-first b s i c j e m r w =
      let x = w.left in
      let y = w.where_it_is in (
        record {
          first = b;
          before = w.before;
          box = i;
          brand = c;
          all = w.all;
          none = w.none;
          joined = ap (λ (v : List ℕ). b ++ v) w.joined ∙ j;
          where_it_is = y;
        },
        omega arith,
      )

  later_broken : (b s : List ℕ) → IsBox b → branded b ≡ true → b ++ s ≡ head → WalkBreak (length b) (total - length b) s n p →
      TopBreaks total head n p
  later_broken b s i c j (walk-header e m r w h x y) = let v = behind-first b s i c j e m r w in later-header e r v.0 h x y
  later_broken b s i c j (walk-size m r w h z x) =
      let v = behind-first b s i c j p m r w in later-size r v.0 h (subst (λ (k : ℕ). BadTop k r) v.1 z) x
  later_broken b s i c j (walk-past e m k r w h z g x y) =
      let v = behind-first b s i c j e m r w in later-past e k r v.0 h (subst (λ (k' : ℕ). TopSize k' r k) v.1 z) g x y
  later_broken b s i c j (walk-last e m r w h z g o x y) =
      let v = behind-first b s i c j e m r w in
      let f1 = v.1 in
      let f2 = w.where_it_is in
      let f3 = w.left in
      let f4 = rw length-append at (ap length w.joined) in
      let f5 = rw length-append at (ap length j) in
      let f6 = head_least r in
      later_last e r v.0 h z (omega arith) o x y

  branded_broken : (k : ℕ) → head_of head ≤ length head → TopSize total head k → k ≤ length head → branded (take k head) ≡ true →
      walk k (total - k) (drop k head) ≡ refuse n p → TopBreaks total head n p
  branded_broken k h (stated z i j r) g c e =
      let o : starts head ≡ true = starts-yes head (omega arith) (omega arith) in
      let f : length (take k head) ≡ k = rw length-take (omega arith) in
      let b : IsBox (take k head) = subst (λ (m : ℕ). IsBox (take m head)) (sym i) (front-box head o) in
      later_broken (take k head) (drop k head) b c (take-append-drop k head)
      (subst (λ (m : ℕ). WalkBreak m (total - m) (drop k head) n p) (sym f)
      (walk_broken _ k (total - k) (drop k head) n p (omega arith) (rw length-drop (omega arith)) e))
  branded_broken k h (to_the_end z i) g c e =
      let d : drop k head ≡ [] = drop_of_length-le head {i = k} (omega arith) in
      let t : take k head ≡ head = take_all k head (omega arith) in
      let y = refuse-same 5 0 n p (sym (walk_nil (suc (length (drop k head))) k (total - k))
      ∙ ap (walk_n (suc (length (drop k head))) k (total - k)) (sym d) ∙ e) in
      first-last h z (omega arith) (subst (λ (v : List ℕ). branded v ≡ true) t c) y.0 y.1

  first_broken : (x : Look) → Sight total head x → by_first total head x ≡ refuse n p → TopBreaks total head n p
  unfolding by_first
  first_broken short (is-short h) e = let y = refuse-same 4 0 n p e in first-header h y.0 y.1
  first_broken bad (is-bad h b) e = let y = refuse-same 3 0 n p e in first-size h b y.0 y.1
  first_broken past (is-past k h s g) e = let y = refuse-same 4 0 n p e in first_past k h s g y.0 y.1
  first_broken (good k) (is-good h s g) e =
      with_then (check 4 0 (branded (take k head))) _ n p e (λ x.
      let y = check-refuse 4 0 (branded (take k head)) n p x in
      let f : length (take k head) ≡ k = rw length-take (omega arith) in
      first-brand (take k head) (drop k head) h (subst (TopSize total head) (sym f) s) (take-append-drop k head) y.0 y.1.0
      y.1.1) (λ u x w. branded_broken k h s g (check-ok 4 0 (branded (take k head)) u x) w)

  pub top_broken : meta_in total head ≡ refuse n p → TopBreaks total head n p
  unfolding meta_in
  top_broken e = first_broken (look total head) (look_sight total head) e

  -- the other way
  from_first : (x : Look) → Sight total head x → meta_in total head ≡ by_first total head x
  unfolding meta_in
  from_first x v = ap (by_first total head) (sight_look total head x v)

  walked-refused : (e : ℕ) (r : List ℕ) (w : WalkedTo head e r) →
      (Walk (length w.first) (total - length w.first) (flat w.before ++ r) e (total - e) r →
      WalkBreak (length w.first) (total - length w.first) (flat w.before ++ r) n p) → meta_in total head ≡ refuse n p
  unfolding meta_in by_first
  walked-refused e r w h =
      let b : List ℕ = w.first in
      let s : List ℕ = flat w.before ++ r in
      let j = rw length-append at (ap length w.joined) in
      let x = w.where_it_is in
      let i : total - e ≡ total - length b - length (flat w.before) = omega arith in
      ap (meta_in total) (sym w.joined)
      ∙ ap (by_first total (b ++ s)) (box-look total b s w.box (rw length-append (omega arith)))
      ∙ rw (take_at b s (length b) refl, drop_at b s (length b) refl)
      (ok-then _ _ tt (ok-check 4 0 _ w.brand)
      ∙ broken_walk (length b) (total - length b) s (omega arith) n p
      (h (record { before = w.before; all = w.all; none = w.none; joined = refl; where_it_is = x; left = i })))

  pub broken_top : TopBreaks total head n p → meta_in total head ≡ refuse n p
  unfolding by_first
  broken_top (first-header h x y) = from_first short (is-short h) ∙ rw (x, y)
  broken_top (first-size h b x y) = from_first bad (is-bad h b) ∙ rw (x, y)
  broken_top (first_past k h s g x y) = from_first past (is-past k h s g) ∙ rw (x, y)
  broken_top (first-brand b r h s j c x y) =
      let f = rw length-append at (ap length j) in
      let t : take (length b) head ≡ b = ap (take (length b)) (sym j) ∙ take_at b r (length b) refl in
      from_first (good (length b)) (is-good h s (omega arith))
      ∙ refuse-then _ n p (refuse-check 4 0 (branded (take (length b) head)) n (ap branded t ∙ c) x ∙ ap (refuse n) (sym y)) _
  broken_top (first-last h z i c x y) =
      let t : take total head ≡ head = take_all total head (omega arith) in
      let d : drop total head ≡ [] = drop_of_length-le head {i = total} (omega arith) in
      from_first (good total) (is-good h (to_the_end z refl) (omega arith))
      ∙ ok-then _ _ tt (ok-check 4 0 (branded (take total head)) (ap branded t ∙ c))
      ∙ ap (walk total (total - total)) d ∙ walk_nil 1 total (total - total) ∙ rw (x, y)
  broken_top (later-header e r w h x y) = walked-refused e r w (λ v. walk-header e (total - e) r v h x y)
  broken_top (later-size r w h b x) = walked-refused p r w (λ v. walk-size (total - p) r v h b x)
  broken_top (later-past e k r w h s g x y) = walked-refused e r w (λ v. walk-past e (total - e) k r v h s g x y)
  broken_top (later_last e r w h z i o x y) =
      let j = rw (length-append, length-append) at (ap length w.joined) in
      let q = w.where_it_is in
      walked-refused e r w (λ v. walk-last e (total - e) r v h z (omega arith) o x y)
