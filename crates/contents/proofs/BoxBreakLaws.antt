-- The boxes of a container are refused exactly where they are broken, for every step. Assumes nothing.
--   Follows R B f    f is a value exactly as R says, and a refusal exactly as B says, at the box
use Prim.Native.Nat.{ℕ, zero, suc, ◌+◌, ◌≤◌}
use native.Mathlib.Omega.{arith}
use mathlib.Core.Path.{◌≡◌, refl, sym, ap, ◌∙◌, subst}
use mathlib.Core.List.{List, [], ◌∷◌, ◌++◌, append_assoc}
use mathlib.Core.Bool.{Bool, true, false, ◌&&◌}
use lib.ListN.{length, take, drop, length-append, length-drop, take-append-drop}
use lib.Seq.{take_at, drop_at}
use lib.Dec.{leb, ltb}
use borrow.Author.Tests.{leb-false, ltb-true, ltb-false, lt-ltb, le-ltb}
use Rattle.fields.specs.Choice.{pick}
use Rattle.fields.specs.Lists.{All}
use Rattle.fields.proofs.TestLaws.{untrue}
use Rattle.boxes.specs.Answer.{Answer, ok, refuse, ◌>>=◌}
use Rattle.boxes.specs.Box.{head_of, size_of, IsBox, flat, starts}
use Rattle.boxes.specs.Children.{no_rest, contain, Through}
use Rattle.boxes.specs.Exactly.{ended, one_by, exactly}
use Rattle.boxes.proofs.AnswerLaws.{ok_bind, with_refuse, with_then, refuse_bind, refuse-then, refuse-same, not-refused}
use Rattle.boxes.proofs.BoxLaws.{head_least, starts-room, starts_no, front-box, box-starts, box-size}
use Rattle.boxes.proofs.ChildLaws.{contain-box, contain_stops}
use Rattle.contents.specs.BoxBreaks.{
  BadBox,
  bad-size,
  past_end,
  Arrives,
  BoxBreaks,
  step_breaks,
  no_box,
  ContainBreaks,
  at-box,
  spare_bytes,
  ExactlyBreaks,
  at_one,
  too_few,
  left_behind,
}

-- BadBox
pub starts-bad : (s : List ℕ) → starts s ≡ false → BadBox s
unfolding starts
starts-bad s e = go (leb (head_of s) (size_of s)) (leb (size_of s) (length s)) refl refl e
  where
    go : (c d : Bool) → leb (head_of s) (size_of s) ≡ c → leb (size_of s) (length s) ≡ d → (c && d) ≡ false → BadBox s
    go true true h l e = untrue (sym e)
    go true false h l e = past_end (leb-false _ _ l)
    go false d h l e = bad-size (leb-false _ _ h)

pub bad-starts : (s : List ℕ) → BadBox s → starts s ≡ false
bad-starts s (bad-size h) = starts_no s (λ o. let r = starts-room s o in omega arith)
bad-starts s (past_end h) = starts_no s (λ o. let r = starts-room s o in omega arith)

few_start : (s : List ℕ) → length s ≤ 7 → starts s ≡ false
few_start s l = starts_no s (λ o. let r = starts-room s o in let h = head_least s in omega arith)

some_bytes : {A : Type 0} (s : List A) → 1 ≤ length s → (x : A) × (t : List A) × (s ≡ x ∷ t)
some_bytes [] l = absurd (omega arith)
some_bytes (x ∷ t) l = (x, t, refl)

pub record Follows {S : Type 0} (R : S → List ℕ → S → Type 0) (B : S → List ℕ → ℕ → Type 0) (f : ℕ → S → List ℕ → Answer S) : Type 0 where
  pub sound : (at : ℕ) (z : S) (b : List ℕ) (t : S) → f at z b ≡ ok t → R z b t
  pub complete : (at : ℕ) (z : S) (b : List ℕ) (t : S) → R z b t → f at z b ≡ ok t
  pub breaks : (at : ℕ) (z : S) (b : List ℕ) (n q : ℕ) → f at z b ≡ refuse n q → (q ≡ at) × B z b n
  pub broken : (at : ℕ) (z : S) (b : List ℕ) (n : ℕ) → B z b n → f at z b ≡ refuse n at

module _ {S : Type 0} {R : S → List ℕ → S → Type 0} where
  -- Arrives: the first box, and behind one box more
  reached_first : (z : S) (at : ℕ) (s : List ℕ) → Arrives R z at s [] z at s
  unfolding flat
  reached_first z at s = record { all = tt; joined = refl; through = refl; where_it_is = (let e : at ≡ at + 0 = omega arith in e) }

  reached_more : (z m t : S) (at : ℕ) (b s : List ℕ) (bs : List (List ℕ)) (q : ℕ) (r : List ℕ) → IsBox b → R z b m →
      Arrives R m (at + length b) s bs t q r → Arrives R z at (b ++ s) (b ∷ bs) t q r
  unfolding flat
  reached_more z m t at b s bs q r i h w =
      let l = length-append b (flat bs) in
      record {
        all = (i, w.all);
        joined = append_assoc b (flat bs) r ∙ ap (λ (v : List ℕ). b ++ v) w.joined;
        through = (m, h, w.through);
        where_it_is = w.where_it_is ∙ (let e : at + length b + length (flat bs) ≡ at + length (b ++ flat bs) = omega arith in e);
      }

module _ {S : Type 0} {R : S → List ℕ → S → Type 0} {B : S → List ℕ → ℕ → Type 0} where
  box-more : (z m : S) (at : ℕ) (b s : List ℕ) (bs : List (List ℕ)) (n q : ℕ) → IsBox b → R z b m →
      BoxBreaks R B m (at + length b) s bs n q → BoxBreaks R B z at (b ++ s) (b ∷ bs) n q
  box-more z m at b s bs n q i h (step_breaks t c r w j x) = step_breaks t c r (reached_more z m t at b s bs q (c ++ r) i h w) j x
  box-more z m at b s bs n q i h (no_box t r w l x e) = no_box t r (reached_more z m t at b s bs q r i h w) l x e

  module _ (f : ℕ → S → List ℕ → Answer S) (g : Follows R B f) (p : ℕ) where
    -- a first box that breaks its step
    first-box : (at : ℕ) (z : S) (b s : List ℕ) (n q : ℕ) → IsBox b → f at z b ≡ refuse n q → BoxBreaks R B z at (b ++ s) [] n q
    first-box at z b s n q i e =
        let x = g.breaks at z b n q e in
        step_breaks z b s (subst (λ (j : ℕ). Arrives R z at (b ++ s) [] z j (b ++ s)) (sym x.0) (reached_first z at (b ++ s))) i x.1

    -- contain
    contain-more : (z m : S) (at : ℕ) (b s : List ℕ) (n q : ℕ) → IsBox b → R z b m → ContainBreaks R B p (at + length b) m s n q →
        ContainBreaks R B p at z (b ++ s) n q
    contain-more z m at b s n q i h (at-box bs x) = at-box (b ∷ bs) (box-more z m at b s bs n q i h x)
    contain-more z m at b s n q i h (spare_bytes bs t e r w l k x y) =
        spare_bytes (b ∷ bs) t e r (reached_more z m t at b s bs e r i h w) l k x y

    contain-one : (at : ℕ) (z : S) (b s : List ℕ) (n q : ℕ) → IsBox b →
        ((t : S) → contain f p (at + length b) t s ≡ refuse n q → ContainBreaks R B p (at + length b) t s n q) →
        contain f p at z (b ++ s) ≡ refuse n q → ContainBreaks R B p at z (b ++ s) n q
    contain-one at z b s n q i ih e =
        with_refuse _ _ n q (sym (contain-box f p at z b s i) ∙ e) (λ x. at-box [] (first-box at z b s n q i x))
        (λ t x y. contain-more z t at b s n q i (g.sound at z b t x) (ih t y))

    rest_broken : (at : ℕ) (z : S) (s : List ℕ) (n q : ℕ) → starts s ≡ false → no_rest p at s ≡ refuse n q →
        ContainBreaks R B p at z s n q
    unfolding no_rest pick
    rest_broken at z [] n q o e = not-refused tt n q e
    rest_broken at z (x ∷ s) n q o e = go (ltb (length (x ∷ s)) 8) refl (refuse-same 3 _ n q e)
      where
        w : Arrives R z at (x ∷ s) [] z at (x ∷ s)
        w = reached_first z at (x ∷ s)

        go : (c : Bool) → ltb (length (x ∷ s)) 8 ≡ c → (n ≡ 3) × (q ≡ pick c p at) → ContainBreaks R B p at z (x ∷ s) n q
        go true l h = let k = ltb-true (length (x ∷ s)) 8 l in spare_bytes [] z at (x ∷ s) w (omega arith) (omega arith) h.0 h.1
        go false l h = at-box [] (no_box z (x ∷ s) (subst (λ (j : ℕ). Arrives R z at (x ∷ s) [] z j (x ∷ s)) (sym h.1) w)
            (ltb-false (length (x ∷ s)) 8 l) (starts-bad (x ∷ s) o) h.0)

    stopped : (at : ℕ) (z : S) (s : List ℕ) (n q : ℕ) → starts s ≡ false → contain f p at z s ≡ refuse n q →
        ContainBreaks R B p at z s n q
    stopped at z s n q o e = with_then _ _ n q (sym (contain_stops f p at z s o) ∙ e) (rest_broken at z s n q o)
        (λ a x y. not-refused z n q y)

    contain-by : (m at : ℕ) (z : S) (s : List ℕ) (n q : ℕ) →
        ((i : ℕ) (y : S) (r : List ℕ) → length r ≤ m → contain f p i y r ≡ refuse n q → ContainBreaks R B p i y r n q) →
        length s ≤ suc m → (c : Bool) → starts s ≡ c → contain f p at z s ≡ refuse n q → ContainBreaks R B p at z s n q
    contain-by m at z s n q ih l true o e =
        let r = starts-room s o in
        let h = head_least s in
        subst (λ (v : List ℕ). contain f p at z v ≡ refuse n q → ContainBreaks R B p at z v n q) (take-append-drop (size_of s) s)
        (contain-one at z (take (size_of s) s) (drop (size_of s) s) n q (front-box s o)
        (λ t x. ih _ t (drop (size_of s) s) (rw length-drop (omega arith)) x)) e
    contain-by m at z s n q ih l false o e = stopped at z s n q o e

    contain-all : (m at : ℕ) (z : S) (s : List ℕ) (n q : ℕ) → length s ≤ m → contain f p at z s ≡ refuse n q →
        ContainBreaks R B p at z s n q
    contain-all zero at z s n q l e = stopped at z s n q (few_start s (omega arith)) e
    contain-all (suc m) at z s n q l e = contain-by m at z s n q (λ i y r k x. contain-all m i y r n q k x) l (starts s) refl e

    pub contain_broken : (at : ℕ) (z : S) (s : List ℕ) (n q : ℕ) → contain f p at z s ≡ refuse n q → ContainBreaks R B p at z s n q
    contain_broken at z s n q e = contain-all (length s) at z s n q (omega arith) e

    -- whole boxes are gone through
    contain-through : (bs : List (List ℕ)) (at : ℕ) (z t : S) (r : List ℕ) → All IsBox bs → Through R z bs t →
        contain f p at z (flat bs ++ r) ≡ contain f p (at + length (flat bs)) t r
    unfolding flat
    contain-through [] at z t r a e = let i : at + 0 ≡ at = omega arith in rw (i, e)
    contain-through (b ∷ bs) at z t r a (m, h, x) =
        let l = length-append b (flat bs) in
        let i : at + length b + length (flat bs) ≡ at + length (b ++ flat bs) = omega arith in
        ap (contain f p at z) (append_assoc b (flat bs) r)
        ∙ contain-box f p at z b (flat bs ++ r) a.0
        ∙ ok_bind (f at z b) _ m (g.complete at z b m h)
        ∙ contain-through bs (at + length b) m t r a.1 x
        ∙ ap (λ (j : ℕ). contain f p j t r) i

    contain_reached : (at : ℕ) (z : S) (s : List ℕ) (bs : List (List ℕ)) (t : S) (q : ℕ) (r : List ℕ) → Arrives R z at s bs t q r →
        contain f p at z s ≡ contain f p q t r
    contain_reached at z s bs t q r w =
        ap (contain f p at z) (sym w.joined) ∙ contain-through bs at z t r w.all w.through
        ∙ ap (λ (j : ℕ). contain f p j t r) (sym w.where_it_is)

    rest-refused : (at : ℕ) (z : S) (s : List ℕ) (q : ℕ) → starts s ≡ false → 1 ≤ length s → pick (ltb (length s) 8) p at ≡ q →
        contain f p at z s ≡ refuse 3 q
    unfolding no_rest
    rest-refused at z [] q o l e = absurd (omega arith)
    rest-refused at z (x ∷ s) q o l e = contain_stops f p at z (x ∷ s) o ∙ refuse-then _ 3 q (ap (refuse 3) e) _

    pub broken_contain : (at : ℕ) (z : S) (s : List ℕ) (n q : ℕ) → ContainBreaks R B p at z s n q → contain f p at z s ≡ refuse n q
    unfolding pick
    broken_contain at z s n q (at-box bs (step_breaks t b r w i x)) =
        contain_reached at z s bs t q (b ++ r) w ∙ contain-box f p q t b r i ∙ refuse_bind _ n q (g.broken q t b n x) _
    broken_contain at z s n q (at-box bs (no_box t r w l x e)) =
        contain_reached at z s bs t q r w
        ∙ rest-refused q t r q (bad-starts r x) (omega arith) (ap (λ (c : Bool). pick c p q) (le-ltb (length r) 8 l))
        ∙ ap (λ (j : ℕ). refuse j q) (sym e)
    broken_contain at z s n q (spare_bytes bs t e r w k l x y) =
        contain_reached at z s bs t e r w
        ∙ rest-refused e t r p (few_start r l) k (ap (λ (c : Bool). pick c p e) (lt-ltb (length r) 8 (omega arith)))
        ∙ rw (x, y)

    -- exactly, one box at a time
    exactly-box : (k at : ℕ) (z : S) (b s : List ℕ) → IsBox b →
        exactly f p (suc k) at z (b ++ s) ≡ (f at z b >>= (λ t. exactly f p k (at + length b) t s))
    unfolding exactly one_by
    exactly-box k at z b s i =
        ap (λ (c : Bool). one_by c f (λ a t r. exactly f p k a t r) p at z (b ++ s)) (box-starts b s i)
        ∙ rw (box-size b s i, take_at b s (length b) refl, drop_at b s (length b) refl)

    exactly_stops : (k at : ℕ) (z : S) (s : List ℕ) → starts s ≡ false →
        exactly f p (suc k) at z s ≡ pick (ltb (length s) 8) (refuse 8 p) (refuse 3 at)
    unfolding exactly one_by
    exactly_stops k at z s o = ap (λ (c : Bool). one_by c f (λ a t r. exactly f p k a t r) p at z s) o

    exact_more : (k : ℕ) (z m : S) (at : ℕ) (b s : List ℕ) (n q : ℕ) → IsBox b → R z b m →
        ExactlyBreaks R B p (at + length b) k m s n q → ExactlyBreaks R B p at (suc k) z (b ++ s) n q
    exact_more k z m at b s n q i h (at_one bs l x) = at_one (b ∷ bs) (omega arith) (box-more z m at b s bs n q i h x)
    exact_more k z m at b s n q i h (too_few bs t e r w l c x y) =
        too_few (b ∷ bs) t e r (reached_more z m t at b s bs e r i h w) (omega arith) c x y
    exact_more k z m at b s n q i h (left_behind bs t e r w l c x y) =
        left_behind (b ∷ bs) t e r (reached_more z m t at b s bs e r i h w) (omega arith) c x y

    exact_one : (k at : ℕ) (z : S) (b s : List ℕ) (n q : ℕ) → IsBox b →
        ((t : S) → exactly f p k (at + length b) t s ≡ refuse n q → ExactlyBreaks R B p (at + length b) k t s n q) →
        exactly f p (suc k) at z (b ++ s) ≡ refuse n q → ExactlyBreaks R B p at (suc k) z (b ++ s) n q
    exact_one k at z b s n q i ih e =
        with_refuse _ _ n q (sym (exactly-box k at z b s i) ∙ e) (λ x. at_one [] (omega arith) (first-box at z b s n q i x))
        (λ t x y. exact_more k z t at b s n q i (g.sound at z b t x) (ih t y))

    exact_by : (k at : ℕ) (z : S) (s : List ℕ) (n q : ℕ) →
        ((i : ℕ) (y : S) (r : List ℕ) → exactly f p k i y r ≡ refuse n q → ExactlyBreaks R B p i k y r n q) → (c : Bool) → starts s ≡ c →
        exactly f p (suc k) at z s ≡ refuse n q → ExactlyBreaks R B p at (suc k) z s n q
    unfolding pick
    exact_by k at z s n q ih true o e =
        subst (λ (v : List ℕ). exactly f p (suc k) at z v ≡ refuse n q → ExactlyBreaks R B p at (suc k) z v n q)
        (take-append-drop (size_of s) s)
        (exact_one k at z (take (size_of s) s) (drop (size_of s) s) n q (front-box s o) (λ t x. ih _ t (drop (size_of s) s) x)) e
    exact_by k at z s n q ih false o e = go (ltb (length s) 8) refl (sym (exactly_stops k at z s o) ∙ e)
      where
        w : Arrives R z at s [] z at s
        w = reached_first z at s

        go : (c : Bool) → ltb (length s) 8 ≡ c → pick {A = Answer S} c (refuse 8 p) (refuse 3 at) ≡ refuse n q →
            ExactlyBreaks R B p at (suc k) z s n q
        go true l x =
            let h = refuse-same 8 p n q x in
            let j = ltb-true (length s) 8 l in
            too_few [] z at s w (omega arith) (omega arith) h.0 h.1
        go false l x =
            let h = refuse-same 3 at n q x in
            at_one [] (omega arith) (no_box z s (subst (λ (j : ℕ). Arrives R z at s [] z j s) (sym h.1) w)
            (ltb-false (length s) 8 l) (starts-bad s o) h.0)

    none_due : (at : ℕ) (z : S) (s : List ℕ) (n q : ℕ) → ended p z s ≡ refuse n q → ExactlyBreaks R B p at 0 z s n q
    unfolding ended
    none_due at z [] n q e = not-refused z n q e
    none_due at z (x ∷ s) n q e =
        let h = refuse-same 8 p n q e in left_behind [] z at (x ∷ s) (reached_first z at (x ∷ s)) refl (omega arith) h.0 h.1

    pub exactly_broken : (k at : ℕ) (z : S) (s : List ℕ) (n q : ℕ) → exactly f p k at z s ≡ refuse n q → ExactlyBreaks R B p at k z s n q
    unfolding exactly
    exactly_broken zero at z s n q e = none_due at z s n q e
    exactly_broken (suc k) at z s n q e = exact_by k at z s n q (λ i y r x. exactly_broken k i y r n q x) (starts s) refl e

    exactly-through : (bs : List (List ℕ)) (k c at : ℕ) (z t : S) (r : List ℕ) → c ≡ length bs + k → All IsBox bs → Through R z bs t →
        exactly f p c at z (flat bs ++ r) ≡ exactly f p k (at + length (flat bs)) t r
    unfolding flat
    exactly-through [] k c at z t r j a e =
        let i : at + 0 ≡ at = omega arith in
        let y : c ≡ k = omega arith in
        rw (i, e, y)
    exactly-through (b ∷ bs) k zero at z t r j a x = absurd (omega arith)
    exactly-through (b ∷ bs) k (suc c) at z t r j a (m, h, x) =
        let l = length-append b (flat bs) in
        let i : at + length b + length (flat bs) ≡ at + length (b ++ flat bs) = omega arith in
        ap (exactly f p (suc c) at z) (append_assoc b (flat bs) r)
        ∙ exactly-box c at z b (flat bs ++ r) a.0
        ∙ ok_bind (f at z b) _ m (g.complete at z b m h)
        ∙ exactly-through bs k c (at + length b) m t r (omega arith) a.1 x
        ∙ ap (λ (j : ℕ). exactly f p k j t r) i

    exactly_reached : (k c at : ℕ) (z : S) (s : List ℕ) (bs : List (List ℕ)) (t : S) (q : ℕ) (r : List ℕ) → c ≡ length bs + k →
        Arrives R z at s bs t q r → exactly f p c at z s ≡ exactly f p k q t r
    exactly_reached k c at z s bs t q r j w =
        ap (exactly f p c at z) (sym w.joined) ∙ exactly-through bs k c at z t r j w.all w.through
        ∙ ap (λ (j : ℕ). exactly f p k j t r) (sym w.where_it_is)

    -- how many are due behind the boxes bs
    due : (c : ℕ) (bs : List (List ℕ)) → suc (length bs) ≤ c → (k : ℕ) × (c ≡ length bs + suc k)
    due zero bs l = absurd (omega arith)
    due (suc c) [] l = (c, (let e : suc c ≡ 0 + suc c = omega arith in e))
    due (suc c) (b ∷ bs) l = let x = due c bs (omega arith) in let y = x.1 in (x.0, omega arith)

    left_ended : (t : S) (r : List ℕ) → 1 ≤ length r → ended p t r ≡ refuse 8 p
    unfolding ended
    left_ended t [] l = absurd (omega arith)
    left_ended t (x ∷ r) l = refl

    pub broken_exactly : (c at : ℕ) (z : S) (s : List ℕ) (n q : ℕ) → ExactlyBreaks R B p at c z s n q → exactly f p c at z s ≡ refuse n q
    unfolding pick exactly
    broken_exactly c at z s n q (at_one bs l (step_breaks t b r w i x)) =
        let d = due c bs l in
        exactly_reached (suc d.0) c at z s bs t q (b ++ r) d.1 w ∙ exactly-box d.0 q t b r i
        ∙ refuse_bind _ n q (g.broken q t b n x) _
    broken_exactly c at z s n q (at_one bs l (no_box t r w y x e)) =
        let d = due c bs l in
        exactly_reached (suc d.0) c at z s bs t q r d.1 w ∙ exactly_stops d.0 q t r (bad-starts r x)
        ∙ ap (λ (c : Bool). pick c (refuse 8 p) (refuse 3 q)) (le-ltb (length r) 8 y)
        ∙ ap (λ (j : ℕ). refuse j q) (sym e)
    broken_exactly c at z s n q (too_few bs t e r w l y x k) =
        let d = due c bs l in
        exactly_reached (suc d.0) c at z s bs t e r d.1 w ∙ exactly_stops d.0 e t r (few_start r y)
        ∙ ap (λ (c : Bool). pick c (refuse 8 p) (refuse 3 e)) (lt-ltb (length r) 8 (omega arith))
        ∙ rw (x, k)
    broken_exactly c at z s n q (left_behind bs t e r w l y x k) =
        exactly_reached 0 c at z s bs t e r (omega arith) w ∙ left_ended t r y ∙ rw (x, k)
