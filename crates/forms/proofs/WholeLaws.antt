-- A content is read by `whole` and `front` exactly where it is spelled, and refused exactly where it is broken, whatever
-- the place. Assumes nothing.
use Prim.Native.Nat.{ℕ}
use native.Mathlib.Omega.{arith}
use mathlib.Core.Path.{◌≡◌, refl, sym, ap, ◌∙◌, subst}
use mathlib.Core.List.{List, [], ◌∷◌, append-nil}
use Rattle.boxes.specs.Answer.{Answer, ok, refuse}
use Rattle.boxes.proofs.AnswerLaws.{refuse-same, not-refused}
use Rattle.forms.specs.Form.{Form, Got, got, finish, whole, WholeBreaks, line_breaks, left_over, value_of, front, Fronts}

module _ {A : Type 0} (f : Form A) where
  finish-ok : (p : ℕ) (s : List ℕ) (v w : A) (t : List ℕ) → f.read p s ≡ got w t → finish p (got w t) ≡ ok v → f.Spells s v
  unfolding finish
  finish-ok p s v w [] q e =
      let x = f.sound p s w [] q in
      let k : w ≡ v = cc in
      subst (λ (a : A). f.Spells s a) k (subst (λ (r : List ℕ). f.Spells r w) (sym (append-nil x.0) ∙ x.1) x.2)
  finish-ok p s v w (y ∷ t) q e = let z : ◌≡◌ {A = ℕ} 0 1 = cc in absurd (omega arith)

  whole-at : (p : ℕ) (s : List ℕ) (v : A) (m : Answer (Got A)) → f.read p s ≡ m → finish p m ≡ ok v → f.Spells s v
  unfolding finish
  whole-at p s v (ok r) q e = finish-ok p s v r.value r.rest q e
  whole-at p s v (refuse n k) q e = let z : ◌≡◌ {A = ℕ} 0 1 = cc in absurd (omega arith)

  -- a value is read exactly where it is spelled, whatever the place
  pub whole-sound : (p : ℕ) (s : List ℕ) (v : A) → whole f p s ≡ ok v → f.Spells s v
  unfolding whole
  whole-sound p s v e = whole-at p s v (f.read p s) refl e

  pub whole-complete : (p : ℕ) (s : List ℕ) (v : A) → f.Spells s v → whole f p s ≡ ok v
  unfolding whole finish
  whole-complete p s v h = ap (λ (r : List ℕ). finish p (f.read p r)) (sym (append-nil s)) ∙ ap (finish p) (f.complete p s v [] h)

  -- and refused exactly where it is broken
  finish_broken : (p : ℕ) (s : List ℕ) (w : A) (t : List ℕ) (n q : ℕ) → f.read p s ≡ got w t → finish p (got w t) ≡ refuse n q →
      (q ≡ p) × WholeBreaks f n s
  unfolding finish
  finish_broken p s w [] n q z e = not-refused w n q e
  finish_broken p s w (x ∷ t) n q z e =
      let i = refuse-same 8 p n q e in
      let h = f.sound p s w (x ∷ t) z in
      (i.1, left_over w h.0 (x ∷ t) h.1 h.2 (λ c. let y : ◌≡◌ {A = ℕ} 0 1 = cc in absurd (omega arith)) i.0)

  whole_broken_at : (p : ℕ) (s : List ℕ) (n q : ℕ) (m : Answer (Got A)) → f.read p s ≡ m → finish p m ≡ refuse n q →
      (q ≡ p) × WholeBreaks f n s
  unfolding finish
  whole_broken_at p s n q (ok r) z e = finish_broken p s r.value r.rest n q z e
  whole_broken_at p s n q (refuse k l) z e =
      let i = refuse-same k l n q e in
      let h = f.breaks_sound p s n q (z ∙ rw (i.0, i.1)) in
      (h.0, line_breaks h.1)

  pub whole_broken : (p : ℕ) (s : List ℕ) (n q : ℕ) → whole f p s ≡ refuse n q → (q ≡ p) × WholeBreaks f n s
  unfolding whole
  whole_broken p s n q e = whole_broken_at p s n q (f.read p s) refl e

  some_left : (p : ℕ) (v : A) (t : List ℕ) → (t ≡ [] → ⊥) → finish p (got v t) ≡ refuse 8 p
  unfolding finish
  some_left p v [] h = absurd (h refl)
  some_left p v (x ∷ t) h = refl

  pub broken_whole : (p : ℕ) (s : List ℕ) (n : ℕ) → WholeBreaks f n s → whole f p s ≡ refuse n p
  unfolding whole finish
  broken_whole p s n (line_breaks h) = ap (finish p) (f.breaks_complete p s n h)
  broken_whole p s n (left_over v u t j h r e) = rw (← j, e, f.complete p u v t h) (some_left p v t r)

module _ {A : Type 0} (f : Form A) where
  front_at : (p : ℕ) (s : List ℕ) (v : A) (m : Answer (Got A)) → f.read p s ≡ m → value_of m ≡ ok v → Fronts f s v
  unfolding value_of
  front_at p s v (ok r) q e =
      let x = f.sound p s r.value r.rest q in
      let k : r.value ≡ v = cc in
      record { part = x.0; behind = r.rest; joined = x.1; spells = subst (λ (a : A). f.Spells x.0 a) k x.2 }
  front_at p s v (refuse n k) q e = let z : ◌≡◌ {A = ℕ} 0 1 = cc in absurd (omega arith)

  pub front-sound : (p : ℕ) (s : List ℕ) (v : A) → front f p s ≡ ok v → Fronts f s v
  unfolding front
  front-sound p s v e = front_at p s v (f.read p s) refl e

  pub front-complete : (p : ℕ) (s : List ℕ) (v : A) → Fronts f s v → front f p s ≡ ok v
  unfolding front value_of
  front-complete p s v h = rw (← h.joined, f.complete p h.part v h.behind h.spells)

  front_broken_at : (p : ℕ) (s : List ℕ) (n q : ℕ) (m : Answer (Got A)) → f.read p s ≡ m → value_of m ≡ refuse n q →
      (q ≡ p) × f.Breaks n s
  unfolding value_of
  front_broken_at p s n q (ok r) z e = not-refused _ n q e
  front_broken_at p s n q (refuse k l) z e = let i = refuse-same k l n q e in f.breaks_sound p s n q (z ∙ rw (i.0, i.1))

  pub front_broken : (p : ℕ) (s : List ℕ) (n q : ℕ) → front f p s ≡ refuse n q → (q ≡ p) × f.Breaks n s
  unfolding front
  front_broken p s n q e = front_broken_at p s n q (f.read p s) refl e

  pub broken_front : (p : ℕ) (s : List ℕ) (n : ℕ) → f.Breaks n s → front f p s ≡ refuse n p
  unfolding front value_of
  broken_front p s n h = ap value_of (f.breaks_complete p s n h)
