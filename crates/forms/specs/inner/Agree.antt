-- That the meanings of each line agree: the proofs which the forms carry. Nobody has to read them. Assumes nothing.
use Rattle.std.specs.Prelude.{ℕ, ◌≤◌, ◌<◌, ◌≡◌, refl, Bool, true, false, length, take, drop, leb}
use Rattle.std.proofs.Common.{arith, sym, ap, ◌∙◌, length-append, length-take, take-append-drop, drop_at, leb-true, leb-false, le-leb}
use mathlib.Core.List.{List, [], ◌++◌, append_assoc}
use Rattle.std.proofs.lemmas.Bool.{lt-leb}
use Rattle.fields.specs.Field.{be_at}
use Rattle.fields.proofs.FieldLaws.{be_front}
use Rattle.boxes.specs.Answer.{Answer, ok, refuse}
use Rattle.boxes.proofs.AnswerLaws.{refuse-same, not-refused}
use Rattle.forms.specs.Meaning.{Got, Form, got, demand_of, field_by, onto, Joined, EitherBreaks, first_breaks, then_breaks}

-- what an equation of answers says
module _ {A : Type 0} where
  pub got-value : (v w : A) (t r : List ℕ) → got v t ≡ got w r → v ≡ w
  got-value v w t r e = let q : ◌≡◌ {A = Got A} (record { value = v; rest = t }) (record { value = w; rest = r }) = cc in ap (λ (g : Got A). g.value) q

  pub got-rest : (v w : A) (t r : List ℕ) → got v t ≡ got w r → t ≡ r
  got-rest v w t r e = let q : ◌≡◌ {A = Got A} (record { value = v; rest = t }) (record { value = w; rest = r }) = cc in ap (λ (g : Got A). g.rest) q

  pub never : {X : Type 0} (n p : ℕ) (w : A) (r : List ℕ) → refuse n p ≡ got w r → X
  never n p w r e = let z : ◌≡◌ {A = ℕ} 0 1 = cc in absurd (omega arith)

  -- give
  pub give-sound : (v : A) (s : List ℕ) (w : A) (t : List ℕ) → got v s ≡ got w t → (u : List ℕ) × (u ++ t ≡ s) × ((u ≡ []) × (w ≡ v))
  give-sound v s w t e = ([], sym (got-rest v w s t e), (refl, sym (got-value v w s t e)))

  pub give-complete : (v : A) (u : List ℕ) (w : A) (t : List ℕ) → (u ≡ []) × (w ≡ v) → got v (u ++ t) ≡ got w t
  give-complete v u w t h = rw (h.0, h.1)

-- demand
pub demand-sound : (c : Bool) (n p : ℕ) (s : List ℕ) (v : Unit {0}) (t : List ℕ) → demand_of c n p s ≡ got v t →
    (u : List ℕ) × (u ++ t ≡ s) × ((u ≡ []) × (c ≡ true))
unfolding demand_of
demand-sound true n p s v t e = ([], sym (got-rest tt v s t e), (refl, refl))
demand-sound false n p s v t e = never n p v t e

pub demand-complete : (c : Bool) (n p : ℕ) (u : List ℕ) (v : Unit {0}) (t : List ℕ) → (u ≡ []) × (c ≡ true) → demand_of c n p (u ++ t) ≡ got v t
unfolding demand_of
demand-complete c n p u v t h = rw (h.0, h.1)

pub demand_broken : (c : Bool) (n p : ℕ) (s : List ℕ) (k q : ℕ) → demand_of c n p s ≡ refuse k q → (q ≡ p) × ((c ≡ false) × (k ≡ n))
unfolding demand_of
demand_broken true n p s k q e = not-refused _ k q e
demand_broken false n p s k q e = let z = refuse-same n p k q e in (z.1, (refl, z.0))

pub broken_demand : (c : Bool) (n p : ℕ) (s : List ℕ) (k : ℕ) → (c ≡ false) × (k ≡ n) → demand_of c n p s ≡ refuse k p
unfolding demand_of
broken_demand c n p s k h = rw (h.0, h.1)

-- field
pub field-sound : (c : Bool) (n p : ℕ) (s : List ℕ) → leb n (length s) ≡ c → (v : ℕ) (t : List ℕ) →
    field_by c n p s ≡ got v t → (u : List ℕ) × (u ++ t ≡ s) × ((length u ≡ n) × (be_at u 0 n ≡ v))
unfolding field_by
field-sound true n p s q v t e =
    let l : n ≤ length s = leb-true n (length s) q in
    let k : length (take n s) ≡ n = rw length-take (omega arith) in (
      take n s,
      rw (← got-rest (be_at s 0 n) v (drop n s) t e) (take-append-drop n s),
      (
        k,
        sym (be_front (take n s) (drop n s) 0 n (omega arith)) ∙
            ap (λ (r : List ℕ). be_at r 0 n) (take-append-drop n s) ∙ got-value (be_at s 0 n) v (drop n s) t e,
      ),
    )
field-sound false n p s q v t e = never 8 p v t e

pub field-complete : (n p : ℕ) (u : List ℕ) (v : ℕ) (t : List ℕ) → (length u ≡ n) × (be_at u 0 n ≡ v) →
    field_by (leb n (length (u ++ t))) n p (u ++ t) ≡ got v t
unfolding field_by
field-complete n p u v t h =
    rw (le-leb n (length (u ++ t)) (rw length-append (omega arith)), drop_at u t n h.0, be_front u t 0 n (omega arith), h.1)

pub field_broken : (c : Bool) (n p : ℕ) (s : List ℕ) → leb n (length s) ≡ c → (k q : ℕ) → field_by c n p s ≡ refuse k q →
    (q ≡ p) × ((length s < n) × (k ≡ 8))
unfolding field_by
field_broken true n p s l k q e = not-refused _ k q e
field_broken false n p s l k q e = let z = refuse-same 8 p k q e in (z.1, (leb-false n (length s) l, z.0))

pub broken_field : (n p : ℕ) (s : List ℕ) (k : ℕ) → (length s < n) × (k ≡ 8) → field_by (leb n (length s)) n p s ≡ refuse k p
unfolding field_by
broken_field n p s k h = rw (lt-leb n (length s) h.0, h.1)

-- _>>=_
module _ {A B : Type 0} (f : Form A) (g : A → Form B) where
  pub bind_sound : (p : ℕ) (s : List ℕ) (m : Answer (Got A)) → f.read p s ≡ m → (w : B) (t : List ℕ) →
      onto f g p m ≡ got w t → (u : List ℕ) × (u ++ t ≡ s) × Joined f g u w
  unfolding onto
  bind_sound p s (ok r) q w t e =
      let x = f.sound p s r.value r.rest q in
      let y = (g r.value).sound p r.rest w t e in
      (x.0 ++ y.0, rw (append_assoc, y.1) x.1, record { value = r.value; left = x.0; right = y.0; join = refl; first = x.2; then = y.2 })
  bind_sound p s (refuse n q) z w t e = never n q w t e

  pub bind_complete : (p : ℕ) (u : List ℕ) (w : B) (t : List ℕ) → Joined f g u w → onto f g p (f.read p (u ++ t)) ≡ got w t
  unfolding onto
  bind_complete p u w t j =
      rw (← j.join, append_assoc, f.complete p j.left j.value (j.right ++ t) j.first) ((g j.value).complete p j.right w t j.then)

  pub bind_broken : (p : ℕ) (s : List ℕ) (m : Answer (Got A)) → f.read p s ≡ m → (n q : ℕ) → onto f g p m ≡ refuse n q →
      (q ≡ p) × EitherBreaks f g n s
  unfolding onto
  bind_broken p s (ok r) z n q e =
      let x = f.sound p s r.value r.rest z in
      let y = (g r.value).breaks_sound p r.rest n q e in
      (y.0, then_breaks r.value x.0 r.rest x.1 x.2 y.1)
  bind_broken p s (refuse k l) z n q e =
      let i = refuse-same k l n q e in
      let y = f.breaks_sound p s n q (z ∙ rw (i.0, i.1)) in
      (y.0, first_breaks y.1)

  pub broken_bind : (p : ℕ) (s : List ℕ) (n : ℕ) → EitherBreaks f g n s → onto f g p (f.read p s) ≡ refuse n p
  unfolding onto
  broken_bind p s n (first_breaks h) = rw (f.breaks_complete p s n h)
  broken_bind p s n (then_breaks v l r j x h) = rw (← j, f.complete p l v r x) ((g v).breaks_complete p r n h)
