-- Reading version and flags, `hdlr` and `pitm`, one way out at a time. Assumes nothing.
use Prim.Native.Nat.{ℕ, ◌+◌, ◌≤◌, ◌<◌}
use native.Mathlib.Omega.{arith}
use mathlib.Core.Path.{◌≡◌, refl, sym, ap, subst, ◌∙◌}
use mathlib.Core.List.{List, ◌++◌, append-nil}
use mathlib.Core.Bool.{Bool, true, false}
use mathlib.Core.Logic.{◌⊎◌, inl, inr, ⊎_elim}
use native.Mathlib.Decide.{dec_le}
use lib.ListN.{length, drop, length-append}
use lib.Dec.{leb, eqb}
use borrow.Author.Tests.{eq-eqb, ne_eqb, le-leb, lt-leb}
use Rattle.fields.specs.Field.{be_at}
use Rattle.boxes.specs.Answer.{ok, refuse}
use Rattle.boxes.specs.Types.{pict}
use Rattle.forms.specs.Form.{got, give, demand, field, whole, front, ◌>>=◌}
use Rattle.forms.proofs.StepLaws.{
  reads,
  over,
  whole_reads,
  front_reads,
  read_reads,
  reads_got,
  reads_refused,
  reads_bind,
  reads_field,
  reads_short,
  reads_yes,
  reads_no,
  reads_give,
  over-end,
  over-left,
}
use Rattle.forms.proofs.SpellLaws.{give_out, demand_out, field-long, field_is, bind_out}
use Rattle.fields.proofs.FieldLaws.{be_front, be_past}
use Rattle.fields.proofs.TestLaws.{and_none}
use Rattle.contents.specs.Full.{Full, full, between, upto, id_bytes}
use Rattle.contents.specs.Hdlr.{hdlr_form}
use Rattle.contents.specs.Pitm.{pitm_form}
use Rattle.std.specs.Prelude.{Ok}
use Rattle.boxes.specs.Told.{told}
use Rattle.contents.specs.inner.Told.{full_of}
use Rattle.contents.specs.declared.Full as code

-- between
pub between-low : (a b v w : ℕ) → v ≡ w → v < a → between a b w ≡ false
between-low a b v w e h = rw (lt-leb a w (omega arith))

pub between-high : (a b v w : ℕ) → v ≡ w → b < v → between a b w ≡ false
between-high a b v w e h = rw (lt-leb w b (omega arith)) (and_none (leb a w) false refl)

pub between_in : (a b v w : ℕ) → v ≡ w → a ≤ v → v ≤ b → between a b w ≡ true
between_in a b v w e h k = rw (le-leb a w (omega arith), le-leb w b (omega arith))

-- full
module _ (a : ℕ → Bool) (p : ℕ) (s : List ℕ) where
  pub full_empty : length s < 1 → (full a).read p s ≡ refuse 8 p
  unfolding full
  full_empty h = rw (read_reads, reads_bind) (reads_short p s 0 1 _ (omega arith) (omega arith))

  module _ (l : 1 ≤ length s) where
    pub full-version : a (be_at s 0 1) ≡ false → (full a).read p s ≡ refuse 6 p
    unfolding full
    full-version e = rw (read_reads, reads_bind) (reads_field p s 0 1 _ (omega arith) ∙ rw reads_bind (reads_no p (drop 1 s) 6 _ _ e))

    pub full-cut : a (be_at s 0 1) ≡ true → length s < 4 → (full a).read p s ≡ refuse 8 p
    unfolding full
    full-cut e h =
        rw (read_reads, reads_bind)
        (reads_field p s 0 1 _ (omega arith)
        ∙ rw reads_bind (reads_yes p (drop 1 s) 6 _ _ e ∙ rw reads_bind (reads_short p s 1 3 _ (omega arith) (omega arith))))

  pub full_is : 4 ≤ length s → a (be_at s 0 1) ≡ true → (full a).read p s ≡ got (record { version = be_at s 0 1; flags = be_at s 1 3 }) (drop 4 s)
  unfolding full
  full_is h e =
      rw (read_reads, reads_bind)
      (reads_field p s 0 1 _ (omega arith)
      ∙ rw reads_bind (reads_yes p (drop 1 s) 6 _ _ e ∙ rw reads_bind (reads_field p s 1 3 _ (omega arith) ∙ reads_give p (drop 4 s) _ _)))

-- what the bytes are that spell it
pub full_out : (allowed : ℕ → Bool) (l : List ℕ) (v : Full) → (full allowed).Spells l v →
    (length l ≡ 4) × (v.version ≡ be_at l 0 1) × (v.flags ≡ be_at l 1 3)
unfolding full
full_out allowed l v h =
    let j = bind_out _ _ l v h in
    let c = demand_out 6 _ _ j.right v j.then in
    let k = bind_out _ _ j.right v c.1 in
    let g = give_out _ v k.right k.then in
    let z : k.left ≡ j.right = sym (append-nil k.left) ∙ ap (λ (r : List ℕ). k.left ++ r) (sym g.0) ∙ k.join in
    let e : j.left ++ k.left ≡ l = ap (λ (r : List ℕ). j.left ++ r) z ∙ j.join in
    let x = field-long 1 j.left j.value j.first in
    let y = field-long 3 k.left k.value k.first in (
      ap length (sym e) ∙ length-append j.left k.left ∙ (let x = x in omega (arith, x, y)),
      ap (λ (a : Full). a.version) g.1 ∙ sym (field_is 1 j.left j.value j.first)
          ∙ sym (be_front j.left k.left 0 1 (omega (arith, x))) ∙ ap (λ (r : List ℕ). be_at r 0 1) e,
      ap (λ (a : Full). a.flags) g.1 ∙ sym (field_is 3 k.left k.value k.first)
          ∙ sym (be_past j.left k.left 1 0 3 x) ∙ ap (λ (r : List ℕ). be_at r 1 3) e,
    )

-- What the code's value says of the bytes.
pub record FullHere (a : ℕ → Bool) (p : ℕ) (s : List ℕ) (h : code.Full) : Type 0 where
  pub room : 4 ≤ length s
  pub version : h.version ≡ be_at s 0 1
  pub flags : h.flags ≡ be_at s 1 3
  pub allowed : a h.version ≡ true
  pub read : (full a).read p s ≡ got (record { version = h.version; flags = h.flags }) (drop 4 s)

module _ (a : ℕ → Bool) (p : ℕ) (s : List ℕ) where
  by_length : (h : code.Full) → 4 ≤ length s → (c : Bool) → a (be_at s 0 1) ≡ c → told full_of ((full a).read p s) ≡ Ok h → FullHere a p s h
  unfolding told
  by_length h l true e k =
      let g = full_is a p s l e in
      let i : record { version = be_at s 0 1; flags = be_at s 1 3 } ≡ h = cc in
      subst (λ (x : code.Full). FullHere a p s x) i (record { room = l; version = refl; flags = refl; allowed = e; read = g })
  by_length h l false e k = cc (full-version a p s (omega arith) e)

  short : (h : code.Full) → length s < 4 → (c : Bool) → a (be_at s 0 1) ≡ c → 1 ≤ length s → told full_of ((full a).read p s) ≡ Ok h → FullHere a p s h
  unfolding told
  short h l true e k t = cc (ap (told full_of) (full-cut a p s k e l))
  short h l false e k t = cc (ap (told full_of) (full-version a p s k e))

  pub full-here : (h : code.Full) → told full_of ((full a).read p s) ≡ Ok h → FullHere a p s h
  unfolding told
  full-here h t =
      ⊎_elim (λ l. by_length h l (a (be_at s 0 1)) refl t)
      (λ l. ⊎_elim (λ k. short h l (a (be_at s 0 1)) refl k t) (λ k. cc (ap (told full_of) (full_empty a p s k))) (at_least 1 (length s)))
      (at_least 4 (length s))
    where
      at_least : (m n : ℕ) → (m ≤ n) ⊎ (n < m)
      at_least m n = elim (dec_le m n) [ yes l ↦ inl l | no q ↦ inr (omega (arith, q)) ]

-- hdlr-form
module _ (p : ℕ) (s : List ℕ) where
  pub hdlr_gone : (n q : ℕ) → (full (upto 0)).read p s ≡ refuse n q → front hdlr_form p s ≡ refuse n q
  unfolding hdlr_form
  hdlr_gone n q e = rw (front_reads, reads_bind) (reads_refused (full (upto 0)) p s _ n q e)

  module _ (v : code.Full) (h : FullHere (upto 0) p s v) where
    pub hdlr-short : length s < 12 → front hdlr_form p s ≡ refuse 8 p
    unfolding hdlr_form
    hdlr-short l =
        rw (front_reads, reads_bind)
        (reads_got (full (upto 0)) p s _ _ _ h.read
        ∙ rw reads_bind (⊎_elim (λ k. reads_short p s 4 4 _ h.room k)
        (λ k. reads_field p s 4 4 _ k ∙ rw reads_bind (reads_short p s 8 4 _ k l)) (before 8 (length s))))
      where
        before : (m n : ℕ) → (n < m) ⊎ (m ≤ n)
        before m n = elim (dec_le m n) [ yes l ↦ inr l | no q ↦ inl (omega (arith, q)) ]

    type-read : 12 ≤ length s → front hdlr_form p s ≡ reads (demand 10 (eqb (be_at s 8 4) pict)) p (drop 12 s) (λ v r. ok v)
    unfolding hdlr_form
    type-read l =
        rw (front_reads, reads_bind)
        (reads_got (full (upto 0)) p s _ _ _ h.read
        ∙ rw reads_bind (reads_field p s 4 4 _ (omega arith) ∙ rw reads_bind (reads_field p s 8 4 _ (omega arith))))

    pub hdlr-pict : 12 ≤ length s → be_at s 8 4 ≡ pict → front hdlr_form p s ≡ ok tt
    hdlr-pict l e = type-read l ∙ reads_yes p (drop 12 s) 10 _ _ (eq-eqb _ _ e)

    pub hdlr-other : 12 ≤ length s → (be_at s 8 4 ≡ pict → ⊥) → front hdlr_form p s ≡ refuse 10 p
    hdlr-other l e = type-read l ∙ reads_no p (drop 12 s) 10 _ _ (ne_eqb _ _ e)

  -- pitm-form
  pub pitm_gone : (n q : ℕ) → (full (upto 1)).read p s ≡ refuse n q → whole pitm_form p s ≡ refuse n q
  unfolding pitm_form
  pitm_gone n q e = rw (whole_reads, reads_bind) (reads_refused (full (upto 1)) p s _ n q e)

  module _ (v : code.Full) (h : FullHere (upto 1) p s v) (w : ℕ) (width : id_bytes v.version ≡ w) where
    id-read : whole pitm_form p s ≡ reads (field w >>= (λ x. give x)) p (drop 4 s) (over p)
    unfolding pitm_form
    id-read = rw (whole_reads, reads_bind) (reads_got (full (upto 1)) p s _ _ _ h.read ∙ rw width)

    pub pitm-is : length s ≡ 4 + w → whole pitm_form p s ≡ ok (be_at s 4 w)
    pitm-is l = id-read ∙ rw reads_bind (reads_field p s 4 w _ (omega arith) ∙ reads_give p (drop (4 + w) s) _ _ ∙ over-end p _ s (4 + w) (omega arith))

    pub pitm-not : (length s ≡ 4 + w → ⊥) → whole pitm_form p s ≡ refuse 8 p
    pitm-not l =
        id-read
        ∙ rw reads_bind (elim (dec_le (4 + w) (length s)) [
          | yes k ↦ reads_field p s 4 w _ k ∙ reads_give p (drop (4 + w) s) _ _ ∙ over-left p _ s (4 + w) (omega (arith, l))
          | no k ↦ reads_short p s 4 w _ h.room (omega (arith, k))
        ])
