-- Reading the fields of an `infe` and the count of an `iinf`, one way out at a time. Assumes nothing.
use Prim.Native.Nat.{ℕ, ◌+◌, ◌%◌, ◌≤◌, ◌<◌}
use native.Mathlib.Omega.{arith}
use native.Mathlib.Decide.{dec_le}
use mathlib.Core.Path.{◌≡◌, ap, ◌∙◌}
use mathlib.Core.List.{List}
use mathlib.Core.Bool.{true, false, not}
use lib.ListN.{length, drop}
use lib.Dec.{leb, eqb}
use borrow.Author.Tests.{le-leb, lt-leb}
use Rattle.fields.specs.Choice.{pick}
use Rattle.fields.specs.Field.{be_at}
use Rattle.fields.specs.Lists.{member}
use Rattle.boxes.specs.Answer.{ok, refuse}
use Rattle.forms.specs.Form.{Form, got, give, demand, field, front, ◌>>=◌, ◌>>◌}
use Rattle.forms.proofs.StepLaws.{
  reads,
  front_reads,
  read_reads,
  reads_got,
  reads_refused,
  reads_bind,
  reads_field,
  reads_short,
  reads_yes,
  reads_no,
  reads_give,
}
use Rattle.contents.specs.Full.{Full, full, between, upto, id_bytes}
use Rattle.contents.specs.Iinf.{Item, ids_of, infe_form, iinf-count}

-- infe-form
module _ (before : List Item) (p : ℕ) (s : List ℕ) where
  pub infe_gone : (n q : ℕ) → (full (between 2 3)).read p s ≡ refuse n q → front (infe_form before) p s ≡ refuse n q
  unfolding infe_form
  infe_gone n q e = rw (front_reads, reads_bind) (reads_refused (full (between 2 3)) p s _ n q e)

  module _ (v f w : ℕ) (room : 4 ≤ length s) (h : (full (between 2 3)).read p s ≡ got (record { version = v; flags = f })
      (drop 4 s)) (width : pick (eqb v 2) 2 4 ≡ w) where
    abbrev after_id : ℕ → Form Item
    after_id id = field 2 >>= (λ x. field 4 >>= (λ t. give (record { id = id; type = t; protection = x; hidden = f % 2 })))

    id-read : front (infe_form before) p s ≡ reads (field w >>= (λ id. demand 10 (not (member id (ids_of before))) >> after_id id)) p (drop 4 s) (λ i r. ok i)
    unfolding infe_form
    id-read = rw (front_reads, reads_bind) (reads_got (full (between 2 3)) p s _ _ _ h ∙ rw width)

    pub infe-short : length s < 4 + w → front (infe_form before) p s ≡ refuse 8 p
    infe-short l = id-read ∙ rw reads_bind (reads_short p s 4 w _ room l)

    module _ (l : 4 + w ≤ length s) where
      pub infe_taken : member (be_at s 4 w) (ids_of before) ≡ true → front (infe_form before) p s ≡ refuse 10 p
      infe_taken e = id-read ∙ rw reads_bind (reads_field p s 4 w _ l ∙ rw reads_bind (reads_no p (drop (4 + w) s) 10 _ _ (ap not e)))

      module _ (e : member (be_at s 4 w) (ids_of before) ≡ false) where
        rest_read : front (infe_form before) p s ≡ reads (after_id (be_at s 4 w)) p (drop (4 + w) s) (λ i r. ok i)
        rest_read = id-read ∙ rw reads_bind (reads_field p s 4 w _ l ∙ rw reads_bind (reads_yes p (drop (4 + w) s) 10 _ _ (ap not e)))

        pub infe-cut : length s < 10 + w → front (infe_form before) p s ≡ refuse 8 p
        infe-cut k =
            rest_read
            ∙ rw reads_bind (elim (dec_le (4 + w + 2) (length s)) [
              | yes m ↦ reads_field p s (4 + w) 2 _ m ∙ rw reads_bind (reads_short p s (4 + w + 2) 4 _ m (omega arith))
              | no m ↦ reads_short p s (4 + w) 2 _ l (omega (arith, m))
            ])

        pub infe-is : 10 + w ≤ length s → front (infe_form before) p s ≡ ok
            (record { id = be_at s 4 w; type = be_at s (6 + w) 4; protection = be_at s (4 + w) 2; hidden = f % 2 })
        infe-is k =
            let z : 4 + w + 2 ≡ 6 + w = omega arith in
            rest_read
            ∙ rw reads_bind
            (reads_field p s (4 + w) 2 _ (omega arith)
            ∙ rw reads_bind (reads_field p s (4 + w + 2) 4 _ (omega arith) ∙ reads_give p _ _ _ ∙ rw z))

-- iinf-count
module _ (p : ℕ) (s : List ℕ) where
  pub count_gone : (n q : ℕ) → (full (upto 1)).read p s ≡ refuse n q → iinf-count.read p s ≡ refuse n q
  unfolding iinf-count
  count_gone n q e = rw (read_reads, reads_bind) (reads_refused (full (upto 1)) p s _ n q e)

  module _ (h : Full) (w : ℕ) (room : 4 ≤ length s) (e : (full (upto 1)).read p s ≡ got h (drop 4 s)) (width : id_bytes h.version ≡ w) where
    count-read : iinf-count.read p s ≡ reads (field w >>= (λ n. demand 9 (leb n 256) >> give n)) p (drop 4 s) (λ n r. got n r)
    unfolding iinf-count
    count-read = rw (read_reads, reads_bind) (reads_got (full (upto 1)) p s _ _ _ e ∙ rw width)

    pub count-short : length s < 4 + w → iinf-count.read p s ≡ refuse 8 p
    count-short l = count-read ∙ rw reads_bind (reads_short p s 4 w _ room l)

    module _ (l : 4 + w ≤ length s) (n : ℕ) (i : n ≡ be_at s 4 w) where
      pub count-many : 256 < n → iinf-count.read p s ≡ refuse 9 p
      count-many k = count-read ∙ rw reads_bind (reads_field p s 4 w _ l ∙ rw (reads_bind, ← i) (reads_no p (drop (4 + w) s) 9 _ _ (lt-leb n 256 k)))

      pub count-is : n ≤ 256 → iinf-count.read p s ≡ got n (drop (4 + w) s)
      count-is k =
          count-read
          ∙ rw reads_bind
          (reads_field p s 4 w _ l ∙ rw (reads_bind, ← i) (reads_yes p (drop (4 + w) s) 9 _ _ (le-leb n 256 k) ∙ reads_give p (drop (4 + w) s) _ _))
