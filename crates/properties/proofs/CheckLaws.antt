-- The contents of the properties that must have a length, one way out at a time. Assumes nothing.
use Prim.Native.Nat.{ℕ, ◌+◌}
use native.Mathlib.Omega.{arith}
use native.Mathlib.Decide.{dec_le}
use mathlib.Core.Path.{◌≡◌, refl, sym, ◌∙◌}
use mathlib.Core.List.{List}
use mathlib.Core.Bool.{Bool, true, false}
use mathlib.Core.Logic.{◌⊎◌, inl, inr}
use lib.ListN.{length, drop}
use lib.Dec.{eqb}
use borrow.Author.Tests.{ne_eqb, eqb-true, eqb-false}
use Rattle.fields.specs.Choice.{pick}
use Rattle.boxes.specs.Answer.{ok, refuse}
use Rattle.boxes.specs.Types.{ispe, clap, irot, imir}
use Rattle.forms.specs.Form.{give, field, whole, ◌>>=◌}
use Rattle.forms.proofs.StepLaws.{reads, over, whole_reads, reads_got, reads_refused, reads_bind, reads_field, reads_short, reads_give, over-end, over-left}
use Rattle.contents.specs.Full.{full, upto}
use Rattle.contents.specs.Ipco.{ispe_form, bytes_form, good_content}
use Rattle.contents.specs.declared.Full as code
use Rattle.contents.proofs.FullLaws.{FullHere}

-- bytes-form
module _ (n p : ℕ) (s : List ℕ) where
  pub bytes_whole : length s ≡ n → whole (bytes_form n) p s ≡ ok tt
  unfolding bytes_form
  bytes_whole h = rw (whole_reads, reads_bind) (reads_field p s 0 n _ (omega arith) ∙ reads_give p (drop (0 + n) s) _ _ ∙ over-end p _ s (0 + n) (omega arith))

  pub bytes-other : (length s ≡ n → ⊥) → whole (bytes_form n) p s ≡ refuse 8 p
  unfolding bytes_form
  bytes-other h =
      rw (whole_reads, reads_bind)
      (elim (dec_le n (length s)) [
        | yes k ↦ reads_field p s 0 n _ (omega arith) ∙ reads_give p (drop (0 + n) s) _ _ ∙ over-left p _ s (0 + n) (omega (arith, h))
        | no k ↦ reads_short p s 0 n _ (omega arith) (omega (arith, k))
      ])

-- ispe-form
module _ (p : ℕ) (s : List ℕ) where
  pub ispe_gone : (n q : ℕ) → (full (upto 0)).read p s ≡ refuse n q → whole ispe_form p s ≡ refuse n q
  unfolding ispe_form
  ispe_gone n q e = rw (whole_reads, reads_bind) (reads_refused (full (upto 0)) p s _ n q e)

  -- behind version and flags
  module _ (v : code.Full) (h : FullHere (upto 0) p s v) where
    sizes-read : whole ispe_form p s ≡ reads (field 4 >>= (λ w. field 4 >>= (λ u. give tt))) p (drop 4 s) (over p)
    unfolding ispe_form
    sizes-read = rw (whole_reads, reads_bind) (reads_got (full (upto 0)) p s _ _ _ h.read)

    ispe-whole : length s ≡ 12 → whole ispe_form p s ≡ ok tt
    ispe-whole l =
        sizes-read
        ∙ rw reads_bind (reads_field p s 4 4 _ (omega arith)
        ∙ rw reads_bind (reads_field p s 8 4 _ (omega arith) ∙ reads_give p (drop 12 s) _ _ ∙ over-end p _ s 12 (omega arith)))

    ispe-other : (length s ≡ 12 → ⊥) → whole ispe_form p s ≡ refuse 8 p
    ispe-other l =
        sizes-read
        ∙ rw reads_bind (elim (dec_le 8 (length s)) [
          | no k ↦ reads_short p s 4 4 _ h.room (omega (arith, k))
          | yes k ↦ reads_field p s 4 4 _ k
              ∙ rw reads_bind (elim (dec_le 12 (length s)) [
                | no j ↦ reads_short p s 8 4 _ k (omega (arith, j))
                | yes j ↦ reads_field p s 8 4 _ j ∙ reads_give p (drop 12 s) _ _ ∙ over-left p _ s 12 (omega (arith, l))
              ])
        ])

    pub ispe-here : whole ispe_form p s ≡ whole (bytes_form 12) p s
    ispe-here = go (eqb (length s) 12) refl
      where
        go : (t : Bool) → eqb (length s) 12 ≡ t → whole ispe_form p s ≡ whole (bytes_form 12) p s
        go true q = let z = eqb-true (length s) 12 q in ispe-whole z ∙ sym (bytes_whole 12 p s z)
        go false q = let z = eqb-false (length s) 12 q in ispe-other z ∙ sym (bytes-other 12 p s z)

-- held
module _ (k p : ℕ) (s : List ℕ) where
  pub held-ispe : k ≡ ispe → good_content k p s ≡ whole ispe_form p s
  unfolding good_content pick
  held-ispe e = rw e

  pub held-clap : k ≡ clap → good_content k p s ≡ whole (bytes_form 32) p s
  unfolding good_content pick
  held-clap e = rw e

  pub held-turned : (k ≡ imir) ⊎ (k ≡ irot) → good_content k p s ≡ whole (bytes_form 1) p s
  unfolding good_content pick
  held-turned (inl e) = rw e
  held-turned (inr e) = rw e

  pub held-other : (k ≡ ispe → ⊥) → (k ≡ clap → ⊥) → (k ≡ irot → ⊥) → (k ≡ imir → ⊥) → good_content k p s ≡ ok tt
  unfolding good_content pick
  held-other a b c d = rw (ne_eqb k ispe a, ne_eqb k clap b, ne_eqb k irot c, ne_eqb k imir d)
