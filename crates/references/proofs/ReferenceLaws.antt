-- One reference, one way out at a time. Assumes nothing.
use Prim.Native.Nat.{ℕ, ◌+◌, ◌<◌, ◌≤◌}
use native.Mathlib.Omega.{arith}
use mathlib.Core.Path.{◌≡◌, refl, ap, ◌∙◌}
use mathlib.Core.List.{List, [], ◌∷◌}
use mathlib.Core.Bool.{true, false, not, ◌&&◌, ◌||◌}
use lib.ListN.{length, drop}
use lib.Dec.{leb, eqb}
use Rattle.fields.specs.Field.{be_at}
use Rattle.fields.specs.Lists.{member}
use Rattle.boxes.specs.Answer.{Answer, ok, refuse}
use Rattle.boxes.specs.Answer as Ans
use Rattle.boxes.specs.Types.{dimg}
use Rattle.forms.specs.Form.{Form, Got, got, give, demand, many, finish, whole, ◌>>=◌, ◌>>◌}
use Rattle.forms.proofs.StepLaws.{passing, reads, over, whole_reads, reads_bind, reads_field, reads_short, reads_yes, reads_no}
use Rattle.contents.specs.Iref.{Reference, IrefContent, referring_by, targets_in, target_form, reference_form}
use Rattle.references.specs.inner.Steps.{targets_from}

-- a form and then a value made of what it gave, as all of a content
whole-give : {A B : Type 0} (f : Form A) (g : A → B) (p : ℕ) (r : List ℕ) →
    reads f p r (λ a t. reads (give (g a)) p t (over p)) ≡ Ans.◌>>=◌ (whole f p r) (λ a. ok (g a))
unfolding reads passing give whole finish over Ans.◌>>=◌
whole-give f g p r = go (f.read p r)
  where
    last : (v : _) (t : List ℕ) → over p (g v) t ≡ Ans.◌>>=◌ (finish p (got v t)) (λ a. ok (g a))
    last v [] = refl
    last v (x ∷ t) = refl

    go : (m : Answer (Got _)) → passing (λ a t. passing (over p) (got (g a) t)) m ≡ Ans.◌>>=◌ (finish p m) (λ a. ok (g a))
    go (ok x) = last x.value x.rest
    go (refuse n q) = refl

-- reference-form
module _ (ids : List ℕ) (w : ℕ) (kind : ℕ) (before : IrefContent) where
  -- what follows the count k of an item's targets
  unfoldable counted_form : ℕ → ℕ → Form Reference
  counted_form id k = do
    demand 10 (not (eqb kind dimg && eqb k 0))
    demand 9 (not (eqb kind dimg) || leb (targets_in before.derivations + k) 2048)
    ts ← many (target_form ids w) k []
    give (record { id = id; targets = ts })

  module _ (p : ℕ) (s : List ℕ) where
    pub source_cut : length s < w → whole (reference_form ids w kind before) p s ≡ refuse 8 p
    unfolding reference_form
    source_cut h = rw (whole_reads, reads_bind) (reads_short p s 0 w _ (omega arith) (omega arith))

    module _ (l : w ≤ length s) where
      pub source_unlisted : member (be_at s 0 w) ids ≡ false → whole (reference_form ids w kind before) p s ≡ refuse 11 p
      unfolding reference_form
      source_unlisted e = rw (whole_reads, reads_bind) (reads_field p s 0 w _ (omega arith) ∙ rw reads_bind (reads_no p (drop (0 + w) s) 11 _ _ e))

      module _ (listed : member (be_at s 0 w) ids ≡ true) where
        pub source_twice : member (be_at s 0 w) (referring_by kind before) ≡ true → whole (reference_form ids w kind before) p s ≡ refuse 10 p
        unfolding reference_form
        source_twice e =
            rw (whole_reads, reads_bind)
            (reads_field p s 0 w _ (omega arith)
            ∙ rw reads_bind (reads_yes p (drop (0 + w) s) 11 _ _ listed ∙ rw reads_bind (reads_no p (drop (0 + w) s) 10 _ _ (ap not e))))

        module _ (fresh : member (be_at s 0 w) (referring_by kind before) ≡ false) where
          pub count_cut : length s < w + 2 → whole (reference_form ids w kind before) p s ≡ refuse 8 p
          unfolding reference_form
          count_cut h =
              rw (whole_reads, reads_bind)
              (reads_field p s 0 w _ (omega arith)
              ∙ rw reads_bind
              (reads_yes p (drop (0 + w) s) 11 _ _ listed
              ∙ rw reads_bind (reads_yes p (drop (0 + w) s) 10 _ _ (ap not fresh) ∙ rw reads_bind (reads_short p s (0 + w) 2 _ (omega arith) (omega arith)))))

          counted : w + 2 ≤ length s → whole (reference_form ids w kind before) p s ≡ reads
              (counted_form (be_at s 0 w) (be_at s (0 + w) 2)) p (drop (0 + w + 2) s) (over p)
          unfolding reference_form counted_form
          counted h =
              rw (whole_reads, reads_bind)
              (reads_field p s 0 w _ (omega arith)
              ∙ rw reads_bind
              (reads_yes p (drop (0 + w) s) 11 _ _ listed
              ∙ rw reads_bind (reads_yes p (drop (0 + w) s) 10 _ _ (ap not fresh) ∙ rw reads_bind (reads_field p s (0 + w) 2 _ (omega arith)))))

          module _ (h : w + 2 ≤ length s) (k : ℕ) (e : k ≡ be_at s w 2) where
            behind : whole (reference_form ids w kind before) p s ≡ reads (counted_form (be_at s 0 w) k) p (drop (w + 2) s) (over p)
            behind = let z : 0 + w ≡ w = omega arith in counted h ∙ rw (z, e)

            pub count_none : (eqb kind dimg && eqb k 0) ≡ true → whole (reference_form ids w kind before) p s ≡ refuse 10 p
            unfolding counted_form
            count_none y = behind ∙ rw reads_bind (reads_no p (drop (w + 2) s) 10 _ _ (ap not y))

            module _ (some : (eqb kind dimg && eqb k 0) ≡ false) where
              pub count-over : (not (eqb kind dimg) || leb (targets_in before.derivations + k) 2048) ≡ false →
                  whole (reference_form ids w kind before) p s ≡ refuse 9 p
              unfolding counted_form
              count-over y = behind ∙ rw reads_bind (reads_yes p (drop (w + 2) s) 10 _ _ (ap not some) ∙ rw reads_bind (reads_no p (drop (w + 2) s) 9 _ _ y))

              pub count-targets : (not (eqb kind dimg) || leb (targets_in before.derivations + k) 2048) ≡ true
                  → whole (reference_form ids w kind before) p s ≡ Ans.◌>>=◌ (targets_from ids w k p s (w + 2))
                  (λ ts. ok (record { id = be_at s 0 w; targets = ts }))
              unfolding counted_form
              count-targets y =
                  behind
                  ∙ rw reads_bind
                  (reads_yes p (drop (w + 2) s) 10 _ _ (ap not some)
                  ∙ rw reads_bind (reads_yes p (drop (w + 2) s) 9 _ _ y ∙ rw reads_bind (whole-give (many (target_form ids w) k []) _ p (drop (w + 2) s))))
