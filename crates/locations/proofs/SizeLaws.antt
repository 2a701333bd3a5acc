-- What stands before the entries of an `iloc`, one way out at a time. Assumes nothing.
use Prim.Native.Nat.{ℕ, ◌+◌, ◌-◌, ◌/◌, ◌%◌, ◌<◌, ◌≤◌}
use native.Mathlib.Omega.{arith}
use mathlib.Core.Path.{◌≡◌, refl, sym, ap, ◌∙◌, subst}
use mathlib.Core.List.{List, []}
use mathlib.Core.Bool.{Bool, true, false, ◌&&◌, ◌||◌}
use mathlib.Core.Logic.{◌⊎◌, inl, inr, ⊎_elim}
use lib.ListN.{length, drop}
use Rattle.std.specs.Prelude.{Result}
use lib.Dec.{eqb}
use borrow.Author.Tests.{eqb-true, le-leb, lt-leb}
use Rattle.fields.specs.Choice.{pick}
use Rattle.fields.specs.Field.{be_at}
use Rattle.fields.proofs.TestLaws.{and_both, or_either}
use Rattle.boxes.specs.Answer.{Answer, refuse}
use Rattle.boxes.specs.declared.Refusal.{Refusal}
use Rattle.forms.specs.Form.{Got, demand, field, many, whole}
use Rattle.forms.proofs.StepLaws.{
  reads,
  over,
  whole_reads,
  read_reads,
  reads_got,
  reads_refused,
  reads_bind,
  reads_field,
  reads_short,
  reads_yes,
  reads_no,
  reads_give,
}
use Rattle.contents.specs.Full.{full, upto}
use Rattle.contents.specs.declared.Full as code
use Rattle.contents.specs.Iloc.{field_size, iloc_form, entry_form}
use Rattle.contents.proofs.FullLaws.{FullHere}
use Rattle.locations.specs.declared.Widths.{Widths}
use Rattle.locations.specs.inner.Parts.{widths_by, Size, GoodWidths, Front, count_form, sizes_form, entry_by, SizesHere, SizesAre}
use Rattle.locations.specs.declared.Sizes.{Sizes}

-- an ID of 4 bytes
pub four_wide : (w : Widths) → GoodWidths w → (w.id ≡ 2 → ⊥) → w.id ≡ 4
four_wide w z h = ⊎_elim (λ e. absurd (h e)) (λ e. e) z.id

-- field_size
size_is : (n : ℕ) → field_size n ≡ true → Size n
size_is n e = first (or_either (eqb n 0) _ e)
  where
    last : (eqb n 4 ≡ true) ⊎ (eqb n 8 ≡ true) → Size n
    last (inl q) = inr (inl (eqb-true n 4 q))
    last (inr q) = inr (inr (eqb-true n 8 q))

    first : (eqb n 0 ≡ true) ⊎ ((eqb n 4 || eqb n 8) ≡ true) → Size n
    first (inl q) = inl (eqb-true n 0 q)
    first (inr q) = last (or_either (eqb n 4) (eqb n 8) q)

-- the index size is not asked in version 0, where there is none
index-asked : (v b : ℕ) → field_size (pick (eqb v 0) 0 (b % 16)) ≡ (eqb v 0 || field_size (b % 16))
unfolding pick
index-asked v b = go (eqb v 0)
  where
    go : (t : Bool) → field_size (pick t 0 (b % 16)) ≡ (t || field_size (b % 16))
    go true = refl
    go false = refl

-- _&&_
and_either : (a b : Bool) → (a && b) ≡ false → (a ≡ false) ⊎ (b ≡ false)
and_either true b e = inr e
and_either false b e = inl refl

-- widths_by
widths-sized : (v a b : ℕ) → (field_size (a / 16) && field_size (a % 16)) ≡ true →
    (field_size (b / 16) && field_size (pick (eqb v 0) 0 (b % 16))) ≡ true → GoodWidths (widths_by v a b)
unfolding pick
widths-sized v a b e f =
    let x = and_both (field_size (a / 16)) _ e in
    let y = and_both (field_size (b / 16)) _ f in
    record {
      id = four (eqb v 2);
      method = two (eqb v 0);
      offset = size_is _ x.0;
      length = size_is _ x.1;
      base =
          size_is _ y.0;
      index = size_is _ y.1;
    }
  where
    four : (t : Bool) → (◌≡◌ {A = ℕ} (pick t 4 2) 2) ⊎ (◌≡◌ {A = ℕ} (pick t 4 2) 4)
    four true = inr refl
    four false = inl refl

    two : (t : Bool) → (◌≡◌ {A = ℕ} (pick t 0 2) 0) ⊎ (◌≡◌ {A = ℕ} (pick t 0 2) 2)
    two true = inl refl
    two false = inr refl

-- two demands by one number
both_demands : {B : Type 0} (c d : Bool) (n p : ℕ) (r : List ℕ) (k : Unit {0} → List ℕ → Answer B) → (c && d) ≡ false →
    reads (demand n c) p r (λ u t. reads (demand n d) p t k) ≡ refuse n p
both_demands c d n p r k e = go (and_either c d e) c refl
  where
    go : (c ≡ false) ⊎ (d ≡ false) → (b : Bool) → c ≡ b → reads (demand n c) p r (λ u t. reads (demand n d) p t k) ≡ refuse n p
    go (inl q) b z = reads_no p r n c _ q
    go (inr q) true z = reads_yes p r n c _ z ∙ reads_no p r n d k q
    go (inr q) false z = reads_no p r n c _ z

-- count-form
module _ (w : Widths) (p : ℕ) (s : List ℕ) (h : 6 ≤ length s) where
  pub count-short : length s - 6 < w.id → (count_form w).read p (drop 6 s) ≡ refuse 8 p
  unfolding count_form
  count-short l = rw (read_reads, reads_bind) (reads_short p s 6 w.id _ h (omega arith))

  module _ (l : w.id ≤ length s - 6) (n : ℕ) (e : n ≡ be_at s 6 w.id) where
    pub count-many : 256 < n → (count_form w).read p (drop 6 s) ≡ refuse 9 p
    unfolding count_form
    count-many m =
        rw (read_reads, reads_bind) (reads_field p s 6 w.id _ (omega arith) ∙ rw (← e, reads_bind) (reads_no p (drop (6 + w.id) s) 9 _ _ (lt-leb _ _ m)))

    pub count-here : GoodWidths w → n ≤ 256 → SizesHere ((count_form w).read p (drop 6 s)) s w n
    unfolding count_form
    count-here z m =
        record {
          room = omega arith;
          sized = z;
          read =
              rw (read_reads, reads_bind)
              (reads_field p s 6 w.id _ (omega arith)
              ∙ rw (← e, reads_bind) (reads_yes p (drop (6 + w.id) s) 9 _ _ (le-leb _ _ m) ∙ reads_give p (drop (6 + w.id) s) _ _));
        }

-- sizes-form
module _ (v p : ℕ) (s : List ℕ) (h : 4 ≤ length s) where
  pub sizes-short : length s < 5 → (sizes_form v).read p (drop 4 s) ≡ refuse 8 p
  unfolding sizes_form
  sizes-short l = rw (read_reads, reads_bind) (reads_short p s 4 1 _ h (omega arith))

  module _ (a : ℕ) (ea : a ≡ be_at s 4 1) (l : 5 ≤ length s) where
    pub sizes-first : (field_size (a / 16) && field_size (a % 16)) ≡ false → (sizes_form v).read p (drop 4 s) ≡ refuse 10 p
    unfolding sizes_form
    sizes-first e =
        rw (read_reads, reads_bind)
        (reads_field p s 4 1 _ (omega arith) ∙ rw (← ea) (simp reads_bind (both_demands (field_size (a / 16)) (field_size (a % 16)) 10 p (drop 5 s) _ e)))

    module _ (e : (field_size (a / 16) && field_size (a % 16)) ≡ true) where
      second : {B : Type 0} (k : Front → List ℕ → Answer B)
          → reads (sizes_form v) p (drop 4 s) k
          ≡ reads (field 1) p (drop 5 s) (λ b r. reads (demand 10 (field_size (b / 16))) p r
          (λ u t. reads (demand 10 (eqb v 0 || field_size (b % 16))) p t
          (λ u q. reads (count_form (widths_by v a b)) p q k)))
      unfolding sizes_form
      second k =
          let x = and_both (field_size (a / 16)) _ e in
          rw reads_bind
          (reads_field p s 4 1 _ (omega arith)
          ∙ rw (← ea) (simp reads_bind (reads_yes p (drop 5 s) 10 _ _ x.0 ∙ reads_yes p (drop 5 s) 10 _ _ x.1)))

      pub sizes-cut : length s < 6 → (sizes_form v).read p (drop 4 s) ≡ refuse 8 p
      sizes-cut m = rw read_reads (second _ ∙ reads_short p s 5 1 _ l (omega arith))

      module _ (b : ℕ) (eb : b ≡ be_at s 5 1) (m : 6 ≤ length s) (w : Widths) (ew : w ≡ widths_by v a b) where
        pub sizes-second : (field_size w.base && field_size w.index) ≡ false → (sizes_form v).read p (drop 4 s) ≡ refuse 10 p
        sizes-second f =
            rw read_reads
            (second _
            ∙ reads_field p s 5 1 _ (omega arith)
            ∙ rw (← eb) (both_demands (field_size (b / 16)) (eqb v 0 || field_size (b % 16)) 10 p (drop 6 s) _ (rw (ew, index-asked) at f)))

        module _ (f : (field_size w.base && field_size w.index) ≡ true) where
          count-read : (sizes_form v).read p (drop 4 s) ≡ (count_form w).read p (drop 6 s)
          count-read =
              let y = and_both (field_size (b / 16)) _ (rw (ew, index-asked) at f) in
              rw (read_reads (sizes_form v), ew)
              (second _
              ∙ reads_field p s 5 1 _ (omega arith)
              ∙ rw (← eb) (reads_yes p (drop 6 s) 10 _ _ y.0 ∙ reads_yes p (drop 6 s) 10 _ _ y.1 ∙
              sym (read_reads (count_form (widths_by v a b)) p (drop 6 s))))

          pub sizes-count : (o : Result Sizes Refusal) → SizesAre ((count_form w).read p (drop 6 s)) s o → SizesAre ((sizes_form v).read p (drop 4 s)) s o
          sizes-count o h = subst (λ (x : Answer (Got Front)). SizesAre x s o) (sym count-read) h

          pub sizes-sized : GoodWidths w
          sizes-sized = rw ew (widths-sized v a b e (rw ew at f))

-- iloc-form: the front, and then the entries
module _ (ids : List ℕ) (p : ℕ) (s : List ℕ) where
  iloc_parts : whole (iloc_form ids) p s
      ≡ reads (full (upto 2)) p s (λ h r. reads (sizes_form h.version) p r (λ z t. reads (many (entry_by ids z.widths) z.count []) p t (over p)))
  unfolding iloc_form sizes_form count_form entry_form entry_by
  iloc_parts = simp (whole_reads, reads_bind, reads_give)

  pub iloc_gone : (n q : ℕ) → (full (upto 2)).read p s ≡ refuse n q → whole (iloc_form ids) p s ≡ refuse n q
  iloc_gone n q e = iloc_parts ∙ reads_refused (full (upto 2)) p s _ n q e

  module _ (v : code.Full) (h : FullHere (upto 2) p s v) where
    pub iloc-sizes_gone : (n q : ℕ) → (sizes_form v.version).read p (drop 4 s) ≡ refuse n q → whole (iloc_form ids) p s ≡ refuse n q
    iloc-sizes_gone n q e = iloc_parts ∙ reads_got (full (upto 2)) p s _ _ _ h.read ∙ reads_refused (sizes_form v.version) p (drop 4 s) _ n q e

    pub iloc_entries : (w : Widths) (n : ℕ) → SizesHere ((sizes_form v.version).read p (drop 4 s)) s w n → (at : ℕ) →
        6 + w.id ≡ at → whole (iloc_form ids) p s ≡ whole (many (entry_by ids w) n []) p (drop at s)
    iloc_entries w n z at e =
        iloc_parts
        ∙ reads_got (full (upto 2)) p s _ _ _ h.read
        ∙ reads_got (sizes_form v.version) p (drop 4 s) _ _ _ z.read
        ∙ sym (whole_reads (many (entry_by ids w) n []) p (drop (6 + w.id) s))
        ∙ ap (λ (k : ℕ). whole (many (entry_by ids w) n []) p (drop k s)) e
