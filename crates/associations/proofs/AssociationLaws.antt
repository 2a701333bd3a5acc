-- The associations of an entry, one at a time: what the loop over them uses. Assumes nothing.
use Prim.Native.Nat.{ℕ, suc, ◌+◌, ◌*◌, ◌-◌, ◌%◌, ◌≤◌, ◌<◌}
use native.Mathlib.Nat.{mod-eq_of_lt, mod_self, mod-eq-sub-mod}
use native.Mathlib.Omega.{arith}
use mathlib.Core.Path.{◌≡◌, refl, sym, ap, ◌∙◌, subst}
use mathlib.Core.List.{List, [], ◌∷◌, ◌++◌, map-append}
use mathlib.Core.Bool.{Bool, true, false, ◌&&◌, not}
use mathlib.Core.Logic.{◌⊎◌, inl, inr}
use lib.ListN.{length, drop, set, length-append, length-map}
use lib.Seq.{sets, length-sets}
use lib.Dec.{leb, eqb}
use borrow.Author.Tests.{leb-true, eqb-true, le-leb, lt-leb}
use Rattle.fields.specs.Choice.{pick}
use Rattle.fields.specs.Field.{be_at}
use Rattle.fields.proofs.FieldLaws.{Bytes, be_below, pick_yes, pick_no}
use Rattle.boxes.specs.Answer.{Answer, refuse}
use Rattle.forms.specs.Form.{Got, got, many}
use Rattle.forms.proofs.StepLaws.{reads, read_reads, reads_bind, reads_field, reads_short, reads_yes, reads_no, reads_give, reads_none, reads_more}
use Rattle.contents.specs.Ipma.{Association, mark_of, association_form}
use Rattle.records.proofs.SetsLaws.{sets_append}
use Rattle.fields.proofs.TestLaws.{and-false, and_none}
use Rattle.associations.specs.inner.Told.{KeptIds}
use Rattle.associations.specs.inner.Steps.{association_words, AssociatedHere}
use Rattle.associations.proofs.KeepLaws.{sets-high}

-- a word of w bytes and its mark
pub mark_two : mark_of 2 ≡ 32768
unfolding pick
mark_two = refl

pub mark_one : mark_of 1 ≡ 128
unfolding pick
mark_one = refl

pub mark_small : (w : ℕ) → (w ≡ 1) ⊎ (w ≡ 2) → (1 ≤ mark_of w) × (mark_of w ≤ 32768)
mark_small w (inl e) = rw (e, mark_one) (omega arith, omega arith)
mark_small w (inr e) = rw (e, mark_two) (omega arith, omega arith)

pub word_below : (s : List ℕ) (at w : ℕ) → Bytes s → (w ≡ 1) ⊎ (w ≡ 2) → be_at s at w < 2 * mark_of w
word_below s at w b (inl e) = rw (e, mark_one) (be_below s at 1 b)
word_below s at w b (inr e) = rw (e, mark_two) (be_below s at 2 b)

pub word_left : (w : ℕ) → (w ≡ 1) ⊎ (w ≡ 2) → (w ≡ 2 → ⊥) → w ≡ 1
word_left w (inl e) h = e
word_left w (inr e) h = absurd (h e)

-- an association's word of the table, as the code finds it
module _ (a mark : ℕ) (m : 1 ≤ mark) where
  pub index-low : a < mark → a ≡ a % mark + pick (leb mark a) 32768 0
  index-low h = let e = mod-eq_of_lt h in let q = pick_no {A = ℕ} {t = leb mark a} 32768 0 (lt-leb mark a h) in omega arith

  pub index-high : mark ≤ a → a % mark + 32768 ≡ a % mark + pick (leb mark a) 32768 0
  index-high h = let q = pick_yes {A = ℕ} {t = leb mark a} 32768 0 (le-leb mark a h) in omega arith

-- what is asked of a word a
abbrev wanted : ℕ → ℕ → ℕ → Bool
wanted mark most a = leb (a % mark) most && not (leb mark a && eqb (a % mark) 0)

module _ (mark most a : ℕ) where
  wanted_far : most < a % mark → wanted mark most a ≡ false
  wanted_far h = rw (lt-leb (a % mark) most h)

  wanted_none : a ≡ mark → wanted mark most a ≡ false
  wanted_none e = rw (e, mod_self mark, le-leb mark mark (omega arith)) (and_none (leb 0 most) false refl)

  wanted_good : 1 ≤ mark → a < 2 * mark → a % mark ≤ most → (a ≡ mark → ⊥) → wanted mark most a ≡ true
  wanted_good m l h n =
      let f : (leb mark a && eqb (a % mark) 0) ≡ false =
      and-false _ _ (λ p q. n (only (leb-true mark a p) (eqb-true (a % mark) 0 q))) in
      rw (le-leb (a % mark) most h, f)
    where
      only : mark ≤ a → a % mark ≡ 0 → a ≡ mark
      only p q = let i = mod-eq-sub-mod p in let j : (a - mark) % mark ≡ a - mark = mod-eq_of_lt (omega arith) in omega arith

-- association-form, at a place of the content
module _ {B : Type 0} (w most p : ℕ) (s : List ℕ) (at : ℕ) (before : List Association) (k : Association → List ℕ → Answer B) where
  association_short : at ≤ length s → length s < at + w → reads (association_form w most before) p (drop at s) k ≡ refuse 8 p
  unfolding association_form
  association_short l h = rw reads_bind (reads_short p s at w _ l h)

  module _ (room : at + w ≤ length s) where
    association_bad : wanted (mark_of w) most (be_at s at w) ≡ false → reads (association_form w most before) p (drop at s) k ≡ refuse 11 p
    unfolding association_form
    association_bad e = rw reads_bind (reads_field p s at w _ room ∙ rw reads_bind (reads_no p (drop (at + w) s) 11 _ _ e))

    association_good : wanted (mark_of w) most (be_at s at w) ≡ true
        → reads (association_form w most before) p (drop at s) k ≡ k
        (record { essential = leb (mark_of w) (be_at s at w); index = be_at s at w % mark_of w }) (drop (at + w) s)
    unfolding association_form
    association_good e =
        rw reads_bind (reads_field p s at w _ room ∙ rw reads_bind (reads_yes p (drop (at + w) s) 11 _ _ e ∙ reads_give p (drop (at + w) s) _ _))

-- what the loop keeps: the associations read so far, from `from` to `at`, and the table with them
module _ (s : List ℕ) (from w k place most used : ℕ) (t₀ : List ℕ) where
  abbrev answer : Answer (Got (List Association))
  answer = (many (association_form w most) k []).read place (drop from s)

  pub record ListSo (t : List ℕ) (at j : ℕ) : Type 0 where
    pub list : List Association
    pub here : at ≤ length s
    pub count : length list ≡ j
    pub few : j ≤ k
    pub same : answer ≡ reads (many (association_form w most) (k - j) list) place (drop at s) (λ v r. got v r)
    pub stored : t ≡ sets t₀ (5136 + used) (association_words list)

  pub list_begin : from ≤ length s → ListSo t₀ from 0
  list_begin h =
      let e : k ≡ k - 0 = omega arith in
      record {
        list = [];
        here = h;
        count = refl;
        few = omega arith;
        same = read_reads (many (association_form w most) k []) place (drop from s) ∙
            ap (λ (i : ℕ). reads (many (association_form w most) i []) place (drop from s) (λ v r. got v r)) e;
        stored = refl;
      }

  module _ (t : List ℕ) (at j : ℕ) (so : ListSo t at j) where
    pub list_length : length t ≡ length t₀
    list_length = ap length so.stored ∙ length-sets t₀ (5136 + used) (association_words so.list)

    pub list-kept : used + k ≤ 2048 → KeptIds t₀ t
    list-kept h =
        subst (KeptIds t₀) (sym so.stored)
        (sets-high t₀ (association_words so.list) (5136 + used) (omega arith) (rw length-map (omega (arith, so.count, so.few))))

    pub list_done : k ≤ j → AssociatedHere answer s k used t₀ t at
    list_done h =
        let e : k - j ≡ 0 = omega arith in
        record {
          list = so.list;
          read = so.same ∙ rw e (reads_none (association_form w most) place (drop at s) (λ v r. got v r) so.list);
          inside = so.here;
          count-is = omega (arith, so.count, so.few);
          stored = so.stored;
        }

    -- one more
    module _ (more : j < k) where
      next : answer ≡ reads (association_form w most so.list) place (drop at s)
          (λ x r. reads (many (association_form w most) (k - (j + 1)) (so.list ++ (x ∷ []))) place r (λ v q. got v q))
      next =
          let e : k - j ≡ suc (k - (j + 1)) = omega arith in
          so.same ∙ rw e (reads_more (association_form w most) place (drop at s) (λ v r. got v r) (k - (j + 1)) so.list)

      pub list-short : length s - at < w → answer ≡ refuse 8 place
      list-short h = next ∙ association_short w most place s at so.list _ so.here (omega (arith, so.here))

      module _ (room : w ≤ length s - at) (a mark : ℕ) (is : a ≡ be_at s at w) (m : mark ≡ mark_of w) where
        fits : at + w ≤ length s
        fits = omega (arith, so.here)

        bad : wanted mark most a ≡ false → answer ≡ refuse 11 place
        bad h = next ∙ association_bad w most place s at so.list _ fits (rw (← is, ← m) h)

        -- too far, or none and essential
        pub list_far : {P : Type 0} → (most < a % mark) ⊎ (P × (a ≡ mark)) → answer ≡ refuse 11 place
        list_far (inl h) = bad (wanted_far mark most a h)
        list_far (inr h) = bad (wanted_none mark most a h.1)

        pub list-more : Bytes s → (w ≡ 1) ⊎ (w ≡ 2) → a % mark ≤ most → (a ≡ mark → ⊥) → (v : ℕ) → v ≡ a % mark + pick (leb mark a) 32768 0
            → ListSo (set t (5136 + used + j) v) (at + w) (j + 1)
        list-more b ws h n v e =
            let c = mark_small w ws in
            let l = word_below s at w b ws in
            let good : wanted (mark_of w) most (be_at s at w) ≡ true = rw (← is, ← m) (wanted_good mark most a (omega arith) (omega arith) h n) in
            let x : Association = record { essential = leb mark a; index = a % mark } in
            record {
              list = so.list ++ (x ∷ []);
              here = fits;
              count = rw length-append (omega (arith, so.count));
              few = omega arith;
              same = next ∙ association_good w most place s at so.list _ fits good ∙ rw (← is, ← m);
              stored = stored_more x v e;
            }
          where
            stored_more : (x : Association) (v : ℕ) → v ≡ x.index + pick x.essential 32768 0 →
                set t (5136 + used + j) v ≡ sets t₀ (5136 + used) (association_words (so.list ++ (x ∷ [])))
            stored_more x v e =
                let n : 5136 + used + j ≡ 5136 + used + length (association_words so.list) = rw length-map (omega (arith, so.count)) in
                ap (λ (l : List ℕ). set l (5136 + used + j) v) so.stored
                ∙ ap (λ (i : ℕ). set (sets t₀ (5136 + used) (association_words so.list)) i v) n
                ∙ sym (sets_append (association_words so.list) (v ∷ []) t₀ (5136 + used))
                ∙ ap (λ (l : List ℕ). sets t₀ (5136 + used) (association_words so.list ++ l)) (ap (λ (i : ℕ). i ∷ []) e)
                ∙ ap (sets t₀ (5136 + used)) (sym (map-append _ so.list (x ∷ [])))
