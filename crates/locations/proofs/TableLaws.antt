-- Which of the first rows of a table have an entry, and what one more entry changes. Assumes nothing.
use Prim.Native.Nat.{ℕ, ◌+◌, ◌*◌, ◌<◌, ◌≤◌}
use native.Mathlib.Decide.{dec_le}
use native.Mathlib.Omega.{arith}
use mathlib.Core.Path.{◌≡◌, refl, sym, ap, ◌∙◌, subst}
use mathlib.Core.List.{List, [], ◌∷◌, ◌++◌}
use mathlib.Core.Bool.{Bool, true, false}
use mathlib.Core.Logic.{◌⊎◌, inl, inr, ⊎_elim}
use lib.ListN.{length, get_or}
use Rattle.std.specs.Prelude.{Ok, Err, Some, None}
use lib.Seq.{sets, length-sets}
use lib.Dec.{eqb}
use borrow.Author.Tests.{eqb-true, eqb-false}
use Rattle.fields.specs.Choice.{pick}
use Rattle.fields.specs.Lists.{member}
use Rattle.fields.proofs.FieldLaws.{pick_yes}
use Rattle.fields.proofs.TestLaws.{untrue}
use Rattle.boxes.specs.Answer.{refuse}
use Rattle.forms.proofs.StepLaws.{read_reads, reads_bind, reads_yes, reads_no}
use Rattle.contents.specs.Iloc.{Location, located_in, extents_in}
use Rattle.contents.specs.File.{File}
use Rattle.rules.specs.Places.{Places}
use Rattle.records.specs.inner.Raw.{raw_of}
use Rattle.records.specs.inner.Rows.{id_at, ids_in, Distinct, FoundIs}
use Rattle.records.specs.inner.Stage.{Kept, Ready}
use Rattle.records.proofs.MemberLaws.{member-last, member-other}
use Rattle.records.proofs.RawLaws.{raw-located}
use Rattle.records.proofs.SetsLaws.{sets_below, sets-above, sets_in}
use Rattle.table.specs.declared.ItemRow.{ItemRow}
use Rattle.contents.proofs.SumLaws.{extents-more, located_in_lem}
use Rattle.records.proofs.IdLaws.{ids-same, row_listed, row_missing, raw_ids, distinct-rows}
use Rattle.records.proofs.KeptLaws.{kept_on, kept_sets}
use Rattle.locations.specs.inner.Told.{Unplaced}
use Rattle.locations.specs.inner.Parts.{Located, RowAre, new_form}

-- the table of a file that has no entry: no item has one
pub raw_unplaced : (pl : Places) (x : List ℕ) (f : File) (n : ℕ) → Ready f n → f.locations ≡ [] → Unplaced (raw_of [] pl f ++ x) n
unfolding pick
raw_unplaced pl x f n r e =
    let c = r.count in
    record {
      distinct = subst Distinct (sym (raw_ids pl f x (raw_of [] pl f ++ x) n r.count refl)) r.distinct;
      none = λ k h. raw-located [] pl x (omega arith) f k (omega arith) ∙ rw e;
    }

-- new-form
module _ (ids : List ℕ) (ls : List Location) (id p : ℕ) (r : List ℕ) where
  twice : member id (located_in ls) ≡ true → (new_form ids ls id).read p r ≡ refuse 10 p
  unfolding new_form
  twice e = rw (read_reads, reads_bind) (reads_no p r 10 _ _ (rw e))

  unlisted : member id (located_in ls) ≡ false → member id ids ≡ false → (new_form ids ls id).read p r ≡ refuse 11 p
  unfolding new_form
  unlisted e f = rw (read_reads, reads_bind) (reads_yes p r 10 _ _ (rw e) ∙ reads_no p r 11 _ _ f)

-- a flag, as a word
flag_set : (b : Bool) → ◌≡◌ {A = ℕ} (pick b 1 0) 1 → b ≡ true
unfolding pick
flag_set true e = refl
flag_set false e = absurd (omega arith)

flag_clear : (b : Bool) → (◌≡◌ {A = ℕ} (pick b 1 0) 1 → ⊥) → b ≡ false
unfolding pick
flag_clear true e = absurd (e refl)
flag_clear false e = refl

-- RowAre: what a lookup and the flag of the row found tell
module _ (t : List ℕ) (n id p : ℕ) where
  module _ (r : ItemRow) (g : FoundIs t n id (Some r)) where
    located_flag : (used : ℕ) (ls : List Location) → Located t n used ls → get_or t (16 + 16 * r.0 + 11) 0 ≡ pick (member id (located_in ls)) 1 0
    located_flag used ls l = l.flags r.0 g.0 ∙ ap (λ (x : ℕ). pick (member x (located_in ls)) 1 0) g.1

    pub row_twice : get_or t (16 + 16 * r.0 + 11) 0 ≡ 1 → RowAre t n id p (Err (record { number = 10; place = p }))
    row_twice e used ls l x = twice (ids_in t n) ls id p x (flag_set _ (sym (located_flag used ls l) ∙ e))

    pub row_here : (get_or t (16 + 16 * r.0 + 11) 0 ≡ 1 → ⊥) → RowAre t n id p (Ok r)
    row_here e = record { below = g.0; same = g.1; new = λ used ls l. flag_clear _ (λ q. e (located_flag used ls l ∙ q)) }

  pub row-unlisted : FoundIs t n id None → RowAre t n id p (Err (record { number = 11; place = p }))
  row-unlisted g used ls l x =
      let none = row_missing t n id g in
      unlisted (ids_in t n) ls id p x (new (member id (located_in ls)) refl none) none
    where
      new : (b : Bool) → member id (located_in ls) ≡ b → member id (ids_in t n) ≡ false → member id (located_in ls) ≡ false
      new true e f = untrue (sym f ∙ l.listed id e)
      new false e f = e

-- Located: no entry yet
pub located-none : (t : List ℕ) (n : ℕ) → Unplaced t n → Located t n 0 []
unfolding pick extents_in
located-none t n h = record { count = refl; flags = λ k l. h.none k l; listed = λ x e. untrue e }

-- the table t with ws among the extents and five words in row r, where an entry of an item of that row is put
module _ (t ws : List ℕ) (m r a b c d : ℕ) where
  abbrev put : List ℕ
  put = sets (sets t (9232 + m) ws) (16 + 16 * r + 7) (a ∷ b ∷ c ∷ d ∷ 1 ∷ [])

  pub put-kept : m + length ws ≤ 2048 → r < 256 → Kept t put
  put-kept h l = kept_on t _ put (kept_sets t (9232 + m) ws (omega arith))
      (kept_sets (sets t (9232 + m) ws) (16 + 16 * r + 7) (a ∷ b ∷ c ∷ d ∷ 1 ∷ []) (omega arith))

  -- words that are not written
  apart : (i : ℕ) → i < 9232 → (i < 16 + 16 * r + 7) ⊎ (16 + 16 * r + 12 ≤ i) → get_or put i 0 ≡ get_or t i 0
  apart i h (inl l) = sets_below (a ∷ b ∷ c ∷ d ∷ 1 ∷ []) (sets t (9232 + m) ws) (16 + 16 * r + 7) i l ∙ sets_below ws t (9232 + m) i (omega arith)
  apart i h (inr l) = sets-above (a ∷ b ∷ c ∷ d ∷ 1 ∷ []) (sets t (9232 + m) ws) (16 + 16 * r + 7) i (omega arith) ∙ sets_below ws t (9232 + m) i (omega arith)

  put_id : (k : ℕ) → k < 256 → id_at put k ≡ id_at t k
  put_id k h = elim (dec_le k r) [
    | yes l ↦ apart (16 + 16 * k) (omega arith) (inl (omega arith))
    | no l ↦ apart
        (16 + 16 * k) (omega arith) (inr (omega (arith, l)))
  ]

  put_flag : 11280 ≤ length t → r < 256 → get_or put (16 + 16 * r + 11) 0 ≡ 1
  put_flag h l =
      let e : 16 + 16 * r + 11 ≡ 16 + 16 * r + 7 + 4 = omega arith in
      ap (λ (i : ℕ). get_or put i 0) e
      ∙ sets_in (a ∷ b ∷ c ∷ d ∷ 1 ∷ []) (sets t (9232 + m) ws) (16 + 16 * r + 7) 4 (omega arith) (rw length-sets (omega arith))

  put_other : (k : ℕ) → k < 256 → (k ≡ r → ⊥) → get_or put (16 + 16 * k + 11) 0 ≡ get_or t (16 + 16 * k + 11) 0
  put_other k h q = elim (dec_le k r) [
    | yes l ↦ apart (16 + 16 * k + 11) (omega arith) (inl (omega (arith, q)))
    | no l ↦
        apart (16 + 16 * k + 11) (omega arith) (inr (omega (arith, l)))
  ]

  pub put-ids : (n : ℕ) → n ≤ 256 → ids_in put n ≡ ids_in t n
  put-ids n h = ids-same t put n (λ k l. put_id k (omega arith))

  -- Located: one more entry
  module _ (n used : ℕ) (ls : List Location) (l : Location) (h : Located t n used ls) (ds : Distinct (ids_in t n))
      (few : n ≤ 256) (long : 11280 ≤ length t) (below : r < n) (same : id_at t r ≡ l.id) where
    flag_more : (k : ℕ) → k < n → get_or put (16 + 16 * k + 11) 0 ≡ pick (member (id_at put k) (located_in (ls ++ (l ∷ [])))) 1 0
    flag_more k z =
        rw (located_in_lem ls l, put_id k (omega arith))
        (⊎_elim
        (λ e. rw e (put_flag long (omega arith) ∙ sym (pick_yes _ _ (rw same (member-last l.id (located_in ls))))))
        (λ q.
        put_other k (omega arith) q
        ∙ h.flags k z
        ∙ ap (λ (b : Bool). pick b 1 0)
        (sym
        (member-other
        (id_at t k)
        l.id
        (located_in ls)
        (λ e.
        q (distinct-rows t n ds k r z below (e ∙ sym same))))))
        (same_or_not (eqb k r) refl))
      where
        same_or_not : (x : Bool) → eqb k r ≡ x → (k ≡ r) ⊎ (k ≡ r → ⊥)
        same_or_not true e = inl (eqb-true k r e)
        same_or_not false e = inr (eqb-false k r e)

    listed_more : (x : ℕ) → member x (located_in (ls ++ (l ∷ []))) ≡ true → member x (ids_in put n) ≡ true
    listed_more x e = rw (put-ids n few) (go (eqb x l.id) refl)
      where
        go : (b : Bool) → eqb x l.id ≡ b → member x (ids_in t n) ≡ true
        go true q = row_listed t n x r below (same ∙ sym (eqb-true x l.id q))
        go false q = h.listed x (sym (member-other x l.id (located_in ls) (eqb-false x l.id q)) ∙ ap (member x) (sym (located_in_lem ls l)) ∙ e)

    pub located-more : Located put n (used + length l.extents) (ls ++ (l ∷ []))
    located-more = record { count = let e = extents-more ls l in let c = h.count in omega arith; flags = flag_more; listed = listed_more }
