-- An entry of an `iloc`, one way out at a time: its ID, what stands between ID and extents, and the extents, all of which are there or not. Assumes nothing.
use Prim.Native.Nat.{ℕ, zero, suc, ◌+◌, ◌-◌, ◌*◌, ◌%◌, ◌<◌, ◌≤◌}
use native.Mathlib.Nat.{suc-mul, zero-mul}
use native.Mathlib.Decide.{dec_le}
use native.Mathlib.Omega.{arith}
use mathlib.Core.Path.{◌≡◌, refl, sym, ap, ◌∙◌}
use mathlib.Core.List.{List, [], ◌∷◌, ◌++◌, append_assoc, append-nil}
use mathlib.Core.Bool.{true, false}
use mathlib.Core.Logic.{◌⊎◌, inl, inr}
use lib.ListN.{length, drop}
use Rattle.std.specs.Prelude.{Result, Ok, Err}
use lib.Dec.{leb, eqb}
use borrow.Author.Tests.{le-leb, lt-leb}
use Rattle.fields.specs.Field.{be_at}
use Rattle.fields.specs.Lists.{member}
use Rattle.boxes.specs.Answer.{Answer, refuse}
use Rattle.boxes.specs.declared.Refusal.{Refusal}
use Rattle.forms.specs.Form.{got, demand, field, many}
use Rattle.forms.proofs.StepLaws.{
  reads,
  read_reads,
  reads_got,
  reads_refused,
  reads_bind,
  reads_field,
  reads_short,
  reads_yes,
  reads_no,
  reads_give,
  reads_none,
  reads_more,
}
use Rattle.contents.specs.Iloc.{Extent, Location, located_in, extents_in, extent_form}
use Rattle.records.specs.inner.Rows.{id_at, ids_in}
use Rattle.records.proofs.IdLaws.{row_listed}
use Rattle.locations.specs.declared.Widths.{Widths}
use Rattle.locations.specs.declared.Rest.{Rest}
use Rattle.locations.specs.declared.EntryPut.{EntryPut}
use Rattle.locations.specs.inner.Parts.{
  new_form,
  rest_form,
  Lead,
  lead_form,
  entry_by,
  extent_at,
  extents_at,
  extents_by,
  Located,
  RowHere,
  RowAre,
  RestHere,
  RestAre,
  EntryHere,
  EntryAre,
  StoredAre,
  MarkedAre,
  PutAre,
}

-- a field of a chain that does not fit as a whole: it is cut, or what follows it is
reads_cut : {B : Type 0} (p : ℕ) (s : List ℕ) (at n : ℕ) (k : ℕ → List ℕ → Answer B) → at ≤ length s →
    (at + n ≤ length s → k (be_at s at n) (drop (at + n) s) ≡ refuse 8 p)
    → reads (field n) p (drop at s) k ≡ refuse 8 p
reads_cut p s at n k h f =
    elim (dec_le (at + n) (length s)) [ yes l ↦ reads_field p s at n k l ∙ f l | no l ↦ reads_short p s at n k h (omega (arith, l)) ]

-- GoodWidths: which width is left
pub two : (n : ℕ) → (n ≡ 0) ⊎ (n ≡ 2) → (n ≡ 0 → ⊥) → n ≡ 2
two n (inl e) h = absurd (h e)
two n (inr e) h = e

-- rest-form
module _ (w : Widths) (used p : ℕ) (s : List ℕ) (at : ℕ) (h : at ≤ length s) where
  pub rest-short : length s - at < w.method + w.base + 4 → (rest_form w used).read p (drop at s) ≡ refuse 8 p
  unfolding rest_form
  rest-short l =
      rw read_reads
      (simp reads_bind
      (reads_cut p s at w.method _ h
      (λ a. reads_cut p s (at + w.method) 2 _ a
      (λ b. reads_cut p s (at + w.method + 2) w.base _ b (λ c. reads_short p s (at + w.method + 2 + w.base) 2 _ c (omega arith))))))

  module _ (l : w.method + w.base + 4 ≤ length s - at) (n : ℕ) (en : n ≡ be_at s (at + w.method + w.base + 2) 2) where
    fields_read : {B : Type 0} (k : Rest → List ℕ → Answer B)
        → reads (rest_form w used) p (drop at s) k
        ≡ reads (demand 9 (leb (used + n) 512)) p (drop (at + w.method + w.base + 4) s)
        (λ u r. k (record {
          method = be_at s at w.method % 16;
          reference = be_at s (at + w.method) 2;
          base =
              be_at s (at + w.method + 2) w.base;
          extents = n;
        }) r)
    unfolding rest_form
    fields_read k =
        let e : at + w.method + 2 + w.base ≡ at + w.method + w.base + 2 = omega arith in
        let f : at + w.method + w.base + 2 + 2 ≡ at + w.method + w.base + 4 = omega arith in
        simp (reads_bind, reads_give)
        (reads_field p s at w.method _ (omega arith)
        ∙ reads_field p s (at + w.method) 2 _ (omega arith)
        ∙ reads_field p s (at + w.method + 2) w.base _ (omega arith)
        ∙ rw e (reads_field p s (at + w.method + w.base + 2) 2 _ (omega arith) ∙ rw (← en, f)))

    pub rest-many : 512 < used + n → (rest_form w used).read p (drop at s) ≡ refuse 9 p
    rest-many m = rw read_reads (fields_read _ ∙ reads_no p (drop (at + w.method + w.base + 4) s) 9 _ _ (lt-leb _ _ m))

    pub rest-is : (m d b : ℕ) → m ≡ be_at s at w.method % 16 → d ≡ be_at s (at + w.method) 2 → b ≡ be_at s (at + w.method + 2) w.base → used + n ≤ 512
        → RestHere w used p s at (record { method = m; reference = d; base = b; extents = n }) (at + w.method + w.base + 4)
    rest-is m d b em ed eb few =
        record {
          room = omega arith;
          few = few;
          read = rw (em, ed, eb) (rw read_reads (fields_read _ ∙ reads_yes p (drop (at + w.method + w.base + 4) s) 9 _ _ (le-leb _ _ few)));
        }

-- extent-form
module _ {B : Type 0} (i o l : ℕ) (p : ℕ) (s : List ℕ) (before : List Extent) (at : ℕ) (k : Extent → List ℕ → Answer B) where
  extent-short : at ≤ length s → length s < at + (i + o + l) → reads (extent_form i o l before) p (drop at s) k ≡ refuse 8 p
  unfolding extent_form
  extent-short h m =
      simp reads_bind
      (reads_cut p s at i _ h
      (λ a. reads_cut p s (at + i) o _ a (λ b. reads_short p s (at + i + o) l _ b (omega arith))))

  extent-is : at + (i + o + l) ≤ length s → reads (extent_form i o l before) p (drop at s) k ≡ k (extent_at i o l s at) (drop (at + (i + o + l)) s)
  unfolding extent_form
  extent-is m =
      let e : at + i + o + l ≡ at + (i + o + l) = omega arith in
      simp (reads_bind, reads_give)
      (reads_field p s at i _ (omega arith)
      ∙ reads_field p s (at + i) o _ (omega arith)
      ∙ reads_field p s (at + i + o) l _ (omega arith)
      ∙ rw e)

-- so many extents: all of them are there, or they are cut
module _ {B : Type 0} (i o l : ℕ) (p : ℕ) (s : List ℕ) (k : List Extent → List ℕ → Answer B) where
  pub extents-cut : (n at : ℕ) (before : List Extent) → at ≤ length s → length s < at + n * (i + o + l)
      → reads (many (extent_form i o l) n before) p (drop at s) k ≡ refuse 8 p
  extents-cut zero at before h q = absurd (omega (arith, zero-mul ((i + o + l))))
  extents-cut (suc n) at before h z =
      let q = suc-mul n ((i + o + l)) in
      reads_more (extent_form i o l) p (drop at s) k n before
      ∙ elim (dec_le (at + (i + o + l)) (length s)) [
        | yes m ↦ extent-is i o l p s before at _ m ∙ extents-cut n (at + (i + o + l)) (before ++ (extent_at i o l s at ∷ [])) m (omega arith)
        | no m ↦ extent-short i o l p s before at _ h (omega (arith, m))
      ]

  pub extents_are : (n at : ℕ) (before : List Extent) → at + n * (i + o + l) ≤ length s
      → reads (many (extent_form i o l) n before) p (drop at s) k ≡ k (before ++ extents_at i o l s at n) (drop (at + n * (i + o + l)) s)
  unfolding extents_at
  extents_are zero at before h =
      let e : at ≡ at + 0 * (i + o + l) = omega (arith, zero-mul ((i + o + l))) in
      reads_none (extent_form i o l) p (drop at s) k before ∙ rw (append-nil, ← e)
  extents_are (suc n) at before h =
      let q = suc-mul n ((i + o + l)) in
      let e : at + (i + o + l) + n * (i + o + l) ≡ at + suc n * (i + o + l) = omega arith in
      reads_more (extent_form i o l) p (drop at s) k n before
      ∙ extent-is i o l p s before at _ (omega arith)
      ∙ extents_are n (at + (i + o + l)) (before ++ (extent_at i o l s at ∷ [])) (omega arith)
      ∙ rw (append_assoc, e)

-- extents_at
pub extents-count : (i o l : ℕ) (s : List ℕ) (at k : ℕ) → length (extents_at i o l s at k) ≡ k
unfolding extents_at
extents-count i o l s at zero = refl
extents-count i o l s at (suc k) = rw (extents-count i o l s (at + (i + o + l)) k)

pub extents_next : (i o l : ℕ) (s : List ℕ) (at k : ℕ) → extents_at i o l s at (suc k) ≡ extents_at i o l s at k ++
    (extent_at i o l s (at + k * (i + o + l)) ∷ [])
unfolding extents_at
extents_next i o l s at zero = let e : at ≡ at + 0 * (i + o + l) = omega (arith, zero-mul ((i + o + l))) in rw (← e)
extents_next i o l s at (suc k) =
    let q = suc-mul k ((i + o + l)) in
    let e : at + (i + o + l) + k * (i + o + l) ≡ at + suc k * (i + o + l) = omega arith in
    ap (λ (es : List Extent). extent_at i o l s at ∷ es) (extents_next i o l s (at + (i + o + l)) k ∙ rw e)

-- lead-form
module _ (ids : List ℕ) (w : Widths) (ls : List Location) (p : ℕ) (s : List ℕ) (at : ℕ) (h : at ≤ length s) where
  lead-short : length s - at < w.id → (lead_form ids w ls).read p (drop at s) ≡ refuse 8 p
  unfolding lead_form
  lead-short l = rw (read_reads, reads_bind) (reads_short p s at w.id _ h (omega arith))

  module _ (l : w.id ≤ length s - at) (id : ℕ) (e : id ≡ be_at s at w.id) where
    lead_gone : (n q : ℕ) → ((r : List ℕ) → (new_form ids ls id).read p r ≡ refuse n q) → (lead_form ids w ls).read p (drop at s) ≡ refuse n q
    unfolding lead_form
    lead_gone n q f =
        rw (read_reads, reads_bind)
        (reads_field p s at w.id _ (omega arith) ∙
        rw (← e, reads_bind) (reads_refused (new_form ids ls id) p (drop (at + w.id) s) _ n q
        (f (drop (at + w.id) s))))

    module _ (new : member id (located_in ls) ≡ false) (listed : member id ids ≡ true) where
      lead-rest : {B : Type 0} (k : Lead → List ℕ → Answer B)
          → reads (lead_form ids w ls) p (drop at s) k ≡ reads (rest_form w (extents_in ls)) p (drop (at + w.id) s) (λ r t. k (record { id = id; rest = r }) t)
      unfolding lead_form new_form
      lead-rest k =
          simp (reads_bind, reads_give)
          (reads_field p s at w.id _ (omega arith)
          ∙ rw (← e) (reads_yes p (drop (at + w.id) s) 10 _ _ (rw new) ∙ reads_yes p (drop (at + w.id) s) 11 _ _ listed))

-- EntryAre
module _ (t : List ℕ) (n : ℕ) (w : Widths) (used p : ℕ) (s : List ℕ) (at : ℕ) (h : at ≤ length s) where
  pub entry_short : length s - at < w.id → EntryAre t n w used p s at (Err (record { number = 8; place = p }))
  entry_short l ls q = lead-short (ids_in t n) w ls p s at h l

  module _ (l : w.id ≤ length s - at) (id : ℕ) (e : id ≡ be_at s at w.id) where
    pub entry_gone : (f : Refusal) → RowAre t n id p (Err f) → EntryAre t n w used p s at (Err f)
    entry_gone f g ls q = lead_gone (ids_in t n) w ls p s at h l id e f.number f.place (g used ls q)

    module _ (r : ℕ) (g : RowHere t n id r) where
      go_on : (ls : List Location) → Located t n used ls → {B : Type 0} (k : Lead → List ℕ → Answer B)
          → reads (lead_form (ids_in t n) w ls) p (drop at s) k ≡ reads (rest_form w used) p (drop (at + w.id) s) (λ r t. k (record { id = id; rest = r }) t)
      go_on ls q k = lead-rest (ids_in t n) w ls p s at h l id e (g.new used ls q) (row_listed t n id r g.below g.same) k ∙ rw q.count

      pub entry_rest_gone : (f : Refusal) → RestAre w used p s (at + w.id) (Err f) → EntryAre t n w used p s at (Err f)
      entry_rest_gone f z ls q = rw read_reads (go_on ls q _ ∙ reads_refused (rest_form w used) p (drop (at + w.id) s) _ f.number f.place z)

      pub entry_here : (x : Rest) (end : ℕ) → RestHere w used p s (at + w.id) x end → EntryHere t n w used p s at r x end
      entry_here x end z =
          record {
            room = z.room;
            few = z.few;
            below = g.below;
            new = λ ls q. rw g.same (g.new used ls q);
            read = λ ls q. rw (read_reads, g.same) (go_on ls q _ ∙ reads_got (rest_form w used) p (drop (at + w.id) s) _ _ _ z.read);
          }

-- entry-by: up to the extents, and then them
entry_lead : {B : Type 0} (ids : List ℕ) (w : Widths) (ls : List Location) (p : ℕ) (r : List ℕ) (k : Location → List ℕ → Answer B)
    → reads (entry_by ids w ls) p r k
    ≡ reads (lead_form ids w ls) p r
    (λ e t. reads (many (extent_form w.index w.offset w.length) e.rest.extents []) p t
    (λ es q. k (record { id = e.id; method = e.rest.method; reference = e.rest.reference; base = e.rest.base; extents = es }) q))
unfolding entry_by lead_form new_form rest_form
entry_lead ids w ls p r k = simp (reads_bind, reads_give)

-- StoredAre, MarkedAre, PutAre: an entry that was read up to its extents, once they, its place and its marks were put
module _ (t u v y : List ℕ) (n : ℕ) (w : Widths) (used p : ℕ) (s : List ℕ) (at idat : ℕ) where
  pub put_gone : (f : Refusal) → u ≡ t → y ≡ v → EntryAre t n w used p s at (Err f) → PutAre t u v y n w used p s at idat (Err f)
  put_gone f e q h = (
    e,
    q,
    λ ls l. rw read_reads (entry_lead (ids_in t n) w ls p (drop at s) _ ∙
        reads_refused (lead_form (ids_in t n) w ls) p (drop at s) _ f.number f.place (h ls l)),
  )

  module _ (r : ℕ) (x : Rest) (from : ℕ) (h : EntryHere t n w used p s at r x from) where
    lead-extents : (ls : List Location) → Located t n used ls
        → (entry_by (ids_in t n) w ls).read p (drop at s)
        ≡ reads (many (extent_form w.index w.offset w.length) x.extents []) p (drop from s)
        (λ es q. got (record {
          id = id_at t r;
          method = x.method;
          reference = x.reference;
          base = x.base;
          extents = es;
        }) q)
    lead-extents ls l = rw read_reads (entry_lead (ids_in t n) w ls p (drop at s) _ ∙ reads_got (lead_form (ids_in t n) w ls) p (drop at s) _ _ _ (h.read ls l))

    pub put_are : (o : Result EntryPut Refusal) → StoredAre w s from p t u r x used idat o →
        MarkedAre used (eqb x.method 2) (extents_by w s from x.extents) v y o → PutAre t u v y n w used p s at idat o
    put_are (Err f) z m =
        (z.0, m, λ ls l. rw (z.1, z.2) (lead-extents ls l ∙ extents-cut w.index w.offset w.length p s _ x.extents from [] h.room z.3))
    put_are (Ok o) z m =
        let few = h.few in
        let below = h.below in
        let e = z.count in
        record {
          room = z.room;
          few = omega arith;
          below = rw z.row below;
          location = record { id = id_at t r; method = x.method; reference = x.reference; base = x.base; extents = extents_by w s from x.extents };
          id = ap (id_at t) z.row;
          count = extents-count w.index w.offset w.length s from x.extents ∙ sym e;
          stored = rw (z.row, e) z.stored;
          marked = m;
          new = λ ls l. h.new ls l;
          read = λ ls l. lead-extents ls l ∙ extents_are w.index w.offset w.length p s _ x.extents from []
              (rw z.ends at z.room) ∙ rw z.ends;
        }
