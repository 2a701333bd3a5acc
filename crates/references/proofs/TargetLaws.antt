-- The targets of a reference, one at a time: what the loop over them uses. Assumes nothing.
use Prim.Native.Nat.{ℕ, zero, suc, ◌+◌, ◌-◌, ◌*◌, ◌<◌, ◌≤◌}
use native.Mathlib.Decide.{dec_le}
use native.Mathlib.Nat.{mul-zero, mul-suc}
use native.Mathlib.Omega.{arith}
use mathlib.Core.Path.{◌≡◌, refl, sym, ap, ◌∙◌, subst}
use mathlib.Core.List.{List, [], ◌∷◌, ◌++◌}
use mathlib.Core.Bool.{Bool, true, false}
use lib.ListN.{length, get_or, drop, length-append, get_or-append}
use lib.Seq.{sets, length-sets, get_or_at}
use Rattle.fields.specs.Choice.{pick}
use Rattle.fields.specs.Field.{be_at}
use Rattle.fields.specs.Lists.{member}
use Rattle.boxes.specs.Answer.{Answer, ok, refuse}
use Rattle.boxes.proofs.AnswerLaws.{ok_inj}
use Rattle.forms.specs.Form.{many}
use Rattle.forms.proofs.StepLaws.{
  reads,
  over,
  whole_reads,
  reads_bind,
  reads_field,
  reads_short,
  reads_yes,
  reads_no,
  reads_give,
  reads_none,
  reads_more,
  over-end,
  over-left,
}
use Rattle.contents.specs.Iref.{target_form}
use Rattle.records.specs.inner.Rows.{id_at, ids_in, FoundIs}
use Rattle.records.specs.inner.Stage.{Kept}
use Rattle.records.proofs.SetsLaws.{sets_below, sets_append}
use Rattle.table.specs.declared.ItemRow.{ItemRow}
use Rattle.records.proofs.IdLaws.{row_listed, row_missing}
use Rattle.records.proofs.KeptLaws.{kept_sets}
use Rattle.references.specs.inner.Steps.{targets_from, no_value, TargetsLeft}
use Rattle.std.specs.Prelude.{Result, Ok, Err, Some, None}
use Rattle.boxes.specs.declared.Refusal.{Refusal}
use Rattle.boxes.specs.Told.{told}

never-ok : {P : Type 0} (m q : ℕ) (ts : List ℕ) → refuse m q ≡ ok ts → P
never-ok m q ts e = cc

-- FoundIs, in a table whose IDs are those of t
module _ (t u : List ℕ) (n : ℕ) (same : (k : ℕ) → k < n → id_at u k ≡ id_at t k) (id : ℕ) where
  pub found-member : (row : ItemRow) → FoundIs u n id (Some row) → member id (ids_in t n) ≡ true
  found-member row g = row_listed t n id row.0 g.0 (sym (same row.0 g.0) ∙ g.1)

  pub found_no_member : FoundIs u n id None → member id (ids_in t n) ≡ false
  found_no_member g = row_missing t n id (λ k m q. g k m (same k m ∙ q))

-- target-form, as one of many
module _ (ids : List ℕ) (w p : ℕ) (s : List ℕ) where
  -- m more targets from a place on, behind those of `before`
  abbrev left : ℕ → ℕ → List ℕ → Answer (List ℕ)
  left m at before = reads (many (target_form ids w) m before) p (drop at s) (over p)

  module _ (m at : ℕ) (before : List ℕ) where
    target-short : at ≤ length s → length s < at + w → left (suc m) at before ≡ refuse 8 p
    unfolding target_form
    target-short h l = reads_more (target_form ids w) p (drop at s) (over p) m before ∙ rw reads_bind (reads_short p s at w _ h l)

    target-unlisted : at + w ≤ length s → member (be_at s at w) ids ≡ false → left (suc m) at before ≡ refuse 11 p
    unfolding target_form
    target-unlisted h e =
        reads_more (target_form ids w) p (drop at s) (over p) m before
        ∙ rw reads_bind (reads_field p s at w _ h ∙ rw reads_bind (reads_no p (drop (at + w) s) 11 _ _ e))

    target-listed : at + w ≤ length s → member (be_at s at w) ids ≡ true → left (suc m) at before ≡ left m (at + w) (before ++ (be_at s at w ∷ []))
    unfolding target_form
    target-listed h e =
        reads_more (target_form ids w) p (drop at s) (over p) m before
        ∙ rw reads_bind (reads_field p s at w _ h ∙ rw reads_bind (reads_yes p (drop (at + w) s) 11 _ _ e ∙ reads_give p (drop (at + w) s) _ _))

  module _ (at : ℕ) (ts : List ℕ) where
    target-left-over : at < length s → left 0 at ts ≡ refuse 8 p
    target-left-over h = reads_none (target_form ids w) p (drop at s) (over p) ts ∙ over-left p ts s at h

    target-end : length s ≤ at → left 0 at ts ≡ ok ts
    target-end h = reads_none (target_form ids w) p (drop at s) (over p) ts ∙ over-end p ts s at h

  -- the targets that were read are listed, and stand in s one after another
  pub record ReadFrom (m at : ℕ) (before ts : List ℕ) : Type 0 where
    pub inside : at + w * m ≤ length s
    pub count : length ts ≡ length before + m
    pub front : (j : ℕ) → j < length before → get_or ts j 0 ≡ get_or before j 0
    pub target : (j : ℕ) → j < m → get_or ts (length before + j) 0 ≡ be_at s (at + w * j) w
    pub listed : (j : ℕ) → j < m → member (be_at s (at + w * j) w) ids ≡ true

  left-read : (m at : ℕ) (before ts : List ℕ) → at ≤ length s → left m at before ≡ ok ts → ReadFrom m at before ts
  left-read zero at before ts h e = ends (dec_le (length s) at)
    where
      ends : Dec (length s ≤ at) → ReadFrom 0 at before ts
      ends (yes l) =
          let z : before ≡ ts = ok_inj _ _ (sym (target-end at before l) ∙ e) in
          record {
            inside = rw mul-zero (omega arith);
            count = rw (← z) (omega arith);
            front = λ j i. ap (λ (l : List ℕ). get_or l j 0) (sym z);
            target = λ j i. absurd (omega arith);
            listed = λ j i. absurd (omega arith);
          }
      ends (no l) = never-ok 8 p ts (sym (target-left-over at before (omega (arith, l))) ∙ e)
  left-read (suc m) at before ts h e =
      room (dec_le (at + w) (length s)) (left-read m (at + w) (before ++ (be_at s at w ∷ [])) ts)
    where
      next : List ℕ
      next = before ++ (be_at s at w ∷ [])

      here : w * zero ≡ 0
      here = mul-zero w

      there : (j : ℕ) → at + w * suc j ≡ at + w + w * j
      there j = let z : w * suc j ≡ w * j + w = mul-suc w j in omega arith

      its_target : (j : ℕ) → j < suc m → ReadFrom m (at + w) next ts → get_or ts (length before + j) 0 ≡ be_at s (at + w * j) w
      its_target zero i r =
          let a : length before + 0 ≡ length before = omega arith in
          let b : at + w * 0 ≡ at = omega (arith, here) in
          rw (a, b) (r.front (length before) (rw length-append (omega arith)) ∙ get_or_at before (be_at s at w) [] 0 (length before) refl)
      its_target (suc j) i r =
          let a : length before + suc j ≡ length next + j = rw length-append (omega arith) in
          rw (a, there j) (r.target j (omega arith))

      its_listed : (j : ℕ) → j < suc m → member (be_at s at w) ids ≡ true → ReadFrom m (at + w) next ts → member (be_at s (at + w * j) w) ids ≡ true
      its_listed zero i y r = let b : at + w * 0 ≡ at = omega (arith, here) in rw b y
      its_listed (suc j) i y r = rw (there j) (r.listed j (omega arith))

      more : at + w ≤ length s → member (be_at s at w) ids ≡ true → ReadFrom m (at + w) next ts → ReadFrom (suc m) at before ts
      more l y r = record {
        inside = rw mul-suc (omega (arith, r.inside));
        count = r.count ∙ rw length-append (omega arith);
        front = λ j i. r.front j (rw length-append (omega arith)) ∙ get_or-append before _ 0 j i;
        target = λ j i. its_target j i r;
        listed = λ j i. its_listed j i y r;
      }

      told : at + w ≤ length s → (t : Bool) → member (be_at s at w) ids ≡ t
          → (at + w ≤ length s → left m (at + w) next ≡ ok ts → ReadFrom m (at + w) next ts) → ReadFrom (suc m) at before ts
      told l true y r = more l y (r l (sym (target-listed m at before l y) ∙ e))
      told l false y r = never-ok 11 p ts (sym (target-unlisted m at before l y) ∙ e)

      room : Dec (at + w ≤ length s) → (at + w ≤ length s → left m (at + w) next ≡ ok ts → ReadFrom m (at + w) next ts)
          → ReadFrom (suc m) at before ts
      room (yes l) r = told l (member (be_at s at w) ids) refl r
      room (no l) r = never-ok 8 p ts (sym (target-short m at before h (omega (arith, l))) ∙ e)

-- the k targets of a reference, in its content s
pub targets-read : (ids : List ℕ) (w k p : ℕ) (s : List ℕ) (from : ℕ) (ts : List ℕ) → from ≤ length s →
    targets_from ids w k p s from ≡ ok ts → ReadFrom ids w p s k from [] ts
targets-read ids w k p s from ts h e =
    left-read ids w p s k from [] ts h (sym (whole_reads (many (target_form ids w) k []) p (drop from s)) ∙ e)

-- the stores of kept targets
kept-room : (keep : Bool) (ts : List ℕ) (used k : ℕ) → used ≤ 2048 → (keep ≡ true → used + k ≤ 2048) → length ts ≤ k →
    7184 + used + length (pick keep ts []) ≤ 11280
unfolding pick
kept-room true ts used k a b h = let e = b refl in omega arith
kept-room false ts used k a b h = omega arith

kept-none : (keep : Bool) (t : List ℕ) (i : ℕ) → sets t i (pick keep [] []) ≡ t
unfolding pick
kept-none true t i = refl
kept-none false t i = refl

kept_more : (keep : Bool) (t : List ℕ) (i j id : ℕ) (ts : List ℕ) → length ts ≡ j →
    sets (sets t i (pick keep ts [])) (i + j) (pick keep (id ∷ []) []) ≡ sets t i (pick keep (ts ++ (id ∷ [])) [])
unfolding pick
kept_more true t i j id ts e = rw (← e) (sym (sets_append ts (id ∷ []) t i))
kept_more false t i j id ts e = refl

kept-not : (keep : Bool) (t : List ℕ) (i : ℕ) (ts : List ℕ) → keep ≡ false → sets t i (pick keep ts []) ≡ t
unfolding pick
kept-not keep t i ts e = rw e

module _ (s : List ℕ) (from w k p n : ℕ) (keep : Bool) (used : ℕ) (t : List ℕ) where
  -- what the loop keeps: the targets so far, and that they are stored
  pub record So (u : List ℕ) (at j : ℕ) : Type 0 where
    pub ts : List ℕ
    pub count : length ts ≡ j
    pub upto : j ≤ k
    pub here : at ≤ length s
    pub same : targets_from (ids_in t n) w k p s from ≡ left (ids_in t n) w p s (k - j) at ts
    pub stored : u ≡ sets t (7184 + used) (pick keep ts [])

  pub begin : from ≤ length s → So t from 0
  begin h =
      let z : k ≡ k - 0 = omega arith in
      record {
        ts = [];
        count = refl;
        upto = omega arith;
        here = h;
        same =
            whole_reads (many (target_form (ids_in t n) w) k []) p (drop from s) ∙
            ap (λ (m : ℕ). left (ids_in t n) w p s m from []) z;
        stored = sym (kept-none keep t (7184 + used));
      }

  -- what the code returns, u being the table
  abbrev pub Tells : List ℕ → Result (Unit {0}) Refusal → Type 0
  Tells u r = (r ≡ told no_value (targets_from (ids_in t n) w k p s from)) × TargetsLeft (targets_from (ids_in t n) w k p s from) k keep used t u

  module _ (few : n ≤ 256) (room : used ≤ 2048) (fits : keep ≡ true → used + k ≤ 2048) (u : List ℕ) (at j : ℕ) (so : So u at j) where
    pub so_length : length u ≡ length t
    so_length = ap length so.stored ∙ length-sets t (7184 + used) (pick keep so.ts [])

    so_kept : Kept t u
    so_kept = let c = so.count in let m = so.upto in
        subst (Kept t) (sym so.stored) (kept_sets t (7184 + used) (pick keep so.ts [])
        (kept-room keep so.ts used k room fits (omega arith)))

    so_ids : (i : ℕ) → i < n → id_at u i ≡ id_at t i
    so_ids i h = ap (λ (l : List ℕ). id_at l i) so.stored ∙ sets_below (pick keep so.ts []) t (7184 + used) (16 + 16 * i) (omega arith)

    refuses : (m : ℕ) → left (ids_in t n) w p s (k - j) at so.ts ≡ refuse m p → Tells u (Err (record { number = m; place = p }))
    unfolding told
    refuses m e =
        let a = so.same ∙ e in (
          sym (ap (told no_value) a),
          record {
            kept = so_kept;
            other = λ q. so.stored ∙ kept-not keep t (7184 + used) so.ts q;
            told = λ ts o. cc;
          },
        )

    -- one target is still to come
    module _ (more : j < k) where
      next : k - j ≡ suc (k - (j + 1))
      next = omega arith

      pub cut : length s - at < w → Tells u (Err (record { number = 8; place = p }))
      cut l = let h = so.here in refuses 8 (rw next (target-short (ids_in t n) w p s (k - (j + 1)) at so.ts h (omega arith)))

      module _ (l : w ≤ length s - at) (id : ℕ) (e : id ≡ be_at s at w) where
        inside : at + w ≤ length s
        inside = let h = so.here in omega arith

        pub unlisted : FoundIs u n id None → Tells u (Err (record { number = 11; place = p }))
        unlisted g = refuses 11 (rw next (target-unlisted (ids_in t n) w p s (k - (j + 1)) at so.ts inside (rw (← e) (found_no_member t u n so_ids id g))))

        pub listed : (row : ItemRow) → FoundIs u n id (Some row) → (v : List ℕ) → v ≡ sets u (7184 + used + j) (pick keep (id ∷ []) []) → So v (at + w) (j + 1)
        listed row g v q =
            let c = so.count in
            record {
              ts = so.ts ++ (id ∷ []);
              count = rw length-append (omega arith);
              upto = omega arith;
              here = inside;
              same = so.same ∙ rw (next, target-listed (ids_in t n) w p s (k - (j + 1)) at so.ts inside (rw (← e) (found-member t u n so_ids id row g)), e);
              stored = q ∙ ap (λ (l : List ℕ). sets l (7184 + used + j) (pick keep (id ∷ []) [])) so.stored ∙ kept_more keep t (7184 + used) j id so.ts c;
            }

    -- all are read
    module _ (all : k ≤ j) where
      none : k - j ≡ 0
      none = omega arith

      pub left_over : at < length s → Tells u (Err (record { number = 8; place = p }))
      left_over h = refuses 8 (rw none (target-left-over (ids_in t n) w p s at so.ts h))

      pub done : length s ≤ at → Tells u (Ok tt)
      unfolding told
      done h =
          let a : targets_from (ids_in t n) w k p s from ≡ ok so.ts = so.same ∙ rw none (target-end (ids_in t n) w p s at so.ts h) in
          let c = so.count in
          let m = so.upto in (
            sym (ap (told no_value) a),
            record {
              kept = so_kept;
              other = λ q. so.stored ∙ kept-not keep t (7184 + used) so.ts q;
              told = λ ts o. let y : so.ts ≡ ts = ok_inj _ _ (sym a ∙ o) in (let z = ap length y in omega arith, so.stored ∙ rw y);
            },
          )
