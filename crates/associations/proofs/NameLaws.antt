-- The entries of an `ipma`, one at a time: what the loop over them uses. Assumes nothing.
use Prim.Native.Nat.{ℕ, suc, ◌+◌, ◌*◌, ◌-◌, ◌%◌, ◌≤◌, ◌<◌}
use native.Mathlib.Omega.{arith}
use mathlib.Core.Path.{◌≡◌, refl, sym, ap, ◌∙◌, subst}
use mathlib.Core.List.{List, [], ◌∷◌, ◌++◌, map-append}
use mathlib.Core.Bool.{Bool, true, false}
use lib.ListN.{length, get_or, drop, length-map}
use lib.Seq.{sets}
use lib.Dec.{leb, ltb, eqb}
use borrow.Author.Tests.{ltb-true, ltb-false, le-leb, lt-leb}
use Rattle.fields.specs.Choice.{pick}
use Rattle.fields.specs.Field.{be_at}
use Rattle.fields.specs.Lists.{member}
use Rattle.boxes.specs.Answer.{Answer, refuse}
use Rattle.std.specs.Prelude.{Result, Ok, Err}
use Rattle.boxes.specs.Told.{told}
use Rattle.boxes.specs.declared.Refusal.{Refusal}
use Rattle.boxes.proofs.ToldLaws.{told-refused}
use Rattle.boxes.proofs.AnswerLaws.{ok_inj}
use Rattle.forms.specs.Form.{Form, Got, many, whole}
use Rattle.forms.proofs.StepLaws.{
  reads,
  over,
  whole_reads,
  reads_got,
  reads_refused,
  reads_bind,
  reads_field,
  reads_short,
  reads_yes,
  reads_no,
  reads_none,
  reads_more,
  over-end,
  over-left,
}
use Rattle.contents.specs.Full.{full, upto}
use Rattle.contents.specs.inner.Told.{full_of}
use Rattle.contents.specs.declared.Full as code
use Rattle.contents.proofs.FullLaws.{FullHere, full-here}
use Rattle.contents.specs.Iinf.{ids_of}
use Rattle.contents.specs.Ipma.{Association, IpmaEntry, associations_in, rises, ipma_entry_form, ipma_form}
use Rattle.contents.specs.File.{File}
use Rattle.rules.specs.Places.{Places}
use Rattle.records.specs.inner.Raw.{Bounded, raw_of}
use Rattle.records.specs.inner.Rows.{id_at, ids_in}
use Rattle.records.specs.inner.Stage.{Ready, with_names}
use Rattle.records.proofs.MemberLaws.{member-other}
use Rattle.records.proofs.SaidLaws.{named_in}
use Rattle.records.proofs.RawLaws.{raw-id, raw-named}
use Rattle.contents.proofs.SumLaws.{associations-more}
use Rattle.associations.specs.inner.Told.{KeptIds, NamesLeft}
use Rattle.associations.specs.inner.Steps.{association_words, span_words, Above, NamedPutIs}
use Rattle.associations.specs.declared.NamedPut.{NamedPut}
use Rattle.associations.proofs.KeepLaws.{kept_self, kept_then, sets-high, sets-row}

-- one entry more
rises-more : (ns : List IpmaEntry) (n : IpmaEntry) (x : ℕ) → rises x (ns ++ (n ∷ [])) ≡ ltb n.id x
rises-more [] n x = refl
rises-more (m ∷ []) n x = refl
rises-more (m ∷ k ∷ ns) n x = rises-more (k ∷ ns) n x

next_above : (a x : ℕ) → ltb a x ≡ leb (a + 1) x
next_above a x = go (ltb a x) refl
  where
    go : (c : Bool) → ltb a x ≡ c → c ≡ leb (a + 1) x
    go true e = let h = ltb-true a x e in sym (le-leb (a + 1) x (omega arith))
    go false e = let h = ltb-false a x e in sym (lt-leb (a + 1) x (omega arith))

-- the table of a file with one entry more
module _ (pl : Places) (f : File) (x : List ℕ) (n : ℕ) (ready : Ready f n) (entries : List IpmaEntry) (t : List ℕ)
    (is : t ≡ raw_of [] pl (with_names f entries) ++ x) where
  raw-more : (used id row : ℕ) (list : List Association) → associations_in entries ≡ used → used + length list ≤ 2048 →
      member id (named_in entries) ≡ false → row < n → id_at t row ≡ id
      → sets (sets t (5136 + used) (association_words list)) (16 + 16 * row + 3) (span_words used (length list)) ≡ raw_of [] pl
      (with_names f (entries ++ (record { id = id; list = list } ∷ []))) ++ x
  raw-more used id row list total fits new h e =
      let b = ready.bounded in
      let c = ready.count in
      let bd : Bounded (with_names f entries) =
      record {
        few-items = b.few-items;
        few-extents = b.few-extents;
        few-properties = b.few-properties;
        few-associations = omega arith;
        few-targets = b.few-targets;
      } in
      let l : row < length f.items = omega arith in
      let q : get_or (ids_of f.items) row 0 ≡ id = sym (raw-id [] pl x (omega arith) (with_names f entries) row l) ∙
      ap (λ (u : List ℕ). id_at u row) (sym is) ∙ e in
      rw (is, ← total) (sym (raw-named [] pl x (omega arith) (with_names f entries) bd row ready.distinct l
      (record { id = id; list = list }) q new (omega arith)))

-- NamesLeft, where m is refused
pub names_gone : (m : Answer (List IpmaEntry)) (n : ℕ) (t u : List ℕ) (a b : ℕ) → KeptIds t u → m ≡ refuse a b → NamesLeft m n t u
names_gone m n t u a b k e = record { same = k; told = λ pl f x ns ready none q is. let z : ◌≡◌ {A = ℕ} 0 1 = cc in absurd (omega arith) }

-- ipma-form, up to its entries
module _ (ids : List ℕ) (most p : ℕ) (s : List ℕ) where
  abbrev ipma_answer : Answer (List IpmaEntry)
  ipma_answer = whole (ipma_form ids most) p s

  ipma_gone : (a b : ℕ) → (full (upto 1)).read p s ≡ refuse a b → ipma_answer ≡ refuse a b
  unfolding ipma_form
  ipma_gone a b e = rw (whole_reads, reads_bind) (reads_refused (full (upto 1)) p s _ a b e)

  -- behind version and flags
  module _ (v : code.Full) (h : FullHere (upto 1) p s v) where
    ipma-short : length s < 8 → ipma_answer ≡ refuse 8 p
    unfolding ipma_form
    ipma-short l = rw (whole_reads, reads_bind) (reads_got (full (upto 1)) p s _ _ _ h.read ∙ rw reads_bind (reads_short p s 4 4 _ h.room l))

    module _ (room : 8 ≤ length s) (count : ℕ) (is : count ≡ be_at s 4 4) where
      ipma-many : 256 < count → ipma_answer ≡ refuse 9 p
      unfolding ipma_form
      ipma-many l =
          rw (whole_reads, reads_bind)
          (reads_got (full (upto 1)) p s _ _ _ h.read
          ∙ rw reads_bind (reads_field p s 4 4 _ room ∙ rw (reads_bind, ← is) (reads_no p (drop 8 s) 9 _ _ (lt-leb count 256 l))))

      ipma-then : count ≤ 256 → (w : ℕ) → w ≡ pick (eqb (v.flags % 2) 1) 2 1 →
          ipma_answer ≡ whole (many (ipma_entry_form ids most v.version w) count []) p (drop 8 s)
      unfolding ipma_form
      ipma-then l w e =
          rw (whole_reads, reads_bind)
          (reads_got (full (upto 1)) p s _ _ _ h.read
          ∙ rw reads_bind (reads_field p s 4 4 _ room
          ∙ rw (reads_bind, ← is, ← e) (reads_yes p (drop 8 s) 9 _ _ (le-leb count 256 l) ∙
          sym (whole_reads (many (ipma_entry_form ids most v.version w) count []) p (drop 8 s)))))

-- the same of a table t with n items: the code's answer r and the table u afterwards
module _ (t : List ℕ) (n most p : ℕ) (s : List ℕ) where
  abbrev Tells : Result ℕ Refusal → List ℕ → Type 0
  Tells r u = (r ≡ told associations_in (ipma_answer (ids_in t n) most p s)) × NamesLeft (ipma_answer (ids_in t n) most p s) n t u

  tells_refused : (y : Refusal) → ipma_answer (ids_in t n) most p s ≡ refuse y.number y.place → Tells (Err y) t
  unfolding told
  tells_refused y e = (sym (ap (told associations_in) e), names_gone _ n t t _ _ (kept_self t) e)

  pub read_gone : (y : Refusal) → Err y ≡ told full_of ((full (upto 1)).read p s) → Tells (Err y) t
  read_gone y e = tells_refused y (ipma_gone (ids_in t n) most p s _ _ (told-refused full_of _ y (sym e)))

  module _ (v : code.Full) (e : Ok v ≡ told full_of ((full (upto 1)).read p s)) where
    here : FullHere (upto 1) p s v
    here = full-here (upto 1) p s v (sym e)

    pub read_short : length s < 8 → Tells (Err (record { number = 8; place = p })) t
    read_short l = tells_refused _ (ipma-short (ids_in t n) most p s v here l)

    module _ (room : 8 ≤ length s) (count : ℕ) (is : count ≡ be_at s 4 4) where
      pub read-many : 256 < count → Tells (Err (record { number = 9; place = p })) t
      read-many l = tells_refused _ (ipma-many (ids_in t n) most p s v here room count is l)

      pub read_entries : count ≤ 256 → (w : ℕ) → w ≡ pick (eqb (v.flags % 2) 1) 2 1 → (m : Result ℕ Refusal) (u : List ℕ)
          → (m ≡ told associations_in (whole (many (ipma_entry_form (ids_in t n) most v.version w) count []) p (drop 8 s))) ×
          NamesLeft (whole (many (ipma_entry_form (ids_in t n) most v.version w) count []) p (drop 8 s)) n t u
          → Tells m u
      read_entries l w g m u k =
          let z = sym (ipma-then (ids_in t n) most p s v here room count is l w g) in
          (k.0 ∙ ap (told associations_in) z, subst (λ (a : Answer (List IpmaEntry)). NamesLeft a n t u) z k.1)

-- what the loop keeps: the entries read so far, from `from` to `at`, and the table with them
module _ (s : List ℕ) (from count most v w place n : ℕ) (t₀ : List ℕ) where
  abbrev entry : List IpmaEntry → Form IpmaEntry
  entry = ipma_entry_form (ids_in t₀ n) most v w

  abbrev names_answer : Answer (List IpmaEntry)
  names_answer = whole (many entry count []) place (drop from s)

  pub record NamesSo (t : List ℕ) (at used above i : ℕ) : Type 0 where
    pub entries : List IpmaEntry
    pub here : at ≤ length s
    pub turn : i ≤ count
    pub total : associations_in entries ≡ used
    pub few : used ≤ 2048
    pub last : Above entries above
    pub fresh : (x : ℕ) → above ≤ x → member x (named_in entries) ≡ false
    pub same : names_answer ≡ reads (many entry (count - i) entries) place (drop at s) (over place)
    pub kept : KeptIds t₀ t
    pub told : (pl : Places) (f : File) (x : List ℕ) → Ready f n → f.associations ≡ [] → t₀ ≡ raw_of [] pl f ++ x → t ≡ raw_of [] pl (with_names f entries) ++ x

  pub names_begin : from ≤ length s → NamesSo t₀ from 0 0 0
  unfolding associations_in
  names_begin h =
      let e : count ≡ count - 0 = omega arith in
      record {
        entries = [];
        here = h;
        turn = omega arith;
        total = refl;
        few = omega arith;
        last = λ x. sym (le-leb 0 x (omega arith));
        fresh = λ x l. refl;
        same = whole_reads (many entry count []) place (drop from s) ∙ ap (λ (i : ℕ). reads (many entry i []) place (drop from s) (over place)) e;
        kept = kept_self t₀;
        told = λ pl f x ready none is. is ∙ ap (λ (ns : List IpmaEntry). raw_of [] pl (with_names f ns) ++ x) none;
      }

  module _ (t : List ℕ) (at used above i : ℕ) (so : NamesSo t at used above i) where
    -- the end
    module _ (end : count ≤ i) where
      last-read : names_answer ≡ over place so.entries (drop at s)
      last-read = let e : count - i ≡ 0 = omega arith in so.same ∙ rw e (reads_none entry place (drop at s) (over place) so.entries)

      pub names-left : at < length s → (Err (record { number = 8; place = place }) ≡ told associations_in names_answer) × NamesLeft names_answer n t₀ t
      unfolding told
      names-left h = let e = last-read ∙ over-left place so.entries s at h in (sym (ap (told associations_in) e), names_gone names_answer n t₀ t _ _ so.kept e)

      pub names-done : length s ≤ at → (Ok used ≡ told associations_in names_answer) × NamesLeft names_answer n t₀ t
      unfolding told
      names-done h =
          let e = last-read ∙ over-end place so.entries s at h in (
            ap Ok (sym so.total) ∙ sym (ap (told associations_in) e),
            record {
              same = so.kept;
              told = λ pl f x ns ready none q is. so.told pl f x ready none is ∙
                  ap (λ (l : List IpmaEntry). raw_of [] pl (with_names f l) ++ x) (ok_inj _ _ (sym e ∙ q));
            },
          )

    -- one more
    module _ (more : i < count) (n-small : n ≤ 256) (u : List ℕ) where
      next : (m : Answer (Got IpmaEntry)) → (ipma_entry_form (ids_in t n) most v w so.entries).read place (drop at s) ≡ m →
          (entry so.entries).read place (drop at s) ≡ m
      next m e = ap (λ (ids : List ℕ). (ipma_entry_form ids most v w so.entries).read place (drop at s)) (sym (so.kept.ids n n-small)) ∙ e

      step : names_answer ≡ reads (entry so.entries) place (drop at s)
          (λ x q. reads (many entry (count - (i + 1)) (so.entries ++ (x ∷ []))) place q (over place))
      step =
          let e : count - i ≡ suc (count - (i + 1)) = omega arith in
          so.same ∙ rw e (reads_more entry place (drop at s) (over place) (count - (i + 1)) so.entries)

      pub names-refused : (y : Refusal) →
          NamedPutIs ((ipma_entry_form (ids_in t n) most v w so.entries).read place (drop at s)) s n above used t u (Err y) →
          (Err y ≡ told associations_in names_answer) × NamesLeft names_answer n t₀ u
      unfolding told
      names-refused y b =
          let q = step ∙ reads_refused (entry so.entries) place (drop at s) _ _ _ (next _ b.0) in
          (sym (ap (told associations_in) q), names_gone names_answer n t₀ u _ _ (kept_then t₀ t u so.kept b.1) q)

      module _ (y : NamedPut) (b : NamedPutIs ((ipma_entry_form (ids_in t n) most v w so.entries).read place (drop at s)) s n above used t u (Ok y)) where
        put-kept : KeptIds t u
        put-kept =
            let m = sets t (5136 + used) (association_words b.list) in
            subst (KeptIds t) (sym b.stored)
            (kept_then t m _
            (sets-high t (association_words b.list) (5136 + used) (omega arith) (rw length-map (omega (arith, b.fits, b.count-is))))
            (sets-row m y.row.0 _ _ (omega (arith, b.found.0))))

        pub names_more : NamesSo u y.end (used + y.k) (y.id + 1) (i + 1)
        names_more =
            let x : IpmaEntry = record { id = y.id; list = b.list } in
            record {
              entries = so.entries ++ (x ∷ []);
              here = b.inside;
              turn = omega arith;
              total = associations-more so.entries x ∙ omega (arith, so.total, b.count-is);
              few = b.fits;
              last = λ z. rises-more so.entries x z ∙ next_above y.id z;
              fresh = λ z l. rw map-append (member-other z y.id (named_in so.entries) (λ (q : z ≡ y.id). omega arith) ∙ so.fresh z (omega (arith, b.rising)));
              same = step ∙ reads_got (entry so.entries) place (drop at s) _ _ _ (next _ b.read);
              kept = kept_then t₀ t u so.kept put-kept;
              told = λ pl f z ready none is.
                  b.stored
                  ∙ ap (λ (j : ℕ). sets (sets t (5136 + used) (association_words b.list)) (16 + 16 * y.row.0 + 3) (span_words used j)) (sym b.count-is)
                  ∙ raw-more pl f z n ready so.entries t (so.told pl f z ready none is) used y.id y.row.0 b.list
                  so.total (omega (arith, b.fits, b.count-is)) (so.fresh y.id b.rising) b.found.0 b.found.1;
            }
