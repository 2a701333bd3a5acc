-- Put: the answer, the table and the rows after one reference, one way out at a time. Assumes nothing.
use Prim.Native.Nat.{ℕ, ◌+◌, ◌*◌, ◌<◌, ◌≤◌}
use native.Mathlib.Omega.{arith}
use mathlib.Core.Path.{◌≡◌, refl, sym, ap, ◌∙◌, subst}
use mathlib.Core.List.{List, [], ◌∷◌}
use mathlib.Core.Bool.{Bool, true, false, not, ◌&&◌, ◌||◌}
use lib.ListN.{length, get_or, set}
use Rattle.std.specs.Prelude.{Result, Ok, Err, None}
use lib.Seq.{sets}
use lib.Dec.{leb, eqb}
use borrow.Author.Tests.{eqb-true, eq-eqb, ne_eqb, le-leb, lt-leb}
use Rattle.fields.specs.Choice.{pick}
use Rattle.fields.specs.Field.{be_at}
use Rattle.fields.specs.Lists.{member}
use Rattle.fields.proofs.FieldLaws.{pick_yes, pick_no}
use Rattle.boxes.specs.Answer.{Answer, ok, refuse, ◌>>=◌}
use Rattle.boxes.specs.Types.{dimg, iloc}
use Rattle.boxes.specs.declared.Refusal.{Refusal}
use Rattle.boxes.specs.Told.{told}
use Rattle.boxes.proofs.AnswerLaws.{ok_inj}
use Rattle.boxes.proofs.ToldLaws.{told-ok, told-refused}
use Rattle.forms.specs.Form.{whole}
use Rattle.contents.specs.Iref.{Reference, IrefContent, referring_in, referring_by, targets_in, reference_form, with_derivation, with_link, kept_by}
use Rattle.records.specs.inner.Rows.{id_at, ids_in, FoundIs}
use Rattle.records.specs.inner.Stage.{Kept}
use Rattle.contents.proofs.SumLaws.{targets-more}
use Rattle.records.proofs.IdLaws.{row_listed, row_missing}
use Rattle.records.proofs.KeptLaws.{kept_on, kept_sets}
use Rattle.references.specs.inner.Steps.{
  targets_from,
  no_value,
  TargetsLeft,
  purpose_of,
  Marked,
  MarkedLinks,
  second_by,
  stepped,
  NamesPut,
  Added,
  Put,
}
use Rattle.references.specs.declared.Purpose.{Purpose}
use Rattle.references.specs.declared.Purpose.TheVariants.{Derives, Places, Other}
use Rattle.references.proofs.TargetLaws.{ReadFrom, targets-read}
use Rattle.references.proofs.NameLaws.{names_as}
use Rattle.references.proofs.ReferenceLaws.{source_cut, source_unlisted, source_twice, count_cut, count_none, count-over, count-targets}

pub never_both : {P : Type 0} (b : Bool) → b ≡ true → b ≡ false → P
never_both b y z = cc

-- purpose_of, by the tests of the code
pub purpose_dimg : (kind : ℕ) → kind ≡ dimg → Derives ≡ purpose_of kind
unfolding purpose_of
purpose_dimg kind e = sym (pick_yes _ _ (eq-eqb kind dimg e))

pub purpose_iloc : (kind : ℕ) → (kind ≡ dimg → ⊥) → kind ≡ iloc → Places ≡ purpose_of kind
unfolding purpose_of
purpose_iloc kind n e = sym (pick_no _ _ (ne_eqb kind dimg n) ∙ pick_yes _ _ (eq-eqb kind iloc e))

pub purpose_other : (kind : ℕ) → (kind ≡ dimg → ⊥) → (kind ≡ iloc → ⊥) → Other ≡ purpose_of kind
unfolding purpose_of
purpose_other kind n m = sym (pick_no _ _ (ne_eqb kind dimg n) ∙ pick_no _ _ (ne_eqb kind iloc m))

-- which types a purpose stands for
abbrev Kinds : Purpose → ℕ → Type 0
Kinds Derives kind = kind ≡ dimg
Kinds Places kind = kind ≡ iloc
Kinds Other kind = (eqb kind dimg ≡ false) × (eqb kind iloc ≡ false)

purpose_kinds : (kind : ℕ) → Kinds (purpose_of kind) kind
unfolding purpose_of pick
purpose_kinds kind = by (eqb kind dimg) refl (eqb kind iloc) refl
  where
    by : (a : Bool) → eqb kind dimg ≡ a → (b : Bool) → eqb kind iloc ≡ b → Kinds (purpose_of kind) kind
    by true e b q = rw e (eqb-true kind dimg e)
    by false e true q = rw (e, q) (eqb-true kind iloc q)
    by false e false q = rw (e, q) (e, q)

kinds_of : (q : Purpose) (kind : ℕ) → q ≡ purpose_of kind → Kinds q kind
kinds_of q kind e = subst (λ (a : Purpose). Kinds a kind) (sym e) (purpose_kinds kind)

-- a type that is kept is not the other
pub iloc_no_dimg : (kind : ℕ) → kind ≡ iloc → eqb kind dimg ≡ false
iloc_no_dimg kind e = rw e

-- kept_by, referring_by
module _ (kind : ℕ) (before : IrefContent) where
  pub kept-dimg : (d : Reference) → eqb kind dimg ≡ true → kept_by kind before d ≡ with_derivation before d
  unfolding kept_by
  kept-dimg d y = pick_yes _ _ y

  pub kept-link : (d : Reference) → eqb kind dimg ≡ false → eqb kind iloc ≡ true → kept_by kind before d ≡ with_link before d
  unfolding kept_by
  kept-link d y z = pick_no _ _ y ∙ pick_yes _ _ z

  pub kept-other : (d : Reference) → eqb kind dimg ≡ false → eqb kind iloc ≡ false → kept_by kind before d ≡ before
  unfolding kept_by
  kept-other d y z = pick_no _ _ y ∙ pick_no _ _ z

  by-dimg : kind ≡ dimg → referring_by kind before ≡ referring_in before.derivations
  unfolding referring_by pick
  by-dimg e = rw e

  by-iloc : kind ≡ iloc → referring_by kind before ≡ referring_in before.links
  unfolding referring_by pick
  by-iloc e = rw e

  pub fresh-dimg : (id : ℕ) → kind ≡ dimg → member id (referring_in before.derivations) ≡ false → member id (referring_by kind before) ≡ false
  fresh-dimg id e h = ap (member id) (by-dimg e) ∙ h

  pub fresh-iloc : (id : ℕ) → kind ≡ iloc → member id (referring_in before.links) ≡ false → member id (referring_by kind before) ≡ false
  fresh-iloc id e h = ap (member id) (by-iloc e) ∙ h

-- Put, by what the form gives
module _ (w kind p : ℕ) (s : List ℕ) (n used : ℕ) (before : IrefContent) (t u v x : List ℕ) where
  put_refused : (m q : ℕ) → whole (reference_form (ids_in t n) w kind before) p s ≡ refuse m q →
      Put w kind p s n used before t u v x (Err (record { number = m; place = q }))
  unfolding stepped told ◌>>=◌
  put_refused m q e =
      record {
        answer = rw e;
        added = λ d o. cc;
      }

  put-added : (d : Reference) → whole (reference_form (ids_in t n) w kind before) p s ≡ ok d →
      (m : ℕ) → m ≡ targets_in (kept_by kind before d).derivations → Added kind n used before d t u v x → Put w kind p s n used before t u v x (Ok m)
  unfolding stepped told ◌>>=◌
  put-added d e m c a =
      record {
        answer = rw (e, c);
        added = λ o q. subst (λ (r : Reference). Added kind n used before r t u v x) (ok_inj d o (sym e ∙ q)) a;
      }

module _ (t : List ℕ) (n w p used : ℕ) (s : List ℕ) (kind : ℕ) (before : IrefContent) (count : used ≡ targets_in before.derivations) where
  -- what the code returns, u being the table and v and x the rows
  abbrev pub Puts : List ℕ → List ℕ → List ℕ → Result ℕ Refusal → Type 0
  Puts u v x r = Put w kind p s n used before t u v x r

  pub put_source_cut : length s < w → (u v x : List ℕ) → Puts u v x (Err (record { number = 8; place = p }))
  put_source_cut l u v x = put_refused w kind p s n used before t u v x 8 p (source_cut (ids_in t n) w kind before p s l)

  module _ (l : w ≤ length s) (id : ℕ) (e : id ≡ be_at s 0 w) where
    pub put_source_unlisted : FoundIs t n id None → (u v x : List ℕ) → Puts u v x (Err (record { number = 11; place = p }))
    put_source_unlisted g u v x =
        put_refused w kind p s n used before t u v x 11 p (source_unlisted (ids_in t n) w kind before p s l (rw (← e) (row_missing t n id g)))

  module _ (l : w ≤ length s) (row : ℕ) (in_rows : row < n) (its_id : id_at t row ≡ be_at s 0 w) where
    listed : member (be_at s 0 w) (ids_in t n) ≡ true
    listed = row_listed t n (be_at s 0 w) row in_rows its_id

    -- the mark of the row
    module _ (v : List ℕ) (q : Purpose) (e : q ≡ purpose_of kind) (marked : Marked t n before.derivations)
        (links : MarkedLinks t n before.links v) where
      second-by : (a b : Bool) → second_by (pick a Derives (pick b Places Other)) t v row ≡ member (be_at s 0 w)
          (pick a (referring_in before.derivations) (pick b (referring_in before.links) []))
      unfolding second_by pick
      second-by true b = sym (marked row in_rows) ∙ ap (λ (i : ℕ). member i (referring_in before.derivations)) its_id
      second-by false true = sym (links row in_rows) ∙ ap (λ (i : ℕ). member i (referring_in before.links)) its_id
      second-by false false = refl

      second_is : second_by q t v row ≡ member (be_at s 0 w) (referring_by kind before)
      unfolding purpose_of referring_by
      second_is = ap (λ (a : Purpose). second_by a t v row) e ∙ second-by (eqb kind dimg) (eqb kind iloc)

      pub put_source_twice : second_by q t v row ≡ true → (u x : List ℕ) → Puts u v x (Err (record { number = 10; place = p }))
      put_source_twice y u x =
          put_refused w kind p s n used before t u v x 10 p (source_twice (ids_in t n) w kind before p s l listed (sym second_is ∙ y))

      pub source_fresh : second_by q t v row ≡ false → member (be_at s 0 w) (referring_by kind before) ≡ false
      source_fresh y = sym second_is ∙ y

    module _ (fresh : member (be_at s 0 w) (referring_by kind before) ≡ false) where
      pub put-count-cut : length s < w + 2 → (u v x : List ℕ) → Puts u v x (Err (record { number = 8; place = p }))
      put-count-cut h u v x = put_refused w kind p s n used before t u v x 8 p (count_cut (ids_in t n) w kind before p s l listed fresh h)

      module _ (h : w + 2 ≤ length s) (k : ℕ) (e : k ≡ be_at s w 2) where
        abbrev pub its_targets : Answer (List ℕ)
        its_targets = targets_from (ids_in t n) w k p s (w + 2)

        abbrev itself : List ℕ → Reference
        itself ts = record { id = be_at s 0 w; targets = ts }

        -- the tests of the count hold
        module _ (some : (eqb kind dimg && eqb k 0) ≡ false) (fits : (not (eqb kind dimg) || leb (targets_in before.derivations + k) 2048) ≡ true) where
          by-targets : (a : Answer (List ℕ)) → its_targets ≡ a →
              whole (reference_form (ids_in t n) w kind before) p s ≡ (a >>= (λ ts. ok (itself ts)))
          by-targets a q = count-targets (ids_in t n) w kind before p s l listed fresh h k e some fits ∙ rw q

          put-targets-refused : (r : Refusal) → told no_value its_targets ≡ Err r → (u v x : List ℕ) → Puts u v x (Err r)
          unfolding ◌>>=◌
          put-targets-refused r q u v x =
              put_refused w kind p s n used before t u v x r.number r.place (by-targets _ (told-refused no_value its_targets r q))

          targets-done : (ts : List ℕ) → its_targets ≡ ok ts → whole (reference_form (ids_in t n) w kind before) p s ≡ ok (itself ts)
          unfolding ◌>>=◌
          targets-done ts q = by-targets (ok ts) q

        -- a reference of another type than `dimg`
        module _ (y : eqb kind dimg ≡ false) where
          pub pass_refused : (r : Refusal) → told no_value its_targets ≡ Err r → (u v x : List ℕ) → Puts u v x (Err r)
          pass_refused r q u v x = put-targets-refused (rw y) (rw y) r q u v x

          pub pass_done : eqb kind iloc ≡ false → told no_value its_targets ≡ Ok tt → (u v x : List ℕ) → u ≡ t → x ≡ v → Puts u v x (Ok used)
          pass_done z q u v x same rows =
              let d = told-ok no_value its_targets tt q in
              put-added w kind p s n used before t u v x _ (targets-done (rw y) (rw y) d.0 d.1) used
              (count ∙ sym (ap (λ (c : IrefContent). targets_in c.derivations) (kept-other kind before (itself d.0) y z)))
              (record {
                stored = λ i. never_both _ i y;
                same = λ i. same;
                linked = λ i. never_both _ i z;
                past = λ i j m. ap (λ (a : List ℕ). get_or a j 0) rows;
              })

          -- an `iloc`
          pub link-done : eqb kind iloc ≡ true → told no_value its_targets ≡ Ok tt → (u v x : List ℕ) → u ≡ t → k < 65536 →
              member (be_at s 0 w) (referring_in before.links) ≡ false →
              NamesPut t n k (λ j. be_at s (w + 2 + w * j) w) row (set v (2048 + row) 1) x → Puts u v x (Ok used)
          link-done z q u v x same few new names =
              let d = told-ok no_value its_targets tt q in
              let r = targets-read (ids_in t n) w k p s (w + 2) d.0 h d.1 in
              let m : length d.0 ≡ k = omega (arith, r.count) in
              put-added w kind p s n used before t u v x _ (targets-done (rw y) (rw y) d.0 d.1) used
              (count ∙ sym (ap (λ (c : IrefContent). targets_in c.derivations) (kept-link kind before (itself d.0) y z)))
              (record {
                stored = λ i. never_both _ i y;
                same = λ i. same;
                linked = λ i. record {
                  row = row;
                  listed = in_rows;
                  its_id = its_id;
                  fresh = new;
                  few = omega arith;
                  names = names_as t n k (λ j. be_at s (w + 2 + w * j) w) (length d.0) (λ j. get_or d.0 j 0) m
                      (at_place d.0 r) row (set v (2048 + row) 1) x names;
                };
                past = λ i. never_both _ z i;
              })
            where
              at_place : (ts : List ℕ) → ReadFrom (ids_in t n) w p s k (w + 2) [] ts → (j : ℕ) → j < k → get_or ts j 0 ≡ be_at s (w + 2 + w * j) w
              at_place ts r j i = let o : 0 + j ≡ j = omega arith in ap (λ (m : ℕ). get_or ts m 0) (sym o) ∙ r.target j i

        -- a `dimg`
        module _ (y : eqb kind dimg ≡ true) where
          pub dimg-none : k ≡ 0 → (u v x : List ℕ) → Puts u v x (Err (record { number = 10; place = p }))
          dimg-none z u v x = put_refused w kind p s n used before t u v x 10 p
              (count_none (ids_in t n) w kind before p s l listed fresh h k e (rw (y, eq-eqb k 0 z)))

          module _ (some : k ≡ 0 → ⊥) where
            some_is : (eqb kind dimg && eqb k 0) ≡ false
            some_is = rw (y, ne_eqb k 0 some)

            pub dimg-over : 2048 < used + k → (u v x : List ℕ) → Puts u v x (Err (record { number = 9; place = p }))
            dimg-over z u v x =
                put_refused w kind p s n used before t u v x 9 p
                (count-over (ids_in t n) w kind before p s l listed fresh h k e some_is
                (rw (y, lt-leb (targets_in before.derivations + k) 2048 (omega arith))))

            module _ (fits : used + k ≤ 2048) where
              fits-is : (not (eqb kind dimg) || leb (targets_in before.derivations + k) 2048) ≡ true
              fits-is = rw (y, le-leb (targets_in before.derivations + k) 2048 (omega arith))

              pub dimg-refused : (r : Refusal) → told no_value its_targets ≡ Err r → (u v x : List ℕ) → Puts u v x (Err r)
              dimg-refused r q u v x = put-targets-refused some_is fits-is r q u v x

              pub dimg-done : eqb kind iloc ≡ false → member (be_at s 0 w) (referring_in before.derivations) ≡ false →
                  told no_value its_targets ≡ Ok tt → (u o v x : List ℕ) →
                  TargetsLeft its_targets k true used t u → o ≡ sets u (16 + 16 * row + 5) (used ∷ k ∷ []) →
                  ((i : ℕ) → 2048 ≤ i → get_or x i 0 ≡ get_or v i 0) → Puts o v x (Ok (used + k))
              unfolding pick
              dimg-done z new q u o v x left is past =
                  let d = told-ok no_value its_targets tt q in
                  let a = left.told d.0 d.1 in
                  let m = a.0 in
                  put-added w kind p s n used before t o v x _ (targets-done some_is fits-is d.0 d.1) (used + k)
                  (omega (
                    arith,
                    ap (λ (c : IrefContent). targets_in c.derivations) (kept-dimg kind before (itself d.0) y),
                    targets-more before.derivations (itself d.0),
                    m,
                    count,
                  ))
                  (record {
                    stored = λ i. record {
                      row = row;
                      listed = in_rows;
                      its_id = its_id;
                      fresh = new;
                      some = omega (arith, some);
                      fits = omega arith;
                      is = is ∙ rw (a.1, m);
                    };
                    same = λ i. never_both _ y i;
                    linked = λ i. never_both _ i z;
                    past = λ i. past;
                  })

-- the targets of a reference are all in its content, and listed
pub targets-listed : (ids : List ℕ) (w k p : ℕ) (s : List ℕ) → w + 2 ≤ length s → told no_value (targets_from ids w k p s (w + 2)) ≡ Ok tt
    → (w + 2 + w * k ≤ length s) × ((j : ℕ) → j < k → member (be_at s (w + 2 + w * j) w) ids ≡ true)
targets-listed ids w k p s h q =
    let d = told-ok no_value _ tt q in
    let r = targets-read ids w k p s (w + 2) d.0 h d.1 in
    (r.inside, r.listed)

-- Kept
pub kept-span : (t u v : List ℕ) (row a b : ℕ) → row < 256 → Kept t u → v ≡ sets u (16 + 16 * row + 5) (a ∷ b ∷ []) → Kept t v
kept-span t u v row a b h k e = kept_on t u v k (subst (Kept u) (sym e) (kept_sets u (16 + 16 * row + 5) (a ∷ b ∷ []) (omega arith)))

-- a purpose that is known by name: the type that it stands for
module _ (q : Purpose) (w kind p : ℕ) (s : List ℕ) (n used : ℕ) (before : IrefContent) (t u v x : List ℕ) (r : Result ℕ Refusal)
    (e : q ≡ purpose_of kind) (fresh : member (be_at s 0 w) (referring_by kind before) ≡ false) where
  pub as_dimg : q ≡ Derives → (member (be_at s 0 w) (referring_in before.derivations) ≡ false → Put w dimg p s n used before t u v x r)
      → Put w kind p s n used before t u v x r
  as_dimg i put =
      let z : kind ≡ dimg = subst (λ (a : Purpose). Kinds a kind) i (kinds_of q kind e) in
      subst (λ (k : ℕ). Put w k p s n used before t u v x r) (sym z) (put (sym (ap (member (be_at s 0 w)) (by-dimg kind before z)) ∙ fresh))

  pub as_iloc : q ≡ Places → (member (be_at s 0 w) (referring_in before.links) ≡ false → Put w iloc p s n used before t u v x r)
      → Put w kind p s n used before t u v x r
  as_iloc i put =
      let z : kind ≡ iloc = subst (λ (a : Purpose). Kinds a kind) i (kinds_of q kind e) in
      subst (λ (k : ℕ). Put w k p s n used before t u v x r) (sym z) (put (sym (ap (member (be_at s 0 w)) (by-iloc kind before z)) ∙ fresh))

pub as_other : (q : Purpose) (kind : ℕ) → q ≡ purpose_of kind → q ≡ Other → (eqb kind dimg ≡ false) × (eqb kind iloc ≡ false)
as_other q kind e i = subst (λ (a : Purpose). Kinds a kind) i (kinds_of q kind e)
