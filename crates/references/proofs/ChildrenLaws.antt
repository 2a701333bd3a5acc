-- The references of an `iref`, one at a time: what the loop over them uses. Assumes nothing.
use Prim.Native.Nat.{ℕ, ◌+◌, ◌-◌, ◌*◌, ◌<◌, ◌≤◌}
use native.Mathlib.Omega.{arith}
use mathlib.Core.Path.{◌≡◌, refl, sym, ap, ◌∙◌, subst}
use mathlib.Core.List.{List, [], ◌++◌}
use mathlib.Core.Bool.{Bool, true, false, not}
use lib.ListN.{length, get_or, take, drop}
use Rattle.std.specs.Prelude.{Result, Ok, Err}
use lib.Dec.{eqb}
use borrow.Author.Tests.{eqb-true, eq-eqb}
use Rattle.fields.specs.Lists.{member}
use Rattle.boxes.specs.Answer.{Answer, ok, refuse, ◌>>=◌}
use Rattle.boxes.specs.Types.{dimg, iloc}
use Rattle.boxes.specs.Children.{contain}
use Rattle.boxes.specs.inner.Header.{child_at}
use Rattle.boxes.specs.declared.Child.TheVariants as child
use Rattle.boxes.specs.declared.Refusal.{Refusal}
use Rattle.boxes.specs.Told.{told}
use Rattle.boxes.proofs.AnswerLaws.{bind_ok, ok_inj}
use Rattle.boxes.proofs.ToldLaws.{told-ok, told-refused}
use Rattle.boxes.proofs.ContainLaws.{children_from, Stood, stood, from-box, from-bad, from_spare, from_end, stood_body}
use Rattle.contents.specs.Iref.{Reference, IrefContent, no_references, referring_in, targets_in, with_derivation, with_link, kept_by, reference}
use Rattle.contents.specs.File.{File}
use Rattle.rules.specs.Places.{Places}
use Rattle.records.specs.inner.Raw.{raw_of}
use Rattle.records.specs.inner.Rows.{id_at, ids_in, Distinct}
use Rattle.records.specs.inner.Named.{NamedRows}
use Rattle.records.specs.inner.Stage.{Kept, Ready, with_references}
use Rattle.contents.proofs.SumLaws.{targets-more}
use Rattle.records.proofs.IdLaws.{ids-same}
use Rattle.records.proofs.KeptLaws.{kept_same, kept_on}
use Rattle.records.proofs.PickLaws.{named-same}
use Rattle.references.specs.inner.Told.{target_count}
use Rattle.references.specs.inner.Steps.{Marked, MarkedLinks, stepped, Stored, LinkStored, Added, Put, ChildrenLeft}
use Rattle.references.proofs.LinkLaws.{link-marked, link-named}
use Rattle.references.proofs.PutLaws.{iloc_no_dimg, kept-dimg, kept-link, kept-other}
use Rattle.references.proofs.StoredLaws.{stored-ids, stored-marked, stored-raw}

-- no type is both that are kept
two_kinds : {P : Type 0} (kind : ℕ) → eqb kind dimg ≡ true → eqb kind iloc ≡ true → P
two_kinds kind i j = let z : true ≡ false = sym i ∙ iloc_no_dimg kind (eqb-true kind iloc j) in cc

-- raw_of goes by the derivations, not by the links
raw_begin : (pl : Places) (f : File) → f.derivations ≡ [] → raw_of [] pl f ≡ raw_of [] pl (with_references f no_references)
unfolding raw_of
raw_begin pl f e = rw e

raw-linked : (pl : Places) (f : File) (c : IrefContent) (d : Reference) → raw_of [] pl (with_references f c) ≡ raw_of [] pl (with_references f (with_link c d))
unfolding raw_of
raw-linked pl f c d = refl

-- a file that is read as far as its references keeps the limits
ready_with : (f : File) (n : ℕ) (c : IrefContent) → Ready f n → targets_in c.derivations ≤ 2048 → Ready (with_references f c) n
ready_with f n c r h =
    let b = r.bounded in
    record {
      count = r.count;
      distinct = r.distinct;
      bounded = record {
        few-items = b.few-items;
        few-extents = b.few-extents;
        few-properties = b.few-properties;
        few-associations = b.few-associations;
        few-targets = h;
      };
    }

-- t and v are the table and the rows before
module _ (s : List ℕ) (w place base n : ℕ) (t v : List ℕ) where
  abbrev all_of : Answer IrefContent
  all_of = contain (reference (ids_in t n) w) place (base + 4) no_references (drop 4 s)

  -- what the loop keeps: the references so far, and that they are in the table u and the rows x
  pub record So (u x : List ℕ) (at used : ℕ) : Type 0 where
    pub before : IrefContent
    pub here : at ≤ length s
    pub count : used ≡ targets_in before.derivations
    pub few : used ≤ 2048
    pub same : all_of ≡ children_from (reference (ids_in t n) w) place base s at before
    pub ids : (k : ℕ) → k < n → id_at u k ≡ id_at t k
    pub marked : Marked u n before.derivations
    pub links : MarkedLinks u n before.links x
    pub kept : Kept t u
    pub told : (pl : Places) (f : File) (y : List ℕ) → Ready f n → f.derivations ≡ [] → t ≡ raw_of [] pl f ++ y →
        u ≡ raw_of [] pl (with_references f before) ++ y
    pub named : (pl : Places) (f : File) (y : List ℕ) → Ready f n → f.derivations ≡ [] → t ≡ raw_of [] pl f ++ y →
        NamedRows f.items f.locations [] v → NamedRows f.items f.locations before.links x

  pub begin : 4 ≤ length s → ((k : ℕ) → k < n → get_or t (16 + 16 * k + 6) 0 ≡ 0) → ((k : ℕ) → k < n → get_or v (2048 + k) 0 ≡ 0) → So t v 4 0
  unfolding targets_in
  begin h none clear =
      record {
        before = no_references;
        here = h;
        count = refl;
        few = omega arith;
        same = refl;
        ids = λ k l. refl;
        marked = λ k l. sym (ap not (eq-eqb _ _ (none k l)));
        links = λ k l. sym (ap not (eq-eqb _ _ (clear k l)));
        kept = kept_same t;
        told = λ pl f y r e q. q ∙ ap (λ (l : List ℕ). l ++ y) (raw_begin pl f e);
        named = λ pl f y r e q m. m;
      }

  -- what the code returns, u being the table and x the rows
  abbrev pub Tells : List ℕ → List ℕ → Result ℕ Refusal → Type 0
  Tells u x r = (r ≡ told target_count all_of) × ChildrenLeft all_of n t u v x

  refuses : (u x : List ℕ) (m q : ℕ) → Kept t u → all_of ≡ refuse m q → Tells u x (Err (record { number = m; place = q }))
  unfolding told
  refuses u x m q k e = (
    sym (ap (told target_count) e),
    record {
      kept = k;
      told = λ pl f y c r z o i. never c o;
      named = λ pl f y c r z o i. never c o;
    },
  )
    where
      never : {P : Type 0} (c : IrefContent) → all_of ≡ ok c → P
      never c o = cc

  module _ (u x : List ℕ) (at used : ℕ) (so : So u x at used) where
    pub at-bad : child_at s at ≡ child.Bad → Tells u x (Err (record { number = 3; place = base + at }))
    at-bad e = refuses u x 3 (base + at) so.kept (so.same ∙ from-bad s at (reference (ids_in t n) w) place base so.before e)

    pub at_spare : child_at s at ≡ child.Spare → Tells u x (Err (record { number = 3; place = place }))
    at_spare e = refuses u x 3 place so.kept (so.same ∙ from_spare s at (reference (ids_in t n) w) place base so.before e)

    pub at-end : child_at s at ≡ child.End → Tells u x (Ok used)
    unfolding told
    at-end e =
        let a : all_of ≡ ok so.before = so.same ∙ from_end s at (reference (ids_in t n) w) place base so.before e in (
          ap Ok so.count ∙ sym (ap (told target_count) a),
          record {
            kept = so.kept;
            told = λ pl f y c r z o i. so.told pl f y r z i ∙
                ap (λ (b : IrefContent). raw_of [] pl (with_references f b) ++ y) (ok_inj _ _ (sym a ∙ o));
            named = λ pl f y c r z o i m. subst (λ (b : IrefContent). NamedRows f.items f.locations b.links x)
                (ok_inj _ _ (sym a ∙ o)) (so.named pl f y r z i m);
          },
        )

    -- a child
    module _ (kind body end : ℕ) (e : child_at s at ≡ child.Whole kind body end) where
      there : Stood s at kind body end
      there = stood s at kind body end e

      pub further : (at < body) × (body ≤ end) × (end ≤ length s)
      further = let x = there in (x.order.0, x.order.1, x.inside)

      abbrev pub content : List ℕ
      content = take (end - body) (drop body s)

      step : all_of ≡ (stepped (ids_in t n) w kind (base + at) so.before content >>=
          (λ ds. children_from (reference (ids_in t n) w) place base s end ds))
      unfolding reference stepped
      step =
          so.same
          ∙ from-box s at (reference (ids_in t n) w) place base so.before kind body end e
          ∙ rw (there.its_kind, stood_body s at kind body end there)

      -- read into the table u' and the rows x'
      module _ (u' x' : List ℕ) (keeps : Kept u u') (r : Result ℕ Refusal)
          (put : Put w kind (base + at) content n used so.before u u' x x' r) where
        answered : (a : Answer IrefContent) → stepped (ids_in u n) w kind (base + at) so.before content ≡ a →
            all_of ≡ (a >>= (λ ds. children_from (reference (ids_in t n) w) place base s end ds))
        answered a q = step ∙ rw (← ids-same t u n so.ids, q)

        pub refused : (z : Refusal) → r ≡ Err z → Tells u' x' (Err z)
        unfolding ◌>>=◌
        refused z q = refuses u' x' z.number z.place (kept_on t u u' so.kept keeps) (answered _ (told-refused target_count _ z (sym put.answer ∙ q)))

        module _ (few : n ≤ 256) (room : 11280 ≤ length t) (wide : 2816 ≤ length x) (distinct : Distinct (ids_in t n)) (k : ℕ)
            (q : r ≡ Ok k) where
          apart : Distinct (ids_in u n)
          apart = rw (ids-same t u n so.ids) distinct

          -- what the answer keeps: the references before, and one more or none
          abbrev Step : IrefContent → Type 0
          Step c = (stepped (ids_in u n) w kind (base + at) so.before content ≡ ok c) × (k ≡ targets_in c.derivations)

          same_by : (c : IrefContent) → Step c → all_of ≡ children_from (reference (ids_in t n) w) place base s end c
          unfolding ◌>>=◌
          same_by c z = answered (ok c) z.0

          passed : u' ≡ u → ((i : ℕ) → 2048 ≤ i → get_or x' i 0 ≡ get_or x i 0) → Step so.before → So u' x' end k
          passed z past o =
              subst (λ (l : List ℕ). So l x' end k) (sym z)
              (record {
                before = so.before;
                here = there.inside;
                count = o.1;
                few = omega (arith, so.count, so.few, o.1);
                same = same_by so.before o;
                ids = so.ids;
                marked = so.marked;
                links = λ i h. so.links i h ∙ ap (λ (m : ℕ). not (eqb m 0)) (sym (past (2048 + i) (omega arith)));
                kept = so.kept;
                told = so.told;
                named = λ pl f y i j m l. named-same f.items f.locations so.before.links x x'
                    (λ a b. past a (omega arith)) (so.named pl f y i j m l);
              })

          linked : (d : Reference) → u' ≡ u → LinkStored n so.before.links d u x x' → Step (with_link so.before d) → So u' x' end k
          linked d z a o =
              subst (λ (l : List ℕ). So l x' end k) (sym z)
              (record {
                before = with_link so.before d;
                here = there.inside;
                count = o.1;
                few = omega (arith, so.count, so.few, o.1);
                same = same_by _ o;
                ids = so.ids;
                marked = so.marked;
                links = link-marked n so.before.links d u x x' few wide a apart so.links;
                kept = so.kept;
                told = λ pl f y i j m. so.told pl f y i j m ∙ ap (λ (l : List ℕ). l ++ y) (raw-linked pl f so.before d);
                named = λ pl f y i j m l. link-named n so.before.links d u x x' few wide a pl
                    (with_references f so.before) y (ready_with f n so.before i (omega (arith, so.count, so.few)))
                    (so.told pl f y i j m) (so.named pl f y i j m l);
              })

          added : (d : Reference) → Stored n used so.before.derivations d u u' → ((i : ℕ) → 2048 ≤ i → get_or x' i 0 ≡ get_or x i 0) →
              Step (with_derivation so.before d) → So u' x' end k
          added d z past o =
              let l : 11280 ≤ length u = omega (arith, so.kept.same_length) in
              let same-ids = stored-ids n used so.before.derivations d u u' few l z in
              record {
                before = with_derivation so.before d;
                here = there.inside;
                count = o.1;
                few = omega (arith, so.count, z.fits, o.1, targets-more so.before.derivations d);
                same = same_by _ o;
                ids = λ i h. same-ids i h ∙ so.ids i h;
                marked = stored-marked n used so.before.derivations d u u' few l z apart so.marked;
                links = λ i h. ap (λ (m : ℕ). member m (referring_in so.before.links)) (same-ids i h) ∙ so.links i h ∙
                    ap (λ (m : ℕ). not (eqb m 0)) (sym (past (2048 + i) (omega arith)));
                kept = kept_on t u u' so.kept keeps;
                told = λ pl f y i j m. stored-raw n used so.before d u u' z so.count pl f y i (so.told pl f y i j m);
                named = λ pl f y i j m l. named-same f.items f.locations so.before.links x x'
                    (λ a b. past a (omega arith)) (so.named pl f y i j m l);
              }

          pub grown : So u' x' end k
          unfolding stepped
          grown =
              let a = told-ok target_count _ k (sym put.answer ∙ q) in
              let b = bind_ok _ _ a.0 a.1 in
              by a.0 (a.1, sym a.2) b.0 (put.added b.0 b.1) (ok_inj _ _ b.2) (eqb kind dimg) refl (eqb kind iloc) refl
            where
              as_step : (c c' : IrefContent) → Step c → c' ≡ c → Step c'
              as_step c c' z i = subst Step (sym i) z

              by : (c : IrefContent) → Step c → (d : Reference) → Added kind n used so.before d u u' x x' →
                  kept_by kind so.before d ≡ c → (i : Bool) → eqb kind dimg ≡ i → (j : Bool) → eqb kind iloc ≡ j → So u' x' end k
              by c z d a p true i true j = two_kinds kind i j
              by c z d a p true i false j = added d (a.stored i) (a.past j) (as_step c _ z (sym (kept-dimg kind so.before d i) ∙ p))
              by c z d a p false i true j = linked d (a.same i) (a.linked j) (as_step c _ z (sym (kept-link kind so.before d i j) ∙ p))
              by c z d a p false i false j = passed (a.same i) (a.past j) (as_step c _ z (sym (kept-other kind so.before d i j) ∙ p))
