-- Judging a file that was read, from its table to that with sizes. Assumes nothing.
use Prim.Native.Nat.{ℕ, ◌+◌, ◌≤◌, ◌<◌}
use native.Mathlib.Omega.{arith}
use mathlib.Core.Path.{◌≡◌, refl, sym, ap, ◌∙◌, subst}
use mathlib.Core.List.{List, ◌++◌}
use mathlib.Core.Bool.{true, false}
use lib.ListN.{length, get_or}
use Rattle.std.specs.Prelude.{Result, Ok, Err, Some}
use Rattle.std.specs.Result.{result_and}
use Rattle.boxes.specs.Answer.{Answer, ok, refuse, check, ◌>>◌}
use Rattle.boxes.specs.Told.{told}
use Rattle.boxes.specs.declared.Refusal.{Refusal}
use Rattle.contents.specs.Iinf.{Item}
use Rattle.contents.specs.Iref.{targets_in}
use Rattle.contents.specs.File.{File}
use Rattle.pictures.specs.Scene.{Scene}
use Rattle.pictures.specs.Depth.{depth}
use Rattle.rules.specs.Joined.{row_of}
use Rattle.rules.specs.Places.{Places, places_in}
use Rattle.rules.specs.Derivations.{scene_of}
use Rattle.rules.specs.Rules.{good_primary, in_order, rule12, rule15-29-16, judged}
use Rattle.rules.specs.Words.{file_words}
use Rattle.records.specs.inner.Raw.{Bounded}
use Rattle.records.specs.inner.Rows.{TargetsRowed}
use Rattle.records.specs.inner.Named.{NamedIn}
use Rattle.views.specs.inner.View.{TableOf, AllPlaced, AllFed}
use Rattle.views.proofs.LookupLaws.{told_at, found-told}
use Rattle.views.proofs.ViewLaws.{read_view, raw-judging, placed-view}
use Rattle.views.proofs.FillLaws.{filled_none, filled-all, filled-target, words-sized}
use Rattle.depths.specs.inner.Inputs.{InputsAre}
use Rattle.derived.specs.inner.Told.{Resolved, Followed}
use Rattle.sizing.specs.inner.Drawn.{Drawn}
use Rattle.records.proofs.BoundLaws.{read_bounds}
use Rattle.judging.specs.inner.Order.{rule_by, places_judged, rest_judged, pictures_judged, Early, told_judged, Read, RestBy, PlacesBy, JudgedBy}
use Rattle.judging.specs.declared.Rule.TheVariants.{Derived}
use Rattle.judging.proofs.JudgedLaws.{told_off, told-on, told-good, fed-all}
use Rattle.judging.proofs.SceneLaws.{scene_long, inputs_are}

-- _>>_
then-then : (a b c : Answer (Unit {0})) → ((a >> b) >> c) ≡ (a >> (b >> c))
unfolding ◌>>◌
then-then (ok u) b c = refl
then-then (refuse n p) b c = refl

-- judged: 12, then 13, 30 and 14, then the rest
module _ (total : ℕ) (head : List ℕ) (f : File) where
  abbrev from_places : Answer (Unit {0})
  from_places = places_judged total head f >> rest_judged total head f

  judged_parts : judged total head f ≡ (rule12 f >> from_places)
  unfolding judged rest_judged pictures_judged rule_by
  judged_parts = simp then-then

  passed : true ≡ good_primary f → (rule12 f >> from_places) ≡ from_places
  unfolding rule12 check ◌>>◌
  passed e = rw (← e)

-- the rows that were read beside the targets are those of the items that they name
pub rowed_resolved : (t rows head : List ℕ) (pl : Places) (f : File) → TableOf t head pl f → TargetsRowed t rows → Resolved t rows f
rowed_resolved t rows head pl f v h k l =
    let id = get_or t (7184 + k) 0 in
    (told_at id f.items (record { 0 = get_or rows k 0 }) (found-told v id (get_or t 0 0)
    (Some (record { 0 = get_or rows k 0 })) v.items (h k (omega (arith, v.targets))))).0

-- what is refused leaves nothing to say of the table
pub refused-by : (head : List ℕ) (total : ℕ) (f : File) (x : List ℕ) (y : Refusal) (u : List ℕ) →
    Err y ≡ told_judged (judged total head f) → JudgedBy head total f x (Err y) u
unfolding told
refused-by head total f x y u e = record { answer = e; left = λ o. let z : ◌≡◌ {A = ℕ} 0 1 = cc in absurd (omega arith) }

module _ (head t x : List ℕ) (total idat : ℕ) (f : File) (w : Read t head total idat f x) where
  bounds : Bounded f
  bounds = (read_bounds total head f w.read).0

  pub read_here : TableOf t head (places_in total head) f
  read_here = subst (λ (u : List ℕ). TableOf u head (places_in total head) f) (sym w.is) (read_view total head f x w.read)

  pub early : Early t head total idat f
  early =
      record {
        view = read_here;
        judging = rw w.is (raw-judging total (places_in total head) f x);
        ends = w.ends;
      }

  pub followed : (rows : List ℕ) → total < 18446744073709551616 → AllPlaced total head f → 2816 ≤ length rows → NamedIn f rows →
      Followed t rows head total f
  followed rows few placed many named =
      record { small = few; read = w.read; view = read_here; placed = placed; many = many; named = named }

  -- 12
  pub primary_off : (p : ℕ) → false ≡ good_primary f → p ≡ f.primary → Err (record { number = 12; place = p }) ≡ told_judged (judged total head f)
  unfolding rule12 check told
  primary_off p e q = rw q (told_off (rule12 f) (from_places total head f) _
      (ap told_judged (ap (check 12 f.primary) (sym e)))) ∙ ap told_judged (sym (judged_parts total head f))

  pub primary-on : true ≡ good_primary f → (j : Result (Unit {0}) Refusal) (u : List ℕ) → PlacesBy head total f x j u → JudgedBy head total f x j u
  primary-on primary j u b = record { answer = b.answer ∙ ap told_judged (sym judged-on); left = λ o. b.left (sym judged-on ∙ o) }
    where
      judged-on : judged total head f ≡ from_places total head f
      judged-on = judged_parts total head f ∙ passed total head f primary

  -- 13, 30 and 14
  pub places_refused : (y : Refusal) (u : List ℕ) → told_judged (places_judged total head f) ≡ Err y → PlacesBy head total f x (Err y) u
  unfolding told
  places_refused y u e =
      let a : Err y ≡ told_judged (from_places total head f) = told_off _ _ y e in
      record { answer = a; left = λ o. let z : ◌≡◌ {A = ℕ} 0 1 = cc in absurd (omega arith) }

  -- 15 to 20
  pub places_kept : told_judged (places_judged total head f) ≡ Ok tt → (j : Result (Unit {0}) Refusal) (u : List ℕ) →
      RestBy head total f x j u → PlacesBy head total f x j u
  places_kept e j u b =
      let z = told-on (places_judged total head f) (rest_judged total head f) e in
      record { answer = b.answer ∙ ap told_judged (sym z); left = λ o. b.left (sym z ∙ o) }

  -- the table with sizes
  module _ (rows : List ℕ) (k : Followed t rows head total f) (fed : AllFed total head f) where
    filled-targets : (j : ℕ) → j < targets_in f.derivations → get_or (file_words total head f ++ x) (7184 + j) 0 ≡ get_or t (7184 + j) 0
    filled-targets j h =
        ap (λ (u : List ℕ). get_or (u ++ x) (7184 + j) 0) (sym (filled-all total head f k.small w.read k.placed))
        ∙ filled-target total head f bounds x (length f.items) j h
        ∙ sym (filled-target total head f bounds x 0 j h)
        ∙ ap (λ (u : List ℕ). get_or (u ++ x) (7184 + j) 0) (filled_none total head f)
        ∙ ap (λ (u : List ℕ). get_or u (7184 + j) 0) (sym w.is)

    pub drawn : (u : List ℕ) → u ≡ file_words total head f ++ x → Resolved t rows f → Drawn u rows head total f
    drawn u e r =
        record {
          followed = record {
            small = k.small;
            read = w.read;
            view = rw e (placed-view total head f x k.small w.read k.placed);
            placed = k.placed;
            many = k.many;
            named = k.named;
          };
          sizes = rw e (words-sized total head f bounds x);
          resolved = λ k h. r k h ∙ ap (λ (i : ℕ). row_of i f.items) (sym (rw e (filled-targets k h)));
          fed = fed;
        }

-- the rest: n items, their depths d, the resolved rows; what fill_sizes says, s, and leaves, u; what 17 says, v
module _ (head t x : List ℕ) (total idat : ℕ) (f : File) (w : Read t head total idat f x)
    (n : ℕ) (rows d u : List ℕ) (s v : Result (Unit {0}) Refusal) (counted : n ≡ get_or t 0 0)
    (followed : Followed t rows head total f) (resolved : Resolved t rows f)
    (derives : v ≡ told_judged (in_order (rule_by Derived total head f) 0 f.items))
    (declares : s ≡ told_judged (in_order (λ (r : ℕ) (i : Item). rule15-29-16 f i) 0 f.items))
    (deep : (s : Scene) → length s ≡ n → InputsAre t rows s → (r : ℕ) → r < n → get_or d r 0 ≡ depth s r)
    (fills : ((r : ℕ) → r < length f.items → get_or d r 0 ≡ depth (scene_of total head f) r) → s ≡ Ok tt → u ≡ file_words total head f ++ x) where
  -- what is refused leaves nothing to say of the table
  refused-rest : (y : Refusal) → Err y ≡ told_judged (rest_judged total head f) → RestBy head total f x (Err y) u
  unfolding told
  refused-rest y e = record { answer = e; left = λ o. let z : ◌≡◌ {A = ℕ} 0 1 = cc in absurd (omega arith) }

  -- 15, 29 and 16
  pub declared_off : (y : Refusal) → s ≡ Err y → RestBy head total f x (Err y) u
  unfolding rest_judged
  declared_off y e = refused-rest y (told_off _ _ y (sym declares ∙ e))

  module _ (all : s ≡ Ok tt) where
    declared-on : rest_judged total head f ≡ (in_order (rule_by Derived total head f) 0 f.items >> pictures_judged total head f)
    unfolding rest_judged
    declared-on = told-on _ _ (sym declares ∙ all)

    -- 17
    derived_off : (y : Refusal) → v ≡ Err y → RestBy head total f x (Err y) u
    derived_off y e = refused-rest y (told_off _ _ y (sym derives ∙ e) ∙ ap told_judged (sym declared-on))

    -- 18 to 20
    module _ (good : v ≡ Ok tt) where
      fed : AllFed total head f
      fed = fed-all total head f (told-good _ (sym derives ∙ good))

      counts : n ≡ length f.items
      counts = counted ∙ (read_here head t x total idat f w).items

      sized : u ≡ file_words total head f ++ x
      sized =
          let i = inputs_are total head f t rows (places_in total head) (read_here head t x total idat f w) resolved fed in
          fills (λ r h. deep (scene_of total head f) (scene_long total head f ∙ sym counts) i r (omega (arith, counts))) all

      pub rest-on : (j : Result (Unit {0}) Refusal) → ((f : File) → Drawn u rows head total f →
          j ≡ told_judged (pictures_judged total head f)) → RestBy head total f x j u
      rest-on j pictures =
          record {
            answer = pictures f (drawn head t x total idat f w rows followed fed u sized resolved) ∙
                ap told_judged (sym (declared-on ∙ told-on _ _ (sym derives ∙ good)));
            left = λ o. sized;
          }

  -- 17 waits for what fill_sizes says
  pub derived_waits : (y : Refusal) → v ≡ Err y → (j : Result (Unit {0}) Refusal) → j ≡ result_and s (Err y) → RestBy head total f x j u
  derived_waits y e j q = subst (λ (z : Result (Unit {0}) Refusal). RestBy head total f x z u) (sym q) (by s refl)
    where
      by : (z : Result (Unit {0}) Refusal) → s ≡ z → RestBy head total f x (result_and z (Err y)) u
      by (Ok tt) i = derived_off i y e
      by (Err r) i = declared_off r i

-- what is handed on
pub rest-handed : (head : List ℕ) (total : ℕ) (f : File) (x : List ℕ) (y : Result (Unit {0}) Refusal) (r : Refusal) (u : List ℕ) → y ≡ Err r →
    RestBy head total f x (Err r) u → RestBy head total f x y u
rest-handed head total f x y r u q b = subst (λ (z : Result (Unit {0}) Refusal). RestBy head total f x z u) (sym q) b

pub places-handed : (head : List ℕ) (total : ℕ) (f : File) (x : List ℕ) (y : Result (Unit {0}) Refusal) (r : Refusal) (u : List ℕ) → y ≡ Err r →
    PlacesBy head total f x (Err r) u → PlacesBy head total f x y u
places-handed head total f x y r u q b = subst (λ (z : Result (Unit {0}) Refusal). PlacesBy head total f x z u) (sym q) b
