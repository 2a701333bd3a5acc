-- The properties of an `ipco`, one at a time: what the loop over them uses. Assumes nothing.
use Prim.Native.Nat.{ℕ, ◌+◌, ◌*◌, ◌-◌, ◌≤◌, ◌<◌}
use native.Mathlib.Omega.{arith}
use native.Mathlib.Numerals.{towards_suc}
use mathlib.Core.Path.{◌≡◌, refl, sym, ap, ◌∙◌, subst}
use mathlib.Core.List.{List, [], ◌∷◌, ◌++◌}
use lib.ListN.{length, take, drop, set, length-append}
use lib.Seq.{sets}
use lib.Dec.{ltb}
use borrow.Author.Tests.{ltb-true, lt-ltb, le-ltb}
use Rattle.boxes.specs.Answer.{Answer, ok, refuse, check, ◌>>=◌, ◌>>◌}
use Rattle.boxes.specs.Box.{kind_of, body_of, flat}
use Rattle.boxes.specs.Children.{contain}
use Rattle.boxes.specs.inner.Header.{child_at}
use Rattle.boxes.specs.declared.Child.TheVariants as child
use Rattle.boxes.specs.declared.Refusal.{Refusal}
use Rattle.std.specs.Prelude.{Result, Ok, Err}
use Rattle.boxes.specs.Told.{told}
use Rattle.boxes.proofs.ToldLaws.{told-ok, told-refused}
use Rattle.boxes.proofs.AnswerLaws.{then_ok, ok-then, check-ok, ok_inj}
use Rattle.boxes.proofs.ContainLaws.{children_from, Stood, stood, from-box, from-bad, from_spare, from_end, stood_body}
use Rattle.contents.specs.Ipco.{good_content, property_step}
use Rattle.contents.specs.File.{File}
use Rattle.rules.specs.Places.{Places}
use Rattle.records.specs.inner.Raw.{Bounded, raw_of}
use Rattle.records.specs.inner.Stage.{with_properties}
use Rattle.records.proofs.RawLaws.{raw-property}
use Rattle.associations.specs.inner.Told.{KeptIds}
use Rattle.associations.proofs.KeepLaws.{kept_self, kept_then, sets-high}
use Rattle.properties.specs.inner.Steps.{next_property, AddedIs, PropertiesLeft}
use Rattle.properties.proofs.LevelLaws.{flat-more}

-- sets, as the code's stores
module _ (t : List ℕ) where
  pub four_stores : (a b w x y z : ℕ) → a ≡ b → set (set (set (set t a w) (a + 1) x) (a + 2) y) (a + 3) z ≡ sets t b (w ∷ x ∷ y ∷ z ∷ [])
  four_stores a b w x y z e = rw (← e) (simp towards_suc)

-- _>>_
then-then : {A B C : Type 0} (m : Answer A) (k : Answer B) (l : Answer C) → ((m >> k) >> l) ≡ (m >> (k >> l))
unfolding ◌>>◌
then-then (ok a) k l = refl
then-then (refuse n p) k l = refl

-- next_property
next_many : (n kind place : ℕ) (s : List ℕ) → n ≡ 256 → next_property n kind place s ≡ refuse 9 place
unfolding check ◌>>◌
next_many n kind place s e = rw (le-ltb n 256 (omega arith))

next_held : (n kind place : ℕ) (s : List ℕ) → n < 256 → next_property n kind place s ≡ good_content kind place s
unfolding check ◌>>◌
next_held n kind place s h = rw (lt-ltb n 256 h)

next_few : (n kind place : ℕ) (s : List ℕ) → next_property n kind place s ≡ ok tt → n < 256
next_few n kind place s e = let x = then_ok (check 9 place (ltb n 256)) (good_content kind place s) tt e in
    ltb-true n 256 (check-ok 9 place (ltb n 256) x.0 x.1)

-- the code's answer about one property
module _ (n kind place size : ℕ) (s t : List ℕ) where
  abbrev Adds : List ℕ → Result (Unit {0}) Refusal → Type 0
  Adds u r = AddedIs (next_property n kind place s) n kind place size t u r

  pub added-many : n ≡ 256 → Adds t (Err (record { number = 9; place = place }))
  added-many e = (next_many n kind place s e, refl)

  module _ (room : n ≤ 256) (more : n ≡ 256 → ⊥) where
    few : n < 256
    few = omega (arith, more)

    pub added-bad : (x : Refusal) → Err x ≡ told (λ u. u) (good_content kind place s) → Adds t (Err x)
    added-bad x e = (next_held n kind place s few ∙ told-refused _ _ x (sym e), refl)

    pub added-good : Ok tt ≡ told (λ u. u) (good_content kind place s) → (u : List ℕ) →
        u ≡ sets t (4112 + 4 * (n + 1 - 1)) (kind ∷ place ∷ size ∷ 0 ∷ []) → Adds u (Ok tt)
    added-good e u q =
        let i : 4112 + 4 * (n + 1 - 1) ≡ 4112 + 4 * n = omega arith in
        (next_held n kind place s few ∙ (told-ok _ _ tt (sym e)).1, q ∙ ap (λ (k : ℕ). sets t k (kind ∷ place ∷ size ∷ 0 ∷ [])) i)

-- property
module _ (at : ℕ) (before : List (List ℕ)) (b : List ℕ) where
  property_next : property_step at before b ≡ (next_property (length before) (kind_of b) at (body_of b) >> ok (before ++ (b ∷ [])))
  unfolding property_step
  property_next = sym (then-then _ _ _)

  property-bad : (n p : ℕ) → next_property (length before) (kind_of b) at (body_of b) ≡ refuse n p → property_step at before b ≡ refuse n p
  unfolding ◌>>◌
  property-bad n p e = property_next ∙ ap (λ (m : Answer (Unit {0})). m >> ok (before ++ (b ∷ []))) e

  property-good : next_property (length before) (kind_of b) at (body_of b) ≡ ok tt → property_step at before b ≡ ok (before ++ (b ∷ []))
  property-good e = property_next ∙ ok-then _ _ tt e

-- the table of a file with one property more
raw-more : (pl : Places) (f : File) (x t : List ℕ) (ps : List (List ℕ)) (b : List ℕ) → Bounded f →
    t ≡ raw_of [] pl (with_properties f ps) ++ x → length ps < 256
    → sets t (4112 + 4 * length ps) (kind_of b ∷ (pl.properties + length (flat ps)) ∷ length b ∷ 0 ∷ []) ≡ raw_of [] pl
    (with_properties f (ps ++ (b ∷ []))) ++ x
raw-more pl f x t ps b bd is few =
    let bp : Bounded (with_properties f ps) =
    record {
      few-items = bd.few-items;
      few-extents = bd.few-extents;
      few-properties = omega arith;
      few-associations = bd.few-associations;
      few-targets = bd.few-targets;
    } in
    rw is (sym (raw-property [] pl x (omega arith) (with_properties f ps) bp b few))

-- what the loop keeps: the properties before `at`, and the table with them
module _ (s : List ℕ) (place base : ℕ) (t₀ : List ℕ) where
  abbrev properties_answer : Answer (List (List ℕ))
  properties_answer = contain property_step place base [] s

  pub record PropertiesSo (t : List ℕ) (at n : ℕ) : Type 0 where
    pub boxes : List (List ℕ)
    pub size : length (flat boxes) ≡ at
    pub here : at ≤ length s
    pub count : length boxes ≡ n
    pub few : n ≤ 256
    pub same : properties_answer ≡ children_from property_step place base s at boxes
    pub kept : KeptIds t₀ t
    pub told : (pl : Places) (f : File) (x : List ℕ) → pl.properties ≡ base → Bounded f → f.properties ≡ [] →
        t₀ ≡ raw_of [] pl f ++ x → t ≡ raw_of [] pl (with_properties f boxes) ++ x

  pub properties_begin : PropertiesSo t₀ 0 0
  unfolding flat
  properties_begin =
      let e : base ≡ base + 0 = omega arith in
      record {
        boxes = [];
        size = refl;
        here = omega arith;
        count = refl;
        few = omega arith;
        same = ap (λ (b : ℕ). contain property_step place b [] s) e;
        kept = kept_self t₀;
        told = λ pl f x start bd none is. is ∙ ap (λ (ps : List (List ℕ)). raw_of [] pl (with_properties f ps) ++ x) none;
      }

  -- what the code answers and leaves
  abbrev Tells : Result ℕ Refusal → List ℕ → Type 0
  Tells r u = (r ≡ told length properties_answer) × PropertiesLeft s place base t₀ u

  module _ (t : List ℕ) (at n : ℕ) (so : PropertiesSo t at n) where
    refused : (a b : ℕ) → children_from property_step place base s at so.boxes ≡ refuse a b → Tells (Err (record { number = a; place = b })) t
    unfolding told
    refused a b e =
        let q = so.same ∙ e in
        (sym (ap (told length) q), record { same = so.kept; told = λ pl f x ps start bd none g is. let z : ◌≡◌ {A = ℕ} 0 1 = cc in absurd (omega arith) })

    pub properties-bad : child_at s at ≡ child.Bad → Tells (Err (record { number = 3; place = base + at })) t
    properties-bad e = refused 3 (base + at) (from-bad s at property_step place base so.boxes e)

    pub properties_spare : child_at s at ≡ child.Spare → Tells (Err (record { number = 3; place = place })) t
    properties_spare e = refused 3 place (from_spare s at property_step place base so.boxes e)

    pub properties-end : child_at s at ≡ child.End → Tells (Ok n) t
    unfolding told
    properties-end e =
        let q = so.same ∙ from_end s at property_step place base so.boxes e in (
          ap Ok (sym so.count) ∙ sym (ap (told length) q),
          record {
            same = so.kept;
            told = λ pl f x ps start bd none g is. so.told pl f x start bd none is ∙
                ap (λ (l : List (List ℕ)). raw_of [] pl (with_properties f l) ++ x) (ok_inj _ _ (sym q ∙ g));
          },
        )

    -- one more
    module _ (kind body end : ℕ) (e : child_at s at ≡ child.Whole kind body end) where
      abbrev b : List ℕ
      b = take (end - at) (drop at s)

      there : Stood s at kind body end
      there = stood s at kind body end e

      pub properties_further : (at < body) × (body ≤ end) × (end ≤ length s)
      properties_further = let w = there in (w.order.0, w.order.1, w.inside)

      step : (m : Answer (List (List ℕ))) → property_step (base + at) so.boxes b ≡ m →
          children_from property_step place base s at so.boxes ≡ (m >>= (λ z. children_from property_step place base s end z))
      step m h = from-box s at property_step place base so.boxes kind body end e ∙
          ap (λ (a : Answer (List (List ℕ))). a >>= (λ z. children_from property_step place base s end z)) h

      module _ (u : List ℕ) where
        next_is : (m : Answer (Unit {0})) → next_property n kind (base + at) (take (end - body) (drop body s)) ≡ m →
            next_property (length so.boxes) (kind_of b) (base + at) (body_of b) ≡ m
        next_is m h =
            ap (λ (i : ℕ). next_property i (kind_of b) (base + at) (body_of b)) so.count
            ∙ ap (λ (k : ℕ). next_property n k (base + at) (body_of b)) there.its_kind
            ∙ ap (next_property n kind (base + at)) (sym (stood_body s at kind body end there))
            ∙ h

        pub properties-held : (x : Refusal) →
            AddedIs (next_property n kind (base + at) (take (end - body) (drop body s))) n kind (base + at) (end - at) t u (Err x) → Tells (Err x) u
        unfolding ◌>>=◌
        properties-held x a =
            let w = refused x.number x.place (step _ (property-bad (base + at) so.boxes b _ _ (next_is _ a.0))) in
            (w.0, subst (PropertiesLeft s place base t₀) (sym a.1) w.1)

        pub properties-more : AddedIs (next_property n kind (base + at) (take (end - body) (drop body s))) n kind (base + at) (end - at) t u (Ok tt) →
            PropertiesSo u end (n + 1)
        unfolding ◌>>=◌
        properties-more a =
            let w = there in
            let z = so.size in
            let c = so.count in
            let few : n < 256 = next_few n kind (base + at) _ a.0 in
            record {
              boxes = so.boxes ++ (b ∷ []);
              size = flat-more so.boxes b ∙ omega (arith, w.its_end);
              here = w.inside;
              count = rw length-append (omega arith);
              few = omega arith;
              same = so.same ∙ step _ (property-good (base + at) so.boxes b (next_is _ a.0));
              kept =
                  kept_then t₀ t u so.kept
                  (subst (KeptIds t) (sym a.1) (sets-high t (kind ∷ (base + at) ∷ (end - at) ∷ 0 ∷ []) (4112 + 4 * n) (omega arith) (omega arith)));
              told = λ pl f x start bd none at_first.
                  a.1 ∙ words pl start ∙ raw-more pl f x t so.boxes b bd (so.told pl f x start bd none at_first) (omega arith);
            }
          where
            words : (pl : Places) → pl.properties ≡ base
                → sets t (4112 + 4 * n) (kind ∷ (base + at) ∷ (end - at) ∷ 0 ∷ []) ≡ sets t
                (4112 + 4 * length so.boxes) (kind_of b ∷ (pl.properties + length (flat so.boxes)) ∷
                length b ∷ 0 ∷ [])
            words pl start =
                let i : 4112 + 4 * n ≡ 4112 + 4 * length so.boxes = omega (arith, so.count) in
                let j : base + at ≡ pl.properties + length (flat so.boxes) = omega (arith, so.size) in
                let l : end - at ≡ length b = omega (arith, there.its_end) in
                ap (λ (y : ℕ). sets t y (kind ∷ (base + at) ∷ (end - at) ∷ 0 ∷ [])) i
                ∙ ap (λ (y : ℕ). sets t (4112 + 4 * length so.boxes) (y ∷ (base + at) ∷ (end - at) ∷ 0 ∷ [])) (sym there.its_kind)
                ∙ ap (λ (y : ℕ). sets t (4112 + 4 * length so.boxes) (kind_of b ∷ y ∷ (end - at) ∷ 0 ∷ [])) j
                ∙ ap (λ (y : ℕ). sets t (4112 + 4 * length so.boxes) (kind_of b ∷ (pl.properties + length (flat so.boxes)) ∷ y ∷ 0 ∷ [])) l
