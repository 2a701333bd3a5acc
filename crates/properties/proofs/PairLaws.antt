-- An `ipco` and the `ipma` behind it: what they say together, one way out at a time. Assumes nothing.
use Prim.Native.Nat.{ℕ, ◌+◌, ◌≤◌}
use native.Mathlib.Omega.{arith}
use mathlib.Core.Path.{◌≡◌, sym, ap, ◌∙◌}
use mathlib.Core.List.{List, [], ◌++◌}
use lib.ListN.{length}
use Rattle.boxes.specs.Answer.{Answer, ok, refuse, ◌>>=◌}
use Rattle.boxes.specs.Children.{contain}
use Rattle.boxes.specs.declared.Refusal.{Refusal}
use Rattle.std.specs.Prelude.{Result, Ok, Err}
use Rattle.boxes.specs.Told.{told}
use Rattle.boxes.proofs.ToldLaws.{told-ok, told-refused}
use Rattle.boxes.proofs.AnswerLaws.{ok_inj}
use Rattle.forms.specs.Form.{whole}
use Rattle.contents.specs.Ipco.{property_step}
use Rattle.contents.specs.Ipma.{IpmaEntry, associations_in, ipma_form}
use Rattle.contents.specs.Iprp.{IprpContent}
use Rattle.contents.specs.File.{File}
use Rattle.contents.proofs.PropertyLaws.{properties-sound}
use Rattle.records.specs.inner.Raw.{raw_of}
use Rattle.records.specs.inner.Rows.{ids_in}
use Rattle.records.specs.inner.Stage.{Kept, Ready, with_properties, with_names}
use Rattle.associations.specs.inner.Told.{NamesLeft}
use Rattle.associations.proofs.KeepLaws.{kept_then}
use Rattle.properties.specs.declared.Shown.{Shown}
use Rattle.properties.specs.inner.Told.{shown_of}
use Rattle.properties.specs.inner.Steps.{PropertiesLeft, pair_shown, PairLeft}

-- PairLeft, where m is refused
pair_gone : (m : Answer IprpContent) (base n : ℕ) (t u : List ℕ) (a b : ℕ) → Kept t u → m ≡ refuse a b → PairLeft m base n t u
pair_gone m base n t u a b k e = record { kept = k; told = λ pl f x v start ready np na q is. let z : ◌≡◌ {A = ℕ} 0 1 = cc in absurd (omega arith) }

-- pair_shown: the properties, and then the associations
module _ (t : List ℕ) (n base h e : ℕ) (p q : List ℕ) where
  abbrev pair_answer : Answer IprpContent
  pair_answer = pair_shown (ids_in t n) base h e p q

  abbrev PairTells : Result Shown Refusal → List ℕ → Type 0
  PairTells r u = (r ≡ told shown_of pair_answer) × PairLeft pair_answer (base + h) n t u

  pair_refused : (x : Refusal) (u : List ℕ) → Kept t u → pair_answer ≡ refuse x.number x.place → PairTells (Err x) u
  unfolding told
  pair_refused x u k g = (sym (ap (told shown_of) g), pair_gone pair_answer (base + h) n t u _ _ k g)

  module _ (u : List ℕ) (left : PropertiesLeft p base (base + h) t u) where
    pub pair_properties : (x : Refusal) → Err x ≡ told length (contain property_step base (base + h) [] p) → PairTells (Err x) u
    unfolding pair_shown ◌>>=◌
    pair_properties x g = pair_refused x u left.same.kept (rw (told-refused length (contain property_step base (base + h) [] p) x (sym g)))

    module _ (k : ℕ) (g : Ok k ≡ told length (contain property_step base (base + h) [] p)) where
      these : (ps : List (List ℕ)) × (contain property_step base (base + h) [] p ≡ ok ps) × (length ps ≡ k)
      these = told-ok length _ k (sym g)

      pub pair_few : k ≤ 256
      pair_few = let s = properties-sound base (base + h) p these.0 these.1 in omega (arith, s.few, these.2)

      module _ (few : n ≤ 256) (v : List ℕ) (names : NamesLeft (whole (ipma_form (ids_in u n) k) (base + e) q) n u v) where
        then : (m : Answer (List IpmaEntry)) → whole (ipma_form (ids_in u n) k) (base + e) q ≡ m →
            pair_answer ≡ (m >>= (λ ns. ok (record { properties = these.0; associations = ns })))
        unfolding pair_shown ◌>>=◌
        then m j =
            rw (these.1, these.2)
            (ap (λ (a : Answer (List IpmaEntry)). a >>= (λ ns. ok (record { properties = these.0; associations = ns })))
            (ap (λ (ids : List ℕ). whole (ipma_form ids k) (base + e) q) (sym (left.same.ids n few)) ∙ j))

        kept : Kept t v
        kept = (kept_then t u v left.same names.same).kept

        pub pair_names : (x : Refusal) → Err x ≡ told associations_in (whole (ipma_form (ids_in u n) k) (base + e) q) → PairTells (Err x) v
        unfolding ◌>>=◌
        pair_names x j = pair_refused x v kept (then _ (told-refused associations_in _ x (sym j)))

        pub pair_shown_lem : (j : ℕ) → Ok j ≡ told associations_in (whole (ipma_form (ids_in u n) k) (base + e) q) →
            PairTells (Ok (record { properties = k; associations = j })) v
        unfolding ◌>>=◌ told
        pair_shown_lem j g =
            let ns = told-ok associations_in _ j (sym g) in
            let a = then _ ns.1 in (
              rw (← these.2, ← ns.2) (sym (ap (told shown_of) a)),
              record {
                kept = kept;
                told = λ pl f x y start ready np na z place.
                    names.told pl (with_properties f these.0) x ns.0 (ready_with f ready) na ns.1
                    (left.told pl f x these.0 start ready.bounded np these.1 place)
                    ∙ ap (λ (m : IprpContent). raw_of [] pl (with_names (with_properties f m.properties) m.associations) ++ x) (ok_inj _ _ (sym a ∙ z));
              },
            )
          where
            ready_with : (f : File) → Ready f n → Ready (with_properties f these.0) n
            ready_with f ready =
                let b = ready.bounded in
                record {
                  count = ready.count;
                  distinct = ready.distinct;
                  bounded =
                      record {
                        few-items = b.few-items;
                        few-extents = b.few-extents;
                        few-properties = (properties-sound base (base + h) p these.0 these.1).few;
                        few-associations = b.few-associations;
                        few-targets = b.few-targets;
                      };
                }
