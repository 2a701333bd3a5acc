-- An `iprp`: its two children, and what they say together. Assumes nothing.
use Prim.Native.Nat.{ℕ, ◌+◌, ◌-◌, ◌≤◌}
use native.Mathlib.Omega.{arith}
use mathlib.Core.Path.{◌≡◌, refl, sym, ap, ◌∙◌}
use mathlib.Core.List.{List, [], ◌∷◌, ◌++◌, append-nil}
use mathlib.Core.Bool.{false}
use mathlib.Core.Logic.{◌⊎◌, inl, inr}
use lib.ListN.{length, take, drop, length-append, length-drop}
use lib.Seq.{take_all, take_at, drop-append-le, drop-append-add}
use lib.Dec.{eqb}
use borrow.Author.Tests.{ne_eqb}
use Rattle.fields.specs.Lists.{All}
use Rattle.fields.proofs.FieldLaws.{be_front}
use Rattle.boxes.specs.Answer.{ok, refuse, check, ◌>>=◌, ◌>>◌}
use Rattle.boxes.specs.Types.{ipco, ipma}
use Rattle.boxes.specs.Box.{head_of, kind_of, body_of, IsBox, flat}
use Rattle.boxes.specs.Children.{contain}
use Rattle.boxes.specs.declared.Refusal.{Refusal}
use Rattle.std.specs.Prelude.{Result, Ok, Err}
use Rattle.boxes.specs.Told.{told}
use Rattle.boxes.proofs.ToldLaws.{told-ok, told-refused}
use Rattle.boxes.proofs.BoxLaws.{head_least}
use Rattle.contents.specs.Iinf.{ids_of}
use Rattle.contents.specs.Iprp.{Pair, any_box, pair_of, iprp_content}
use Rattle.records.specs.inner.Rows.{ids_in}
use Rattle.fields.proofs.TestLaws.{and_none}
use Rattle.records.proofs.IdLaws.{raw_ids}
use Rattle.contents.proofs.PropertyLaws.{any-sound, pair_complete}
use Rattle.properties.specs.inner.Told.{shown_of, ShownLeft}
use Rattle.properties.specs.inner.Steps.{level_of, pair_shown, PairLeft}
use Rattle.properties.specs.declared.Level.{Level}
use Rattle.properties.specs.declared.Shown.{Shown}

-- pair_of, by what the code keeps of the children
pair_count : (p : ℕ) (bs : List (List ℕ)) → ((level_of bs).count ≡ 2 → ⊥) → pair_of p bs ≡ refuse 7 p
unfolding pair_of level_of
pair_count p [] h = refl
pair_count p (a ∷ []) h = refl
pair_count p (a ∷ b ∷ []) h = absurd (h refl)
pair_count p (a ∷ b ∷ c ∷ bs) h = refl

pair_first : (p : ℕ) (a b : List ℕ) → (kind_of a ≡ ipco → ⊥) → pair_of p (a ∷ b ∷ []) ≡ refuse 7 p
unfolding pair_of check ◌>>◌
pair_first p a b h = rw (ne_eqb (kind_of a) ipco h)

pair_second : (p : ℕ) (a b : List ℕ) → (kind_of b ≡ ipma → ⊥) → pair_of p (a ∷ b ∷ []) ≡ refuse 7 p
unfolding pair_of check ◌>>◌
pair_second p a b h = rw (ne_eqb (kind_of b) ipma h, and_none (eqb (kind_of a) ipco) false refl)

-- two boxes that are all of s
pub record Two (s : List ℕ) (bs : List (List ℕ)) : Type 0 where
  pub first : List ℕ
  pub second : List ℕ
  pub are : bs ≡ first ∷ second ∷ []
  pub first-box : IsBox first
  pub second-box : IsBox second
  pub joined : first ++ second ≡ s

two_of : (s : List ℕ) (bs : List (List ℕ)) → (level_of bs).count ≡ 2 → All IsBox bs → flat bs ≡ s → Two s bs
unfolding level_of flat
two_of s [] c a j = absurd (omega arith)
two_of s (x ∷ []) c a j = absurd (omega arith)
two_of s (x ∷ y ∷ []) c a j =
    record { first = x; second = y; are = refl; first-box = a.0; second-box = a.1.0; joined = ap (λ (r : List ℕ). x ++ r) (sym (append-nil y)) ∙ j }
two_of s (x ∷ y ∷ z ∷ bs) c a j = absurd (omega arith)

-- the contents of the two, as parts of s
module _ (a b : List ℕ) (first-box : IsBox a) (second-box : IsBox b) where
  first_part : take (length a - head_of a) (drop (head_of a) (a ++ b)) ≡ body_of a
  first_part =
      let h = first-box.header in
      let e : length (drop (head_of a) a) ≡ length a - head_of a = length-drop (head_of a) a in
      ap (take (length a - head_of a)) (drop-append-le (head_of a) a b h) ∙ take_at (drop (head_of a) a) b (length a - head_of a) e

  second-part : take (length a + length b - (length a + head_of b)) (drop (length a + head_of b) (a ++ b)) ≡ body_of b
  second-part =
      let e : length (drop (head_of b) b) ≤ length a + length b - (length a + head_of b) = rw length-drop (omega arith) in
      ap (take (length a + length b - (length a + head_of b))) (drop-append-add a b (head_of b)) ∙ take_all _ (drop (head_of b) b) e

  first_head : head_of (a ++ b) ≡ head_of a
  unfolding head_of
  first_head = rw (be_front a b 0 4 (omega (arith, room)))
    where
      room : 4 ≤ length a
      room = let h = first-box.header in let l = head_least a in omega arith

  -- where l is what the code keeps of the two
  pair_parts : (ids : List ℕ) (base : ℕ) (s : List ℕ) (l : Level) → a ++ b ≡ s
      → l ≡ record {
        count = 2;
        kind0 = kind_of a;
        body0 = head_of a;
        end0 = length a;
        kind1 = kind_of b;
        body1 =
            length a + head_of b;
        end1 = length a + length b;
      }
      → pair_shown ids base (head_of a) (length a) (body_of a) (body_of b) ≡ pair_shown ids base l.body0 l.end0
      (take (l.end0 - l.body0) (drop l.body0 s)) (take (l.end1 - l.body1) (drop l.body1 s))
  pair_parts ids base s l j e = rw (e, ← j, first_part, second-part)

-- shown
module _ (ids : List ℕ) (place base : ℕ) (s : List ℕ) where
  shown-level : (a b : ℕ) → contain any_box place base [] s ≡ refuse a b → iprp_content ids place base s ≡ refuse a b
  unfolding iprp_content ◌>>=◌
  shown-level a b e = rw e

  module _ (bs : List (List ℕ)) (e : contain any_box place base [] s ≡ ok bs) where
    shown-not : (a b : ℕ) → pair_of place bs ≡ refuse a b → iprp_content ids place base s ≡ refuse a b
    unfolding iprp_content ◌>>=◌
    shown-not a b q = rw (e, q)

    shown_pair : (two : Pair) → pair_of place bs ≡ ok two
        → iprp_content ids place base s ≡ pair_shown ids base (head_of two.first) (length two.first) (body_of two.first) (body_of two.second)
    unfolding iprp_content ◌>>=◌ pair_shown
    shown_pair two q = rw (e, q)

-- ShownLeft, where nothing is read
shown_gone : (s : List ℕ) (place base n : ℕ) (t : List ℕ) (a b : ℕ) →
    ((ids : List ℕ) → iprp_content ids place base s ≡ refuse a b) → ShownLeft s place base n t t
shown_gone s place base n t a b h =
    record {
      kept = record { same_length = refl; past = refl };
      told = λ pl f x v start ready np na q is. let g = h (ids_of f.items) in let z : ◌≡◌ {A = ℕ} 0 1 = cc in absurd (omega arith);
    }

-- what the code answers and leaves, by the children l that it keeps
module _ (s : List ℕ) (place base n : ℕ) (t : List ℕ) where
  abbrev ShownTells : Result Shown Refusal → List ℕ → Type 0
  ShownTells r u = (r ≡ told shown_of (iprp_content (ids_in t n) place base s)) × ShownLeft s place base n t u

  shown-refused : (x : Refusal) → ((ids : List ℕ) → iprp_content ids place base s ≡ refuse x.number x.place) → ShownTells (Err x) t
  unfolding told
  shown-refused x h = (sym (ap (told shown_of) (h (ids_in t n))), shown_gone s place base n t _ _ h)

  pub shown-children : (x : Refusal) → Err x ≡ told level_of (contain any_box place base [] s) → ShownTells (Err x) t
  shown-children x e = shown-refused x (λ ids. shown-level ids place base s _ _ (told-refused level_of _ x (sym e)))

  module _ (l : Level) (e : Ok l ≡ told level_of (contain any_box place base [] s)) where
    these : (bs : List (List ℕ)) × (contain any_box place base [] s ≡ ok bs) × (l ≡ level_of bs)
    these = let w = told-ok level_of _ l (sym e) in (w.0, w.1, sym w.2)

    unpaired : pair_of place these.0 ≡ refuse 7 place → ShownTells (Err (record { number = 7; place = place })) t
    unpaired q = shown-refused _ (λ ids. shown-not ids place base s these.0 these.1 7 place q)

    shown-count : (l.count ≡ 2 → ⊥) → ShownTells (Err (record { number = 7; place = place })) t
    shown-count h = unpaired (pair_count place these.0 (λ q. h (ap (λ (m : Level). m.count) these.2 ∙ q)))

    module _ (count : l.count ≡ 2) where
      both : Two s these.0
      both =
          let c = any-sound place base s these.0 these.1 in
          two_of s these.0 (ap (λ (m : Level). m.count) (sym these.2) ∙ count) c.all c.joined

      abbrev a : List ℕ
      a = both.first

      abbrev b : List ℕ
      b = both.second

      level-is : l ≡ record {
        count = 2;
        kind0 = kind_of a;
        body0 = head_of a;
        end0 = length a;
        kind1 = kind_of b;
        body1 = length a + head_of b;
        end1 = length a + length b;
      }
      unfolding level_of
      level-is = these.2 ∙ ap level_of both.are

      shown-first : (l.kind0 ≡ ipco → ⊥) → ShownTells (Err (record { number = 7; place = place })) t
      shown-first h = unpaired (ap (pair_of place) both.are ∙ pair_first place a b (λ q. h (ap (λ (m : Level). m.kind0) level-is ∙ q)))

      shown-second : (l.kind1 ≡ ipma → ⊥) → ShownTells (Err (record { number = 7; place = place })) t
      shown-second h = unpaired (ap (pair_of place) both.are ∙ pair_second place a b (λ q. h (ap (λ (m : Level). m.kind1) level-is ∙ q)))

      size : length a + length b ≡ length s
      size = sym (length-append a b) ∙ ap length both.joined

      pub shown-within : (l.body0 ≤ l.end0) × (l.end0 ≤ length s) × (l.body1 ≤ l.end1) × (l.end1 ≤ length s)
      shown-within =
          let z = size in
          let i = both.first-box.header in
          let j = both.second-box.header in
          rw level-is (omega arith, omega arith, omega arith, omega arith)

      module _ (h : l.kind0 ≡ ipco) (k : l.kind1 ≡ ipma) where
        paired : pair_of place these.0 ≡ ok (record { first = a; second = b })
        paired =
            ap (pair_of place) both.are
            ∙ pair_complete place a b (ap (λ (m : Level). m.kind0) (sym level-is) ∙ h) (ap (λ (m : Level). m.kind1) (sym level-is) ∙ k)

        same : (ids : List ℕ) → iprp_content ids place base s ≡ pair_shown ids base l.body0 l.end0
            (take (l.end0 - l.body0) (drop l.body0 s)) (take (l.end1 - l.body1) (drop l.body1 s))
        same ids = shown_pair ids place base s these.0 these.1 _ paired ∙
            pair_parts a b both.first-box both.second-box ids base s l both.joined level-is

        pub shown-both : (m : Result Shown Refusal) (u : List ℕ)
            → (m ≡ told shown_of (pair_shown (ids_in t n) base l.body0 l.end0
            (take (l.end0 - l.body0) (drop l.body0 s)) (take (l.end1 - l.body1) (drop l.body1 s))))
            × PairLeft (pair_shown (ids_in t n) base l.body0 l.end0
            (take (l.end0 - l.body0) (drop l.body0 s)) (take (l.end1 - l.body1) (drop l.body1 s))) (base
            + l.body0) n t u
            → ShownTells m u
        shown-both m u q = (
          q.0 ∙ ap (told shown_of) (sym (same (ids_in t n))),
          record {
            kept = q.1.kept;
            told = λ pl f x v start ready np na g is.
                q.1.told pl f x v (start ∙ ap (λ (i : ℕ). base + i) begins) ready np na
                (sym (same (ids_in t n)) ∙ ap (λ (ids : List ℕ). iprp_content ids place base s) (raw_ids pl f x t n ready.count is) ∙ g) is;
          },
        )
          where
            begins : head_of s ≡ l.body0
            begins = ap head_of (sym both.joined) ∙ first_head a b both.first-box both.second-box ∙ ap (λ (m : Level). m.body0) (sym level-is)

    -- any other children
    pub shown-other : ((l.count ≡ 2) × (l.kind0 ≡ ipco) × (l.kind1 ≡ ipma → ⊥)) ⊎ (((l.count ≡ 2) × (l.kind0 ≡ ipco → ⊥)) ⊎ (l.count ≡ 2 → ⊥)) →
        ShownTells (Err (record { number = 7; place = place })) t
    shown-other (inl h) = shown-second h.0 h.2
    shown-other (inr (inl h)) = shown-first h.0 h.1
    shown-other (inr (inr h)) = shown-count h
