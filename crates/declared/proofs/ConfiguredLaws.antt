-- configured, association by association. Assumes nothing.
--   marked_from f id j s    the `hvcC` from the association with number j on are as they should be, behind those before it: one
--                          that is marked where s holds, and else none
use Prim.Native.Nat.{ℕ, ◌+◌, ◌≤◌, ◌<◌}
use mathlib.Core.Path.{◌≡◌, refl, sym, ap, ◌∙◌}
use mathlib.Core.List.{List, [], ◌∷◌}
use mathlib.Core.Bool.{Bool, true, false}
use lib.ListN.{length, get_or, drop, drop_of_length-le}
use borrow.Author.Tests.{eq-eqb, ne_eqb}
use Rattle.fields.proofs.FieldLaws.{pick_yes, pick_no}
use Rattle.fields.proofs.ListLaws.{left-from}
use Rattle.boxes.specs.Types.{hvcc, hvc1}
use Rattle.boxes.specs.Box.{kind_of}
use Rattle.contents.specs.Iinf.{Item}
use Rattle.contents.specs.Ipma.{Association}
use Rattle.contents.specs.File.{File}
use Rattle.rules.specs.Joined.{associations_of, types_of, property_at, no_association}
use Rattle.rules.specs.Places.{Places}
use Rattle.rules.specs.Rules.{configurations, one_marked, configured}
use Rattle.rules.specs.Words.{association_word}
use Rattle.views.specs.inner.View.{TableOf}
use Rattle.declared.proofs.NamedLaws.{box-at, type_at, marked-read, plain-read}

-- one_marked of what is left, behind one that is marked or behind none
unfoldable pub marked_behind : Bool → List Bool → Bool
marked_behind true ms = one_marked (true ∷ ms)
marked_behind false ms = one_marked ms

behind_twice : (m : Bool) (ms : List Bool) → marked_behind true (m ∷ ms) ≡ false
unfolding marked_behind one_marked
behind_twice m ms = refl

behind-plain : (ms : List Bool) → marked_behind false (false ∷ ms) ≡ false
unfolding marked_behind one_marked
behind-plain [] = refl
behind-plain (m ∷ ms) = refl

behind-first : (ms : List Bool) → marked_behind false (true ∷ ms) ≡ marked_behind true ms
unfolding marked_behind
behind-first ms = refl

behind-none : (s : Bool) → marked_behind s [] ≡ s
unfolding marked_behind one_marked
behind-none true = refl
behind-none false = refl

-- configurations: the association a at the front
module _ (f : File) (a : Association) (rest : List Association) where
  front_counted : kind_of (property_at f a.index) ≡ hvcc → configurations f (a ∷ rest) ≡ a.essential ∷ configurations f rest
  unfolding configurations
  front_counted e = pick_yes _ _ (eq-eqb _ hvcc e)

  front-other : (kind_of (property_at f a.index) ≡ hvcc → ⊥) → configurations f (a ∷ rest) ≡ configurations f rest
  unfolding configurations
  front-other n = pick_no _ _ (ne_eqb _ hvcc n)

abbrev pub marked_from : File → ℕ → ℕ → Bool → Bool
marked_from f id j s = marked_behind s (configurations f (drop j (associations_of f id)))

-- the association with number j, whose property is of type k
module _ {t head : List ℕ} {pl : Places} {f : File} (v : TableOf t head pl f) (id j : ℕ) (l : j < length (associations_of f id))
    (k : ℕ) (q : k ≡ get_or (types_of f id) j 0) (s : Bool) where
  abbrev here : Association
  here = get_or (associations_of f id) j no_association

  abbrev later : List Bool
  later = configurations f (drop (j + 1) (associations_of f id))

  kind-is : k ≡ kind_of (property_at f here.index)
  kind-is = q ∙ type_at f id j ∙ ap kind_of (box-at f id j)

  left_here : configurations f (drop j (associations_of f id)) ≡ configurations f (here ∷ drop (j + 1) (associations_of f id))
  left_here = ap (configurations f) (left-from (associations_of f id) j no_association l)

  pub marked_other : (r : Bool) → (k ≡ hvcc → ⊥) → r ≡ s → marked_from f id j s ≡ marked_from f id (j + 1) r
  marked_other r n y =
      ap (marked_behind s) (left_here ∙ front-other f _ _ (λ e. n (kind-is ∙ e))) ∙ ap (λ (s : Bool). marked_from f id (j + 1) s) (sym y)

  module _ (c : k ≡ hvcc) where
    counted : configurations f (drop j (associations_of f id)) ≡ here.essential ∷ later
    counted = left_here ∙ front_counted f _ _ (sym kind-is ∙ c)

    pub marked_twice : s ≡ true → marked_from f id j s ≡ false
    marked_twice z = ap (λ (s : Bool). marked_from f id j s) z ∙ ap (marked_behind true) counted ∙ behind_twice _ _

    -- w is its word
    module _ (z : s ≡ false) (w : ℕ) (e : w ≡ association_word here) where
      marked_by : (m : Bool) → here.essential ≡ m → marked_from f id j s ≡ marked_behind false (m ∷ later)
      marked_by m y = ap (λ (s : Bool). marked_from f id j s) z ∙ ap (marked_behind false) (counted ∙ ap (λ (m : Bool). m ∷ later) y)

      pub marked-plain : w < 32768 → marked_from f id j s ≡ false
      marked-plain h = marked_by false (plain-read v id j l w e h) ∙ behind-plain _

      pub marked-first : (r : Bool) → r ≡ true → 32768 ≤ w → marked_from f id j s ≡ marked_from f id (j + 1) r
      marked-first r y h =
          marked_by true (marked-read v id j l w e h) ∙ behind-first _ ∙ ap (λ (s : Bool). marked_from f id (j + 1) s) (sym y)

pub marked-end : (f : File) (id j : ℕ) (s : Bool) → length (associations_of f id) ≤ j → marked_from f id j s ≡ s
unfolding configurations
marked-end f id j s h = ap (λ (l : List Association). marked_behind s (configurations f l)) (drop_of_length-le (associations_of f id) h) ∙ behind-none s

-- configured, by the type of the item
module _ (f : File) (i : Item) where
  pub configured-other : (i.type ≡ hvc1 → ⊥) → configured f i ≡ true
  configured-other n = rw (ne_eqb i.type hvc1 n)

  pub configured-all : i.type ≡ hvc1 → configured f i ≡ marked_from f i.id 0 false
  unfolding marked_behind
  configured-all e = rw (eq-eqb i.type hvc1 e)
