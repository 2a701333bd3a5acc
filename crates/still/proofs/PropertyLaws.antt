-- Properties over the table of an accepted file. Assumes nothing.
use Prim.Native.Nat.{ℕ, ◌-◌, ◌≤◌}
use native.Mathlib.Omega.{arith}
use mathlib.Core.Path.{◌≡◌, refl, sym, ap, ◌∙◌, subst}
use mathlib.Core.List.{List, [], ◌∷◌}
use mathlib.Core.Bool.{◌&&◌}
use mathlib.Core.Logic.{⊎_elim}
use lib.ListN.{length, get_or}
use lib.Dec.{leb}
use borrow.Author.Tests.{leb-true}
use Rattle.fields.proofs.TestLaws.{and_both}
use Rattle.std.specs.Prelude.{Ok, Err}
use Rattle.table.specs.declared.PropertyIndex.{PropertyIndex}
use Rattle.boxes.specs.Answer.{Answer, ok, refuse, check, ◌>>=◌, ◌>>◌}
use Rattle.boxes.proofs.AnswerLaws.{bind_ok, bind_refuse, then_ok, check-ok, ok_inj}
use Rattle.boxes.specs.declared.Refusal.{Refusal}
use Rattle.contents.specs.File.{File}
use Rattle.rules.specs.Joined.{associations_of, property_at, no_association}
use Rattle.rules.specs.Places.{Places, places_in, property_offset}
use Rattle.rules.specs.Opening.{opened, listed}
use Rattle.questions.specs.Questions.{Part, part_of, property_in, property}
use Rattle.views.specs.inner.View.{TableOf}
use Rattle.views.specs.Lies.{LiesAt}
use Rattle.views.proofs.TableLaws.{property-none}
use Rattle.asked.specs.Told.{index_in, told_asked}
use Rattle.still.specs.Told.{index_of, told_part, told_fault}
use Rattle.still.specs.Given.{PartPlaced}

-- told_asked
asked-refused : (m : Answer ℕ) (y : Refusal) → told_asked m ≡ Err y → m ≡ refuse y.number y.place
unfolding told_asked
asked-refused (ok r) y e = cc
asked-refused (refuse n p) y e = let i : n ≡ y.number = cc in let j : p ≡ y.place = cc in rw (i, j)

asked-index : (m : Answer ℕ) (i : PropertyIndex) → told_asked m ≡ Ok i → m ≡ ok i.0
unfolding told_asked
asked-index (ok k) i e = let j : k ≡ i.0 = cc in rw j
asked-index (refuse n p) i e = cc

-- property_in: the part that the index names
then-part : {A B : Type 0} (c : Answer (Unit {0})) (a : A) (g : A → B) → (c >> ok (g a)) ≡ ((c >> ok a) >>= (λ i. ok (g i)))
unfolding ◌>>◌ ◌>>=◌
then-part (ok u) a g = refl
then-part (refuse n p) a g = refl

property-by : (pl : Places) (f : File) (id k : ℕ) → property_in pl f id k ≡ (index_in f id k >>= (λ i. ok (part_of pl f i)))
unfolding property_in index_in ◌>>=◌
property-by pl f id k = by (listed f id)
  where
    by : (m : Answer ℕ) → (m >>= (λ r. check 25 id (leb 1 k && leb k (length (associations_of f id))) >>
        ok (part_of pl f (get_or (associations_of f id) (k - 1) no_association).index)))
        ≡ ((m >>= (λ r. check 25 id (leb 1 k && leb k (length (associations_of f id))) >>
        ok (get_or (associations_of f id) (k - 1) no_association).index)) >>= (λ i. ok (part_of pl f i)))
    by (ok r) = then-part (check 25 id (leb 1 k && leb k (length (associations_of f id))))
        (get_or (associations_of f id) (k - 1) no_association).index (part_of pl f)
    by (refuse n p) = refl

-- index_in: the property is there
pub index-there : (t head : List ℕ) (pl : Places) (f : File) (id k i : ℕ) → TableOf t head pl f → index_in f id k ≡ ok i → i ≤ length f.properties
unfolding index_in
index-there t head pl f id k i v e =
    let x = bind_ok _ _ i e in
    let y = then_ok _ _ i x.2 in
    let b = and_both (leb 1 k) (leb k (length (associations_of f id))) (check-ok 25 id _ y.0 y.1) in
    let l = leb-true 1 k b.0 in
    let m = leb-true k (length (associations_of f id)) b.1 in
    subst (λ (j : ℕ). j ≤ length f.properties) (ok_inj _ _ y.2) (v.sound.indexed id (k - 1) (omega arith))

-- property
module _ (total : ℕ) (head t : List ℕ) (id k : ℕ) where
  pub property-refused : (y : Refusal) → told_asked (index_of (length t) total head id k) ≡ Err y →
      property (length t) total head id k ≡ refuse y.number y.place
  unfolding index_of property ◌>>=◌
  property-refused y e =
      ⊎_elim (λ h. rw h) (λ h. rw (h.1, property-by (places_in total head) h.0 id k, h.2))
      (bind_refuse (opened (length t) total head) (λ f. index_in f id k) y.number y.place (asked-refused _ y e))

  pub property_off : (y : Refusal) → told_asked (index_of (length t) total head id k) ≡ Err y →
      ([] ≡ told_part (property (length t) total head id k)) ×
      ((y.number ∷ y.place ∷ []) ≡ told_fault (property (length t) total head id k))
  unfolding told_part told_fault
  property_off y e = let z = property-refused y e in (rw z, rw z)

  pub property-found : (i : PropertyIndex) → told_asked (index_of (length t) total head id k) ≡ Ok i → (f : File) ×
      (opened (length t) total head ≡ ok f) × (index_in f id k ≡ ok i.0)
  unfolding index_of
  property-found i e = bind_ok _ _ i.0 (asked-index _ i e)

  module _ (f : File) (i : ℕ) (o : opened (length t) total head ≡ ok f) (e : index_in f id k ≡ ok i) where
    pub property-is : property (length t) total head id k ≡ ok (part_of (places_in total head) f i)
    unfolding property ◌>>=◌
    property-is = rw (o, property-by (places_in total head) f id k, e)

    pub property-on : (property_at f i ≡ told_part (property (length t) total head id k)) ×
        ((0 ∷ 0 ∷ []) ≡ told_fault (property (length t) total head id k))
    unfolding told_part told_fault part_of
    property-on = (rw property-is, rw property-is)

    -- PartPlaced
    pub property-placed : (base place : ℕ × ℕ) →
        ((i ≡ 0 → ⊥) → LiesAt base (property_offset (places_in total head) f i) place) → PartPlaced head total t base place id k
    unfolding part_of
    property-placed base place lies p q some =
        let z : part_of (places_in total head) f i ≡ p = ok_inj _ _ (sym property-is ∙ q) in
        subst (λ (r : Part). LiesAt base r.offset place) z
        (lies (λ n. some (ap (λ (r : Part). r.bytes) (sym z) ∙ property-none f i n)))

  pub property-nowhere : (y : Refusal) → told_asked (index_of (length t) total head id k) ≡ Err y →
      (base place : ℕ × ℕ) → PartPlaced head total t base place id k
  property-nowhere y e base place p q some = never (sym (property-refused y e) ∙ q)
    where
      never : refuse y.number y.place ≡ ok p → LiesAt base p.offset place
      never a = let z : ◌≡◌ {A = ℕ} 0 1 = cc in absurd (omega arith)
