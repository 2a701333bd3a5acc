-- The properties and the associations of an `iprp` are read exactly where its bytes spell them. Assumes nothing.
use Prim.Native.Nat.{ℕ, ◌≤◌}
use native.Mathlib.Omega.{arith}
use mathlib.Core.Path.{◌≡◌, refl, sym, ap, ◌∙◌, subst}
use mathlib.Core.List.{List, [], ◌∷◌, ◌++◌, append_assoc, append-nil}
use mathlib.Core.Bool.{true, false, ◌||◌}
use mathlib.Core.Logic.{◌⊎◌, inl, inr}
use lib.ListN.{length, length-append}
use lib.Dec.{eqb}
use borrow.Author.Tests.{eqb-true, eq-eqb, ltb-true, lt-ltb}
use Rattle.fields.specs.Choice.{pick}
use Rattle.fields.specs.Lists.{All}
use Rattle.fields.proofs.FieldLaws.{both}
use Rattle.boxes.specs.Answer.{Answer, ok, check, ◌>>◌}
use Rattle.boxes.specs.Types.{ispe, clap, irot, imir, ipco, ipma}
use Rattle.boxes.specs.Box.{kind_of, body_of, IsBox, flat}
use Rattle.boxes.specs.Children.{contain, once, Through, Children}
use Rattle.boxes.proofs.AnswerLaws.{bind_ok, ok_bind, then_ok, ok-then, check-ok, ok-check, ok_inj}
use Rattle.boxes.proofs.ChildLaws.{contain-sound, contain-complete, children-sound, children-complete}
use Rattle.forms.proofs.WholeLaws.{whole-sound, whole-complete}
use Rattle.contents.specs.Ipco.{ispe_form, bytes_form, good_content, property_step, GoodContent}
use Rattle.contents.specs.Ipma.{ipma_form}
use Rattle.contents.specs.Iprp.{IprpContent, Pair, any_box, pair_of, iprp_content}
use Rattle.contents.specs.Keeps.{PropertyStep, Properties, Shows}
use Rattle.fields.proofs.TestLaws.{and_both, both-and, or_either}

-- held
pub held-sound : (k p : ℕ) (s : List ℕ) → good_content k p s ≡ ok tt → GoodContent k s
unfolding good_content pick
held-sound k p s e =
    record {
      of_ispe = λ h. whole-sound ispe_form p s tt (of ispe h);
      of_clap = λ h. whole-sound (bytes_form 32) p s tt (of clap h);
      of_irot = λ h. whole-sound (bytes_form 1) p s tt (of irot h);
      of_imir = λ h. whole-sound (bytes_form 1) p s tt (of imir h);
    }
  where
    of : (j : ℕ) → k ≡ j → good_content j p s ≡ ok tt
    of j h = rw (← h) e

pub held-complete : (k p : ℕ) (s : List ℕ) → GoodContent k s → good_content k p s ≡ ok tt
unfolding good_content
held-complete k p s h =
    both Ok (eqb k ispe) _ _ (λ q. whole-complete ispe_form p s tt (h.of_ispe (eqb-true k ispe q)))
    (λ n. both Ok (eqb k clap) _ _ (λ q. whole-complete (bytes_form 32) p s tt (h.of_clap (eqb-true k clap q)))
    (λ n. both Ok (eqb k irot || eqb k imir) _ _ (λ q. whole-complete (bytes_form 1) p s tt (one (or_either (eqb k irot) _ q))) (λ n. refl)))
  where
    Ok : Answer (Unit {0}) → Type 0
    Ok m = m ≡ ok tt

    one : (eqb k irot ≡ true) ⊎ (eqb k imir ≡ true) → (bytes_form 1).Spells s tt
    one (inl q) = h.of_irot (eqb-true k irot q)
    one (inr q) = h.of_imir (eqb-true k imir q)

-- property: the next property is taken
abbrev pub Good : List ℕ → Type 0
Good b = GoodContent (kind_of b) (body_of b)

pub property-sound : (at : ℕ) (before : List (List ℕ)) (b : List ℕ) (after : List (List ℕ)) → property_step at before b ≡ ok after → PropertyStep before b after
unfolding property_step
property-sound at before b after e =
    let x = then_ok _ _ after e in
    let y = then_ok _ _ after x.2 in
    record {
      room = ltb-true _ _ (check-ok 9 at _ x.0 x.1);
      good = held-sound _ at _ y.1;
      kept = sym (ok_inj _ _ y.2);
    }

pub property-complete : (at : ℕ) (before : List (List ℕ)) (b : List ℕ) (after : List (List ℕ)) →
    PropertyStep before b after → property_step at before b ≡ ok after
unfolding property_step
property-complete at before b after h =
    ok-then _ _ tt (ok-check 9 at _ (lt-ltb _ _ h.room)) ∙ ok-then _ _ tt (held-complete _ at _ h.good) ∙ ap ok (sym h.kept)

-- the properties of an `ipco`
through-good : (s bs t : List (List ℕ)) → length s ≤ 256 → Through PropertyStep s bs t → (t ≡ s ++ bs) × (length t ≤ 256) × All Good bs
through-good s [] t l e = (sym e ∙ sym (append-nil s), subst (λ (r : List (List ℕ)). length r ≤ 256) e l, tt)
through-good s (b ∷ bs) t l (m, n, x) =
    let k : length m ≤ 256 = rw (n.kept, length-append) (omega (arith, n.room)) in
    let g = through-good m bs t k x in
    (g.0 ∙ ap (λ (r : List (List ℕ)). r ++ bs) n.kept ∙ append_assoc s (b ∷ []) bs, g.1, (n.good, g.2))

good-through : (s bs : List (List ℕ)) → length (s ++ bs) ≤ 256 → All Good bs → Through PropertyStep s bs (s ++ bs)
good-through s [] l a = sym (append-nil s)
good-through s (b ∷ bs) l a =
    let e : (s ++ (b ∷ [])) ++ bs ≡ s ++ (b ∷ bs) = append_assoc s (b ∷ []) bs in (
      s ++ (b ∷ []),
      record { room = omega (arith, length-append s (b ∷ bs)); good = a.0; kept = refl },
      subst (λ (r : List (List ℕ)). Through PropertyStep (s ++ (b ∷ [])) bs r) e (good-through (s ++ (b ∷ [])) bs (rw e l) a.1),
    )

pub properties-sound : (p at : ℕ) (s : List ℕ) (ps : List (List ℕ)) → contain property_step p at [] s ≡ ok ps → Properties s ps
properties-sound p at s ps e =
    let c = contain-sound PropertyStep property_step property-sound p at [] s ps e in
    let t = through-good [] c.boxes ps (omega arith) c.through in
    record { boxes = subst (All IsBox) (sym t.0) c.all; joined = ap flat t.0 ∙ c.joined; good = subst (All Good) (sym t.0) t.2; few = t.1 }

pub properties-complete : (p at : ℕ) (s : List ℕ) (ps : List (List ℕ)) → Properties s ps → contain property_step p at [] s ≡ ok ps
properties-complete p at s ps h =
    contain-complete PropertyStep property_step property-complete p at [] s ps
    (record { boxes = ps; all = h.boxes; joined = h.joined; through = good-through [] ps h.few h.good })

-- pair_of
pub record Paired (bs : List (List ℕ)) (two : Pair) : Type 0 where
  pub pair : bs ≡ two.first ∷ two.second ∷ []
  pub first_kind : kind_of two.first ≡ ipco
  pub second-kind : kind_of two.second ≡ ipma

pub pair_sound : (p : ℕ) (bs : List (List ℕ)) (two : Pair) → pair_of p bs ≡ ok two → Paired bs two
unfolding pair_of
pair_sound p [] two e = let z : ◌≡◌ {A = ℕ} 0 1 = cc in absurd (omega arith)
pair_sound p (a ∷ []) two e = let z : ◌≡◌ {A = ℕ} 0 1 = cc in absurd (omega arith)
pair_sound p (a ∷ b ∷ []) two e =
    let x = then_ok _ _ two e in
    let k = and_both (eqb (kind_of a) ipco) _ (check-ok 7 p _ x.0 x.1) in
    subst (Paired (a ∷ b ∷ [])) (ok_inj _ two x.2) (record { pair = refl; first_kind = eqb-true _ _ k.0; second-kind = eqb-true _ _ k.1 })
pair_sound p (a ∷ b ∷ c ∷ cs) two e = let z : ◌≡◌ {A = ℕ} 0 1 = cc in absurd (omega arith)

pub pair_complete : (p : ℕ) (a b : List ℕ) → kind_of a ≡ ipco → kind_of b ≡ ipma → pair_of p (a ∷ b ∷ []) ≡ ok (record { first = a; second = b })
unfolding pair_of
pair_complete p a b h k = ok-then _ _ tt (ok-check 7 p _ (both-and _ _ (eq-eqb _ _ h) (eq-eqb _ _ k)))

pub flat_pair : (a b : List ℕ) → flat (a ∷ b ∷ []) ≡ a ++ b
unfolding flat
flat_pair a b = ap (λ (r : List ℕ). a ++ r) (append-nil b)

-- any_box: children of which no type is known
pub any-sound : (p at : ℕ) (s : List ℕ) (bs : List (List ℕ)) → contain any_box p at [] s ≡ ok bs → Children (λ k. false) s bs
unfolding once check ◌>>◌
any-sound p at s bs e = children-sound (λ k. false) p at s bs e

pub any-complete : (p at : ℕ) (s : List ℕ) (bs : List (List ℕ)) → All IsBox bs → flat bs ≡ s → contain any_box p at [] s ≡ ok bs
unfolding once check ◌>>◌
any-complete p at s bs a j = children-complete (λ k. false) p at s bs
    (record { all = a; joined = j; few = λ k q. let z : ◌≡◌ {A = ℕ} 0 1 = cc in absurd (omega arith) })

-- shown
pub shown-sound : (ids : List ℕ) (p at : ℕ) (s : List ℕ) (v : IprpContent) → iprp_content ids p at s ≡ ok v → Shows ids s v
unfolding iprp_content
shown-sound ids p at s v e =
    let x = bind_ok _ _ v e in
    let y = bind_ok _ _ v x.2 in
    let two : Pair = y.0 in
    let q = bind_ok _ _ v y.2 in
    let n = bind_ok _ _ v q.2 in
    let c = any-sound p at s x.0 x.1 in
    let t = pair_sound p x.0 two y.1 in
    let a = subst (All IsBox) t.pair c.all in
    subst (Shows ids s) (ok_inj _ v n.2)
    (record {
      first = two.first;
      second = two.second;
      first-box = a.0;
      second-box = a.1.0;
      joined = sym (flat_pair _ _) ∙ ap flat (sym t.pair) ∙ c.joined;
      first_kind = t.first_kind;
      second-kind = t.second-kind;
      properties = properties-sound _ _ _ _ q.1;
      associations = whole-sound (ipma_form ids (length q.0)) _ _ _ n.1;
    })

pub shown-complete : (ids : List ℕ) (p at : ℕ) (s : List ℕ) (v : IprpContent) → Shows ids s v → iprp_content ids p at s ≡ ok v
unfolding iprp_content
shown-complete ids p at s v h =
    let a : List ℕ = h.first in
    let b : List ℕ = h.second in
    let n = length v.properties in
    ok_bind _ _ _ (any-complete p at s _ (h.first-box, (h.second-box, tt)) (flat_pair a b ∙ h.joined))
    ∙ ok_bind _ _ _ (pair_complete p a b h.first_kind h.second-kind)
    ∙ ok_bind _ _ _ (properties-complete _ _ _ _ h.properties)
    ∙ ok_bind _ _ _ (whole-complete (ipma_form ids n) _ _ _ h.associations)
