-- The boxes of `meta`, `iinf`, `iprp`, `ipco` and `iref`: each container is refused exactly where it is broken. Assumes
-- nothing.
use Prim.Native.Nat.{ℕ, ◌+◌, ◌<◌}
use native.Mathlib.Omega.{arith}
use mathlib.Core.Path.{◌≡◌, refl, sym, ap, ◌∙◌, subst}
use mathlib.Core.List.{List, [], ◌∷◌}
use mathlib.Core.Bool.{Bool, true, false, ◌&&◌, ◌||◌, not}
use mathlib.Core.Logic.{◌⊎◌, inl, inr}
use lib.ListN.{length}
use lib.Dec.{eqb}
use borrow.Author.Tests.{ltb-true, ltb-false, lt-ltb, le-ltb, eqb-true, eqb-false, eq-eqb, ne_eqb}
use Rattle.fields.specs.Choice.{pick}
use Rattle.fields.specs.Lists.{All}
use Rattle.fields.proofs.FieldLaws.{both}
use Rattle.fields.proofs.TestLaws.{untrue, or_either, and-false}
use Rattle.boxes.specs.Answer.{Answer, ok, refuse}
use Rattle.boxes.specs.Types.{known, ispe, clap, irot, imir, ipco, ipma}
use Rattle.boxes.specs.Box.{head_of, kind_of, body_of, IsBox, flat}
use Rattle.boxes.specs.Children.{of_kind, filled, once}
use Rattle.boxes.proofs.AnswerLaws.{
  ok_bind,
  ok-then,
  ok_inj,
  check-ok,
  ok-check,
  with_refuse,
  with_then,
  refuse_bind,
  refuse-then,
  refuse-same,
  not-refused,
  check-refuse,
  refuse-check,
}
use Rattle.boxes.proofs.BoxLaws.{full-cut, cuts_same}
use Rattle.boxes.proofs.ChildLaws.{once-sound, once-complete}
use Rattle.forms.specs.Form.{WholeBreaks}
use Rattle.forms.proofs.WholeLaws.{whole_broken, broken_whole, front_broken, broken_front}
use Rattle.forms.proofs.LeadLaws.{lead_broken, broken_lead}
use Rattle.contents.specs.Full.{full, upto, id_bytes}
use Rattle.contents.specs.Iinf.{Item, infe_form, infe_step, iinf-count, items}
use Rattle.contents.specs.Ipco.{ispe_form, bytes_form, good_content, property_step}
use Rattle.contents.specs.Ipma.{ipma_form}
use Rattle.contents.specs.Iprp.{Pair, any_box, pair_of, iprp_content}
use Rattle.contents.specs.Iref.{IrefContent, no_references, reference_form, reference, references}
use Rattle.contents.specs.Keeps.{ItemStep, PropertyStep, ReferenceStep}
use Rattle.contents.specs.Breaks.{
  InfeBreaks,
  no_infe,
  in_infe,
  IinfBreaks,
  PropertyBreaks,
  too_many,
  in_ispe,
  in_clap,
  in_irot,
  in_imir,
  AnyStep,
  NeverBreaks,
  IpcoIpma,
  IprpBreaks,
  at_its_level,
  other-boxes,
  in_ipco,
  in_ipma,
  ReferenceBreaks,
  IrefBreaks,
  ChildStep,
  ChildTwice,
}
use Rattle.contents.proofs.ItemLaws.{infe-sound, infe-complete}
use Rattle.contents.proofs.PropertyLaws.{
  property-sound,
  property-complete,
  properties-sound,
  properties-complete,
  pair_sound,
  pair_complete,
  flat_pair,
  any-sound,
  any-complete,
}
use Rattle.contents.proofs.ReferenceLaws.{reference-sound, reference-complete}
use Rattle.contents.proofs.BoxBreakLaws.{Follows, contain_broken, broken_contain, exactly_broken, broken_exactly}

-- iinf
infe_broken : (at : ℕ) (before : List Item) (b : List ℕ) (n q : ℕ) → infe_step at before b ≡ refuse n q → (q ≡ at) × InfeBreaks before b n
unfolding infe_step
infe_broken at before b n q e =
    with_then _ _ n q e (λ x. let y = check-refuse 10 at _ n q x in (y.1.1, no_infe (eqb-false _ _ y.0) y.1.0))
    (λ u x w. with_refuse _ _ n q w
    (λ z. let h = front_broken (infe_form before) at _ n q z in (h.0, in_infe (eqb-true _ _ (check-ok 10 at _ u x)) h.1))
    (λ i z v. not-refused _ n q v))

broken_infe : (at : ℕ) (before : List Item) (b : List ℕ) (n : ℕ) → InfeBreaks before b n → infe_step at before b ≡ refuse n at
unfolding infe_step
broken_infe at before b n (no_infe h e) = refuse-then _ n at (refuse-check 10 at _ n (ne_eqb _ _ h) e) _
broken_infe at before b n (in_infe k h) =
    ok-then _ _ tt (ok-check 10 at _ (eq-eqb _ _ k)) ∙ refuse_bind _ n at (broken_front (infe_form before) at _ n h) _

infe_steps : Follows ItemStep InfeBreaks infe_step
infe_steps = record { sound = infe-sound; complete = infe-complete; breaks = infe_broken; broken = broken_infe }

module _ (p at : ℕ) (s : List ℕ) (n q : ℕ) where
  pub items_broken : items p at s ≡ refuse n q → IinfBreaks p at s n q
  unfolding items
  items_broken e = lead_broken _ _ iinf-count p at s n q (λ c a r x. exactly_broken infe_step infe_steps p c a [] r n q x) e

  pub broken_items : IinfBreaks p at s n q → items p at s ≡ refuse n q
  unfolding items
  broken_items h = broken_lead _ _ iinf-count p at s n q (λ c a r x. broken_exactly infe_step infe_steps p c a [] r n q x) h

-- ipco
module _ (before : List (List ℕ)) (b : List ℕ) (at n : ℕ) where
  held_broken : (q : ℕ) → length before < 256 → good_content (kind_of b) at (body_of b) ≡ refuse n q → (q ≡ at) × PropertyBreaks before b n
  unfolding good_content
  held_broken q l =
      both Goal (eqb (kind_of b) ispe) _ _ (λ e x. let h = whole_broken ispe_form at _ n q x in (h.0, in_ispe l (eqb-true _ _ e) h.1))
      (λ e. both Goal (eqb (kind_of b) clap) _ _
      (λ e x. let h = whole_broken (bytes_form 32) at _ n q x in (h.0, in_clap l (eqb-true _ _ e) h.1))
      (λ e. both Goal (eqb (kind_of b) irot || eqb (kind_of b) imir) _ _
      (λ e x. let h = whole_broken (bytes_form 1) at _ n q x in (h.0, one (or_either (eqb (kind_of b) irot) _ e) h.1))
      (λ e x. not-refused tt n q x)))
    where
      Goal : Answer (Unit {0}) → Type 0
      Goal m = m ≡ refuse n q → (q ≡ at) × PropertyBreaks before b n

      one : (eqb (kind_of b) irot ≡ true) ⊎ (eqb (kind_of b) imir ≡ true) → WholeBreaks (bytes_form 1) n (body_of b) →
          PropertyBreaks before b n
      one (inl e) h = in_irot l (eqb-true _ _ e) h
      one (inr e) h = in_imir l (eqb-true _ _ e) h

  property_broken : (q : ℕ) → property_step at before b ≡ refuse n q → (q ≡ at) × PropertyBreaks before b n
  unfolding property_step
  property_broken q e =
      with_then _ _ n q e (λ x. let y = check-refuse 9 at _ n q x in (y.1.1, too_many (ltb-false _ _ y.0) y.1.0))
      (λ u x w. with_then _ _ n q w (held_broken q (ltb-true _ _ (check-ok 9 at _ u x))) (λ i z v. not-refused _ n q v))

  -- a content that breaks its form
  held_off : length before < 256 → good_content (kind_of b) at (body_of b) ≡ refuse n at → property_step at before b ≡ refuse n at
  unfolding property_step
  held_off l e = ok-then _ _ tt (ok-check 9 at _ (lt-ltb _ _ l)) ∙ refuse-then _ n at e _

  of_kind_lem : (k : ℕ) → kind_of b ≡ k → good_content k at (body_of b) ≡ refuse n at → good_content (kind_of b) at (body_of b) ≡ refuse n at
  of_kind_lem k e h = ap (λ (j : ℕ). good_content j at (body_of b)) e ∙ h

  broken_property : PropertyBreaks before b n → property_step at before b ≡ refuse n at
  unfolding property_step good_content pick
  broken_property (too_many l e) = refuse-then _ n at (refuse-check 9 at _ n (le-ltb _ _ l) e) _
  broken_property (in_ispe l e h) = held_off l (of_kind_lem ispe e (broken_whole ispe_form at _ n h))
  broken_property (in_clap l e h) = held_off l (of_kind_lem clap e (broken_whole (bytes_form 32) at _ n h))
  broken_property (in_irot l e h) = held_off l (of_kind_lem irot e (broken_whole (bytes_form 1) at _ n h))
  broken_property (in_imir l e h) = held_off l (of_kind_lem imir e (broken_whole (bytes_form 1) at _ n h))

property_steps : Follows PropertyStep PropertyBreaks property_step
property_steps = record {
  sound = property-sound;
  complete = property-complete;
  breaks = λ at z b n q e. property_broken z b at n q e;
  broken = λ at z b n h. broken_property z b at n h;
}

-- iprp
any_steps : Follows AnyStep NeverBreaks any_box
any_steps = record {
  sound = λ at z b t e. sym (ok_inj _ _ e);
  complete = λ at z b t e. ap ok (sym e);
  breaks = λ at z b n q e. not-refused _ n q e;
  broken = λ at z b n h. absurd h;
}

pair_of_lem : (p : ℕ) (bs : List (List ℕ)) (s : List ℕ) (two : Pair) → All IsBox bs → flat bs ≡ s → pair_of p bs ≡ ok two →
    IpcoIpma s two.first two.second
pair_of_lem p bs s two a j e =
    let t = pair_sound p bs two e in
    let b = subst (All IsBox) t.pair a in
    record {
      first-box = b.0;
      second-box = b.1.0;
      joined = sym (flat_pair _ _) ∙ ap flat (sym t.pair) ∙ j;
      first_kind = t.first_kind;
      second-kind = t.second-kind;
    }

pair_number : (p : ℕ) (bs : List (List ℕ)) (n q : ℕ) → pair_of p bs ≡ refuse n q → (n ≡ 7) × (q ≡ p)
unfolding pair_of
pair_number p [] n q e = refuse-same 7 p n q e
pair_number p (a ∷ []) n q e = refuse-same 7 p n q e
pair_number p (a ∷ b ∷ []) n q e = with_then _ _ n q e (λ x. (check-refuse 7 p _ n q x).1) (λ u x y. not-refused _ n q y)
pair_number p (a ∷ b ∷ c ∷ cs) n q e = refuse-same 7 p n q e

module _ (p : ℕ) (bs : List (List ℕ)) (s : List ℕ) (a : All IsBox bs) (j : flat bs ≡ s) where
  -- the boxes of s are the two
  the_pair : (c d : List ℕ) → IpcoIpma s c d → bs ≡ c ∷ d ∷ []
  the_pair c d h =
      (cuts_same s bs (c ∷ d ∷ []) [] [] (full-cut s bs a j)
      (full-cut s (c ∷ d ∷ []) (h.first-box, (h.second-box, tt)) (flat_pair c d ∙ h.joined))).0

  not_the_pair : (n q : ℕ) → pair_of p bs ≡ refuse n q → (c d : List ℕ) → IpcoIpma s c d → ⊥
  not_the_pair n q e c d h =
      not-refused _ n q (sym (pair_complete p c d h.first_kind h.second-kind) ∙ ap (pair_of p) (sym (the_pair c d h)) ∙ e)

no_pair : (p : ℕ) (bs : List (List ℕ)) → All IsBox bs → ((c d : List ℕ) → IpcoIpma (flat bs) c d → ⊥) → pair_of p bs ≡ refuse 7 p
unfolding pair_of
no_pair p [] a h = refl
no_pair p (c ∷ []) a h = refl
no_pair p (c ∷ d ∷ []) a h =
    refuse-then _ 7 p (refuse-check 7 p _ 7 (and-false (eqb (kind_of c) ipco) (eqb (kind_of d) ipma) (λ x y.
    h c d (record {
      first-box = a.0;
      second-box = a.1.0;
      joined = sym (flat_pair c d);
      first_kind = eqb-true _ _ x;
      second-kind = eqb-true _ _ y;
    }))) refl) _
no_pair p (c ∷ d ∷ e ∷ bs) a h = refl

module _ (ids : List ℕ) (p at : ℕ) (s : List ℕ) (n q : ℕ) where
  pub iprp_broken : iprp_content ids p at s ≡ refuse n q → IprpBreaks ids p at s n q
  unfolding iprp_content
  iprp_broken e =
      with_refuse _ _ n q e (λ x. at_its_level (contain_broken any_box any_steps p at [] s n q x)) (λ bs c e.
      let k = any-sound p at s bs c in
      with_refuse _ _ n q e (λ x.
      let y = pair_number p bs n q x in
      other-boxes bs k.all k.joined (not_the_pair p bs s k.all k.joined n q x) y.0 y.1) (λ two t e.
      let w = pair_of_lem p bs s two k.all k.joined t in
      with_refuse _ _ n q e (λ x. in_ipco _ _ w (contain_broken property_step property_steps _ _ [] _ n q x)) (λ ps z e.
      with_refuse _ _ n q e (λ x.
      let y = whole_broken (ipma_form ids (length ps)) _ _ n q x in
      in_ipma _ _ ps w (properties-sound _ _ _ _ z) y.1 y.0) (λ ns v e. not-refused _ n q e))))

  pub broken_iprp : IprpBreaks ids p at s n q → iprp_content ids p at s ≡ refuse n q
  unfolding iprp_content
  broken_iprp (at_its_level h) = refuse_bind _ n q (broken_contain any_box any_steps p at [] s n q h) _
  broken_iprp (other-boxes bs a j h x y) =
      ok_bind _ _ bs (any-complete p at s bs a j)
      ∙ refuse_bind _ n q (no_pair p bs a (λ c d w. h c d (subst (λ (v : List ℕ). IpcoIpma v c d) j w)) ∙ rw (x, y)) _
  broken_iprp (in_ipco a b w h) =
      ok_bind _ _ _ (any-complete p at s _ (w.first-box, (w.second-box, tt)) (flat_pair a b ∙ w.joined))
      ∙ ok_bind _ _ _ (pair_complete p a b w.first_kind w.second-kind)
      ∙ refuse_bind _ n q (broken_contain property_step property_steps at (at + head_of a) [] (body_of a) n q h) _
  broken_iprp (in_ipma a b ps w h x e) =
      ok_bind _ _ _ (any-complete p at s _ (w.first-box, (w.second-box, tt)) (flat_pair a b ∙ w.joined))
      ∙ ok_bind _ _ _ (pair_complete p a b w.first_kind w.second-kind)
      ∙ ok_bind _ _ _ (properties-complete _ _ _ _ h)
      ∙ refuse_bind _ n q (broken_whole (ipma_form ids (length ps)) _ _ n x ∙ ap (refuse n) (sym e)) _

-- iref
module _ (ids : List ℕ) where
  reference_broken : (bytes at : ℕ) (before : IrefContent) (b : List ℕ) (n q : ℕ) → reference ids bytes at before b ≡ refuse n q →
      (q ≡ at) × ReferenceBreaks ids bytes before b n
  unfolding reference
  reference_broken bytes at before b n q e =
      with_refuse _ _ n q e (whole_broken (reference_form ids bytes (kind_of b) before) at _ n q)
      (λ d x y. not-refused _ n q y)

  broken_reference : (bytes at : ℕ) (before : IrefContent) (b : List ℕ) (n : ℕ) → ReferenceBreaks ids bytes before b n →
      reference ids bytes at before b ≡ refuse n at
  unfolding reference
  broken_reference bytes at before b n h =
      refuse_bind _ n at (broken_whole (reference_form ids bytes (kind_of b) before) at _ n h) _

  reference_steps : (bytes : ℕ) → Follows (ReferenceStep ids bytes) (ReferenceBreaks ids bytes) (reference ids bytes)
  reference_steps bytes = record {
    sound = reference-sound ids bytes;
    complete = reference-complete ids bytes;
    breaks = reference_broken bytes;
    broken = broken_reference bytes;
  }

  module _ (p at : ℕ) (s : List ℕ) (n q : ℕ) where
    pub references_broken : references ids p at s ≡ refuse n q → IrefBreaks ids p at s n q
    unfolding references
    references_broken e =
        lead_broken _ _ (full (upto 1)) p at s n q (λ h a r x.
        contain_broken (reference ids (id_bytes h.version)) (reference_steps (id_bytes h.version)) p a no_references r n q x) e

    pub broken_references : IrefBreaks ids p at s n q → references ids p at s ≡ refuse n q
    unfolding references
    broken_references h =
        broken_lead _ _ (full (upto 1)) p at s n q (λ h a r x.
        broken_contain (reference ids (id_bytes h.version)) (reference_steps (id_bytes h.version)) p a no_references r n q x) h

-- meta: doubles
twice_to : (c : Bool) (l : List (List ℕ)) → not (c && filled l) ≡ false → (c ≡ true) × (l ≡ [] → ⊥)
twice_to true [] e = untrue (sym e)
twice_to true (x ∷ l) e = (refl, λ h. let z : ◌≡◌ {A = ℕ} 0 1 = cc in omega arith)
twice_to false l e = untrue (sym e)

twice_from : (c : Bool) (l : List (List ℕ)) → c ≡ true → (l ≡ [] → ⊥) → not (c && filled l) ≡ false
twice_from c [] e h = absurd (h refl)
twice_from c (x ∷ l) e h = rw e

module _ (at : ℕ) (before : List (List ℕ)) (b : List ℕ) where
  once_broken : (n q : ℕ) → once known at before b ≡ refuse n q → (q ≡ at) × ChildTwice before b n
  unfolding once
  once_broken n q e =
      with_then _ _ n q e (λ x.
      let y = check-refuse 7 at _ n q x in
      let z = twice_to (known (kind_of b)) (of_kind (kind_of b) before) y.0 in
      (y.1.1, record { of_family = z.0; earlier = z.1; number = y.1.0 })) (λ u x y. not-refused _ n q y)

  broken_once : (n : ℕ) → ChildTwice before b n → once known at before b ≡ refuse n at
  unfolding once
  broken_once n h =
      refuse-then _ n at (refuse-check 7 at _ n
      (twice_from (known (kind_of b)) (of_kind (kind_of b) before) h.of_family h.earlier) h.number) _

  child_sound : (t : List (List ℕ)) → once known at before b ≡ ok t → ChildStep before b t
  child_sound t e = let x = once-sound known at before b t e in record { fresh = x.fresh; kept = x.kept }

  child_complete : (t : List (List ℕ)) → ChildStep before b t → once known at before b ≡ ok t
  child_complete t h = once-complete known at before b t (record { fresh = h.fresh; kept = h.kept })

pub child_steps : Follows ChildStep ChildTwice (once known)
child_steps = record { sound = child_sound; complete = child_complete; breaks = once_broken; broken = broken_once }
