-- Reading is refused exactly where the head is broken: 2 to 11, by that number and at that place. Assumes nothing.
use Prim.Native.Nat.{ℕ, ◌+◌, ◌≤◌}
use native.Mathlib.Omega.{arith}
use mathlib.Core.Path.{◌≡◌, refl, sym, ap, ◌∙◌, subst}
use mathlib.Core.List.{List, [], ◌∷◌, ◌++◌}
use mathlib.Core.Bool.{Bool, true, false, ◌&&◌}
use mathlib.Core.Logic.{◌⊎◌, inl, inr}
use lib.ListN.{length, length-append}
use lib.Dec.{leb}
use borrow.Author.Tests.{leb-true, leb-false, le-leb, lt-leb, eq-eqb}
use Rattle.fields.specs.Choice.{pick}
use Rattle.fields.specs.Lists.{member, All}
use Rattle.fields.proofs.TestLaws.{untrue, and_both, both-and, and-false, member-all}
use Rattle.boxes.specs.Answer.{Answer, ok, refuse, ◌>>=◌}
use Rattle.boxes.specs.Types.{hdlr, pitm, iinf, iloc, iprp, iref, known}
use Rattle.boxes.specs.Box.{head_of, kind_of, body_of, flat}
use Rattle.boxes.specs.Children.{of_kind, once, children, first_or, the_one, place_of}
use Rattle.boxes.proofs.AnswerLaws.{
  ok_bind,
  ok-then,
  check-ok,
  ok-check,
  with_refuse,
  with_then,
  refuse_bind,
  refuse-then,
  refuse-same,
  not-refused,
  check-refuse,
  refuse-check,
}
use Rattle.boxes.proofs.ChildLaws.{children-sound, children-complete, first-sound, first-complete, of_append, of_yes}
use Rattle.boxes.proofs.KindLaws.{Without, of_is, of_none, split_one}
use Rattle.boxes.proofs.TopLaws.{meta-sound, meta-complete}
use Rattle.forms.proofs.WholeLaws.{
  whole-sound,
  whole-complete,
  front-sound,
  front-complete,
  whole_broken,
  broken_whole,
  front_broken,
  broken_front,
}
use Rattle.forms.proofs.LeadLaws.{lead_broken, broken_lead}
use Rattle.contents.specs.Full.{full, upto}
use Rattle.contents.specs.Hdlr.{hdlr_form}
use Rattle.contents.specs.Pitm.{pitm_form}
use Rattle.contents.specs.Iinf.{ids_of, items}
use Rattle.contents.specs.Iloc.{iloc_form}
use Rattle.contents.specs.Iprp.{iprp_content}
use Rattle.contents.specs.Iref.{no_references}
use Rattle.contents.specs.File.{File, referred, contents_of, file_of, read_file}
use Rattle.contents.specs.Keeps.{FileIn}
use Rattle.contents.specs.Breaks.{
  required,
  Alone,
  OneOfEach,
  ContentsBreaks,
  in_hdlr,
  in_pitm,
  in_iinf,
  in_iloc,
  in_iprp,
  in_iref,
  IrefBreaks,
  ChildrenBreaks,
  among_them,
  one_missing,
  in_contents,
  MetaBreaks,
  Broken,
  head_too_long,
  total_too_small,
  at_the_top,
  in_meta,
}
use Rattle.contents.proofs.ItemLaws.{items-sound, items-complete}
use Rattle.contents.proofs.PropertyLaws.{shown-sound, shown-complete}
use Rattle.contents.proofs.ReadLaws.{read-sound, read-complete}
use Rattle.contents.proofs.BoxBreakLaws.{contain_broken, broken_contain}
use Rattle.contents.proofs.TopBreakLaws.{top_broken, broken_top}
use Rattle.contents.proofs.StepBreakLaws.{
  items_broken,
  broken_items,
  iprp_broken,
  broken_iprp,
  references_broken,
  broken_references,
  child_steps,
}

-- Alone: where the one box of a type begins
module _ (k : ℕ) where
  place-behind : (at : ℕ) (bs : List (List ℕ)) (b : List ℕ) (cs : List (List ℕ)) → Without k bs → kind_of b ≡ k →
      place_of k at (bs ++ (b ∷ cs)) ≡ at + length (flat bs)
  unfolding place_of flat pick
  place-behind at [] b cs a e = let z : at ≡ at + 0 = omega arith in ap (λ (t : Bool). pick t at (place_of k (at + length b) cs)) (eq-eqb _ _ e) ∙ z
  place-behind at (c ∷ bs) b cs a e =
      let l = length-append c (flat bs) in
      let z : at + length c + length (flat bs) ≡ at + length (c ++ flat bs) = omega arith in
      ap (λ (t : Bool). pick t at (place_of k (at + length c) (bs ++ (b ∷ cs)))) a.0
      ∙ place-behind (at + length c) bs b cs a.1 e ∙ z

  kind_of_one : (bs : List (List ℕ)) (b : List ℕ) → of_kind k bs ≡ b ∷ [] → kind_of b ≡ k
  kind_of_one bs b e = (subst (All (λ (c : List ℕ). kind_of c ≡ k)) e (of_is k bs)).0

  alone_of : (at : ℕ) (bs : List (List ℕ)) (b : List ℕ) → of_kind k bs ≡ b ∷ [] → Alone k at bs b (place_of k at bs)
  alone_of at bs b e =
      let s = split_one k b bs e in
      record {
        one = e;
        before = s.before;
        behind = s.behind;
        parted = s.split;
        where_it_is = ap (place_of k at) s.split ∙ place-behind at s.before b s.behind s.none_before (kind_of_one bs b e);
      }

  nothing : (l : List (List ℕ)) → length l ≤ 0 → l ≡ []
  nothing [] h = refl
  nothing (x ∷ l) h = absurd (omega arith)

  alone_at : (at : ℕ) (bs : List (List ℕ)) (b : List ℕ) (q : ℕ) → Alone k at bs b q → place_of k at bs ≡ q
  alone_at at bs b q h =
      let i = kind_of_one bs b h.one in
      let e : of_kind k h.before ++ of_kind k (b ∷ h.behind) ≡ b ∷ [] =
      sym (of_append k h.before (b ∷ h.behind)) ∙ ap (of_kind k) (sym h.parted) ∙ h.one in
      let l = rw (length-append, of_yes k b h.behind i) at (ap length e) in
      ap (place_of k at) h.parted
      ∙ place-behind at h.before b h.behind (of_none k h.before (nothing _ (omega arith))) i
      ∙ sym h.where_it_is

-- missing
first_missing : (p : ℕ) (l : List (List ℕ)) (n q : ℕ) → first_or p l ≡ refuse n q → (l ≡ []) × ((n ≡ 7) × (q ≡ p))
unfolding first_or
first_missing p [] n q e = (refl, refuse-same 7 p n q e)
first_missing p (b ∷ l) n q e = not-refused b n q e

-- iref
few-one : (l : List (List ℕ)) (b : List ℕ) (cs : List (List ℕ)) → length l ≤ 1 → l ≡ b ∷ cs → l ≡ b ∷ []
few-one l b [] h e = e
few-one l b (c ∷ cs) h e = let z = ap length e in absurd (omega arith)

pub record RefersTo (ids : List ℕ) (at : ℕ) (bs : List (List ℕ)) (n q : ℕ) : Type 0 where
  pub box : List ℕ
  pub place : ℕ
  pub alone : Alone iref at bs box place
  pub breaks : IrefBreaks ids place (place + head_of box) (body_of box) n q

referred_broken : (ids : List ℕ) (at : ℕ) (bs l : List (List ℕ)) (n q : ℕ) → of_kind iref bs ≡ l → length l ≤ 1 →
    referred ids (place_of iref at bs) l ≡ refuse n q → RefersTo ids at bs n q
unfolding referred
referred_broken ids at bs [] n q i h e = not-refused no_references n q e
referred_broken ids at bs (b ∷ cs) n q i h e =
    record {
      box = b;
      place = place_of iref at bs;
      alone = alone_of iref at bs b (few-one (of_kind iref bs) b cs (rw i h) i);
      breaks = references_broken ids _ _ _ n q e;
    }

broken_referred : (ids : List ℕ) (at : ℕ) (bs : List (List ℕ)) (n q : ℕ) (b : List ℕ) (p : ℕ) → Alone iref at bs b p →
    IrefBreaks ids p (p + head_of b) (body_of b) n q → referred ids (place_of iref at bs) (of_kind iref bs) ≡ refuse n q
unfolding referred
broken_referred ids at bs n q b p a h =
    ap (λ (l : List (List ℕ)). referred ids (place_of iref at bs) l) a.one
    ∙ ap (λ (j : ℕ). referred ids j (b ∷ [])) (alone_at iref at bs b p a)
    ∙ broken_references ids p (p + head_of b) (body_of b) n q h

-- contents_of
module _ (p at : ℕ) (s : List ℕ) (n q : ℕ) where
  pub contents_broken : contents_of p at s ≡ refuse n q → ChildrenBreaks p at s n q
  unfolding contents_of
  contents_broken e =
      with_refuse _ _ n q e (λ x. among_them (contain_broken (once known) child_steps p at [] s n q x)) (λ bs c e.
      let k = children-sound known p at s bs c in
      let lacks : (j : ℕ) → member j required ≡ true → first_or p (of_kind j bs) ≡ refuse n q → ChildrenBreaks p at s n q =
      λ j m x. let y = first_missing p (of_kind j bs) n q x in one_missing bs k.all k.joined k.few j m y.0 y.1.0 y.1.1 in
      let its : (j : ℕ) (b : List ℕ) → known j ≡ true → first_or p (of_kind j bs) ≡ ok b → Alone j at bs b (place_of j at bs) =
      λ j b m x. alone_of j at bs b (first-sound p (of_kind j bs) b (k.few j m) x) in
      with_refuse _ _ n q e (lacks hdlr refl) (λ h one-h e.
      with_refuse _ _ n q e (lacks pitm refl) (λ m one-m e.
      with_refuse _ _ n q e (lacks iloc refl) (λ l one-l e.
      with_refuse _ _ n q e (lacks iinf refl) (λ i one-i e.
      with_refuse _ _ n q e (lacks iprp refl) (λ r one-r e.
      let all : OneOfEach at s =
      record {
        boxes = bs;
        all = k.all;
        joined = k.joined;
        few = k.few;
        handler = h;
        hdlr-at = place_of hdlr at bs;
        one-hdlr = its hdlr h refl one-h;
        primary = m;
        pitm-at = place_of pitm at bs;
        one-pitm = its pitm m refl one-m;
        infos = i;
        iinf-at = place_of iinf at bs;
        one-iinf = its iinf i refl one-i;
        locations = l;
        iloc-at = place_of iloc at bs;
        one-iloc = its iloc l refl one-l;
        properties = r;
        iprp-at = place_of iprp at bs;
        one-iprp = its iprp r refl one-r;
      } in
      with_then _ _ n q e (λ x. let y = front_broken hdlr_form _ _ n q x in in_contents all (in_hdlr y.1 y.0)) (λ u x e.
      let in-h = front-sound hdlr_form _ _ _ x in
      with_refuse _ _ n q e (λ x. let y = whole_broken pitm_form _ _ n q x in in_contents all (in_pitm in-h y.1 y.0)) (λ id x e.
      let in-m = whole-sound pitm_form _ _ _ x in
      with_refuse _ _ n q e (λ x. in_contents all (in_iinf id (in-h, in-m) (items_broken _ _ _ n q x))) (λ is x e.
      let in-i = items-sound _ _ _ _ x in
      with_refuse _ _ n q e (λ x.
      let y = whole_broken (iloc_form (ids_of is)) _ _ n q x in in_contents all (in_iloc id is ((in-h, in-m), in-i) y.1 y.0)) (λ ls x e.
      let in-l = whole-sound (iloc_form (ids_of is)) _ _ _ x in
      with_refuse _ _ n q e (λ x.
      in_contents all (in_iprp id is ls (((in-h, in-m), in-i), in-l) (iprp_broken (ids_of is) _ _ _ n q x))) (λ v x e.
      let in-r = shown-sound (ids_of is) _ _ _ _ x in
      with_refuse _ _ n q e (λ x.
      let y = referred_broken (ids_of is) at bs (of_kind iref bs) n q refl (k.few iref refl) x in
      in_contents all (in_iref id is ls v ((((in-h, in-m), in-i), in-l), in-r) y.box y.place y.alone y.breaks))
      (λ ds x e. not-refused _ n q e))))))))))))

  -- the other way: the children, and the one of each that is needed
  module _ (m : OneOfEach at s) where
    its_children : children known p at s ≡ ok m.boxes
    its_children = children-complete known p at s m.boxes (record { all = m.all; joined = m.joined; few = m.few })

    all_found : (g : List (List ℕ) → List ℕ → List ℕ → List ℕ → List ℕ → List ℕ → Answer File) → (children known p at s >>= (λ bs.
        the_one p hdlr bs >>= (λ h. the_one p pitm bs >>= (λ m. the_one p iloc bs >>= (λ l. the_one p iinf bs >>= (λ i.
        the_one p iprp bs >>= (λ r. g bs h m l i r))))))) ≡
        g m.boxes m.handler m.primary m.locations m.infos m.properties
    all_found g =
        ok_bind _ _ _ its_children
        ∙ ok_bind _ _ _ (first-complete p _ _ m.one-hdlr.one)
        ∙ ok_bind _ _ _ (first-complete p _ _ m.one-pitm.one)
        ∙ ok_bind _ _ _ (first-complete p _ _ m.one-iloc.one)
        ∙ ok_bind _ _ _ (first-complete p _ _ m.one-iinf.one)
        ∙ ok_bind _ _ _ (first-complete p _ _ m.one-iprp.one)

    broken_members : ContentsBreaks m n q → contents_of p at s ≡ refuse n q
    unfolding contents_of
    broken_members (in_hdlr h e) =
        all_found _
        ∙ refuse-then _ n q (broken_front hdlr_form _ _ n h ∙ ap (refuse n) (alone_at hdlr at _ _ _ m.one-hdlr ∙ sym e)) _
    broken_members (in_pitm a h e) =
        all_found _
        ∙ ok-then _ _ _ (front-complete hdlr_form _ _ _ a)
        ∙ refuse_bind _ n q (broken_whole pitm_form _ _ n h ∙ ap (refuse n) (alone_at pitm at _ _ _ m.one-pitm ∙ sym e)) _
    broken_members (in_iinf id a h) =
        all_found _
        ∙ ok-then _ _ _ (front-complete hdlr_form _ _ _ a.0)
        ∙ ok_bind _ _ _ (whole-complete pitm_form _ _ _ a.1)
        ∙ refuse_bind _ n q (ap (λ (j : ℕ). items j (j + head_of m.infos) (body_of m.infos)) (alone_at iinf at _ _ _ m.one-iinf)
        ∙ broken_items _ _ _ n q h) _
    broken_members (in_iloc id is a h e) =
        all_found _
        ∙ ok-then _ _ _ (front-complete hdlr_form _ _ _ a.0.0)
        ∙ ok_bind _ _ _ (whole-complete pitm_form _ _ _ a.0.1)
        ∙ ok_bind _ _ _ (items-complete _ _ _ _ a.1)
        ∙ refuse_bind _ n q (broken_whole (iloc_form (ids_of is)) _ _ n h
        ∙ ap (refuse n) (alone_at iloc at _ _ _ m.one-iloc ∙ sym e)) _
    broken_members (in_iprp id is ls a h) =
        all_found _
        ∙ ok-then _ _ _ (front-complete hdlr_form _ _ _ a.0.0.0)
        ∙ ok_bind _ _ _ (whole-complete pitm_form _ _ _ a.0.0.1)
        ∙ ok_bind _ _ _ (items-complete _ _ _ _ a.0.1)
        ∙ ok_bind _ _ _ (whole-complete (iloc_form (ids_of is)) _ _ _ a.1)
        ∙ refuse_bind _ n q (ap (λ (j : ℕ). iprp_content (ids_of is) j (j + head_of m.properties) (body_of m.properties))
        (alone_at iprp at _ _ _ m.one-iprp) ∙ broken_iprp (ids_of is) _ _ _ n q h) _
    broken_members (in_iref id is ls v a b i o h) =
        all_found _
        ∙ ok-then _ _ _ (front-complete hdlr_form _ _ _ a.0.0.0.0)
        ∙ ok_bind _ _ _ (whole-complete pitm_form _ _ _ a.0.0.0.1)
        ∙ ok_bind _ _ _ (items-complete _ _ _ _ a.0.0.1)
        ∙ ok_bind _ _ _ (whole-complete (iloc_form (ids_of is)) _ _ _ a.0.1)
        ∙ ok_bind _ _ _ (shown-complete (ids_of is) _ _ _ _ a.1)
        ∙ refuse_bind _ n q (broken_referred (ids_of is) at m.boxes n q b i o h) _

  -- and where one is missing, whichever is the first
  passes : (l : List (List ℕ)) (f : List ℕ → Answer File) → ((b : List ℕ) → f b ≡ refuse 7 p) → (first_or p l >>= f) ≡ refuse 7 p
  unfolding first_or ◌>>=◌
  passes [] f h = refl
  passes (b ∷ l) f h = h b

  stops : (l : List (List ℕ)) (f : List ℕ → Answer File) → l ≡ [] → (first_or p l >>= f) ≡ refuse 7 p
  unfolding first_or ◌>>=◌
  stops l f e = rw e

  module _ (bs : List (List ℕ)) (g : List ℕ → List ℕ → List ℕ → List ℕ → List ℕ → Answer File) where
    abbrev Lacking : ℕ → Type 0
    Lacking k = of_kind k bs ≡ [] → (the_one p hdlr bs >>= (λ h. the_one p pitm bs >>= (λ m. the_one p iloc bs >>= (λ l.
        the_one p iinf bs >>= (λ i. the_one p iprp bs >>= (λ r. g h m l i r)))))) ≡ refuse 7 p

    lacking : (k : ℕ) → member k required ≡ true → Lacking k
    lacking = member-all Lacking required (
      (λ e. stops _ _ e),
      (
        (λ e. passes _ _ (λ h. stops _ _ e)),
        (
          (λ e. passes _ _ (λ h. passes _ _ (λ m. stops _ _ e))),
          (
            (λ e. passes _ _ (λ h. passes _ _ (λ m. passes _ _ (λ l. stops _ _ e)))),
            ((λ e. passes _ _ (λ h. passes _ _ (λ m. passes _ _ (λ l. passes _ _ (λ i. stops _ _ e))))), tt),
          ),
        ),
      ),
    )

  pub broken_contents : ChildrenBreaks p at s n q → contents_of p at s ≡ refuse n q
  unfolding contents_of
  broken_contents (among_them h) = refuse_bind _ n q (broken_contain (once known) child_steps p at [] s n q h) _
  broken_contents (one_missing bs a j f k i e x y) =
      ok_bind _ _ bs (children-complete known p at s bs (record { all = a; joined = j; few = f })) ∙ lacking bs _ k i e ∙ rw (x, y)
  broken_contents (in_contents m h) = broken_members m h

-- file_of
module _ (p at : ℕ) (s : List ℕ) (n q : ℕ) where
  pub meta_broken : file_of p at s ≡ refuse n q → MetaBreaks p at s n q
  unfolding file_of
  meta_broken e = lead_broken _ _ (full (upto 0)) p at s n q (λ h a r x. contents_broken p a r n q x) e

  pub broken_meta : MetaBreaks p at s n q → file_of p at s ≡ refuse n q
  unfolding file_of
  broken_meta h = broken_lead _ _ (full (upto 0)) p at s n q (λ h a r x. broken_contents p a r n q x) h

-- read_file
module _ (total : ℕ) (head : List ℕ) where
  not_lent : (n p : ℕ) → (n ≡ 2) × (p ≡ 0) → (c d : Bool) → leb (length head) 65536 ≡ c → leb (length head) total ≡ d → (c && d) ≡ false →
      Broken total head n p
  not_lent n p x true true a b e = untrue (sym e)
  not_lent n p x true false a b e = total_too_small (leb-false _ _ b) x.0 x.1
  not_lent n p x false d a b e = head_too_long (leb-false _ _ a) x.0 x.1

  -- reading is refused by n at p exactly where the head is broken by n at p
  pub read_broken : (n p : ℕ) → read_file total head ≡ refuse n p → Broken total head n p
  unfolding read_file
  read_broken n p e =
      with_then _ _ n p e (λ x. let y = check-refuse 2 0 _ n p x in not_lent n p y.1 _ _ refl refl y.0) (λ u x e.
      let k = and_both (leb (length head) 65536) _ (check-ok 2 0 _ u x) in
      let small = leb-true _ _ k.0 in
      let fits = leb-true (length head) total k.1 in
      with_refuse _ _ n p e (λ x. at_the_top small fits (top_broken total head n p fits x)) (λ m x y.
      in_meta small fits m.box m.place (meta-sound total head m fits x) (meta_broken _ _ _ n p y)))

  lent : length head ≤ 65536 → length head ≤ total → (leb (length head) 65536 && leb (length head) total) ≡ true
  lent a b = both-and _ _ (le-leb _ _ a) (le-leb _ _ b)

  off : (n p : ℕ) → (leb (length head) 65536 && leb (length head) total) ≡ false → n ≡ 2 → p ≡ 0 → read_file total head ≡ refuse n p
  unfolding read_file
  off n p e x y = refuse-then _ n p (refuse-check 2 0 _ n e x ∙ ap (refuse n) (sym y)) _

  pub broken_read : (n p : ℕ) → Broken total head n p → read_file total head ≡ refuse n p
  unfolding read_file
  broken_read n p (head_too_long h x y) = off n p (rw (lt-leb (length head) 65536 h)) x y
  broken_read n p (total_too_small h x y) =
      off n p (and-false (leb (length head) 65536) (leb (length head) total) (λ a b. let l = leb-true (length head) total b in omega arith)) x y
  broken_read n p (at_the_top a b h) =
      ok-then _ _ tt (ok-check 2 0 _ (lent a b)) ∙ refuse_bind _ n p (broken_top total head n p b h) _
  broken_read n p (in_meta a b m place f h) =
      ok-then _ _ tt (ok-check 2 0 _ (lent a b))
      ∙ ok_bind _ _ _ (meta-complete total head m place b f)
      ∙ broken_meta place (place + head_of m) (body_of m) n p h

  -- so a head is broken by one number at one place only, and then spells no file
  pub one_broken : (n p k q : ℕ) → Broken total head n p → Broken total head k q → (n ≡ k) × (p ≡ q)
  one_broken n p k q h g = refuse-same k q n p (sym (broken_read k q g) ∙ broken_read n p h)

  pub broken_unspelled : (n p : ℕ) (f : File) → Broken total head n p → FileIn total head f → ⊥
  broken_unspelled n p f h g = not-refused f n p (sym (read-complete total head f g) ∙ broken_read n p h)

  -- and a head spells a file or is broken
  pub spelled_or_broken : ((f : File) × FileIn total head f) ⊎ ((n : ℕ) × (p : ℕ) × Broken total head n p)
  spelled_or_broken = by (read_file total head) refl
    where
      by : (m : Answer File) → read_file total head ≡ m → ((f : File) × FileIn total head f) ⊎ ((n : ℕ) × (p : ℕ) × Broken total head n p)
      by (ok f) e = inl (f, read-sound total head f e)
      by (refuse n p) e = inr (n, p, read_broken n p e)
