-- A `meta` is read exactly where its content spells a file. Assumes nothing.
use Prim.Native.Nat.{ℕ, ◌≤◌}
use native.Mathlib.Omega.{arith}
use mathlib.Core.Path.{◌≡◌, refl, sym, ◌∙◌, subst}
use mathlib.Core.List.{List, [], ◌∷◌}
use lib.ListN.{length}
use Rattle.boxes.specs.Answer.{ok}
use Rattle.boxes.specs.Types.{hdlr, pitm, iinf, iloc, iprp, iref, idat, family, known}
use Rattle.boxes.specs.Children.{of_kind, Few}
use Rattle.boxes.proofs.AnswerLaws.{ok_bind, then_ok, ok-then, ok_inj, with_ok}
use Rattle.boxes.proofs.ChildLaws.{children-sound, children-complete, first-sound, first-complete}
use Rattle.forms.proofs.WholeLaws.{whole-sound, whole-complete, front-sound, front-complete}
use Rattle.forms.proofs.LeadLaws.{lead-sound, lead-complete}
use Rattle.contents.specs.Full.{full, upto}
use Rattle.contents.specs.Hdlr.{hdlr_form}
use Rattle.contents.specs.Pitm.{pitm_form}
use Rattle.contents.specs.Iinf.{ids_of}
use Rattle.contents.specs.Iloc.{iloc_form}
use Rattle.contents.specs.File.{File, contents_of, file_of}
use Rattle.contents.specs.Keeps.{Spelled, ChildrenSpell, Keeps}
use Rattle.fields.proofs.TestLaws.{member-all}
use Rattle.contents.proofs.ItemLaws.{items-sound, items-complete}
use Rattle.contents.proofs.PropertyLaws.{shown-sound, shown-complete}
use Rattle.contents.proofs.ReferenceLaws.{referred-sound, referred-complete}

-- contents_of
pub contents_sound : (p at : ℕ) (s : List ℕ) (f : File) → contents_of p at s ≡ ok f → ChildrenSpell s f
unfolding contents_of
contents_sound p at s f e =
    with_ok _ _ f e (λ bs c e.
    with_ok _ _ f e (λ h one-h e.
    with_ok _ _ f e (λ m one-m e.
    with_ok _ _ f e (λ l one-l e.
    with_ok _ _ f e (λ i one-i e.
    with_ok _ _ f e (λ r one-r e.
    let k = children-sound known p at s bs c in
    let x = then_ok _ _ f e in
    with_ok _ _ f x.2 (λ primary in-m e.
    with_ok _ _ f e (λ is in-i e.
    with_ok _ _ f e (λ ls in-l e.
    with_ok _ _ f e (λ both in-r e.
    with_ok _ _ f e (λ ds in-d e.
    subst (ChildrenSpell s) (ok_inj _ f e)
    (record {
      boxes = bs;
      all = k.all;
      joined = k.joined;
      spelled =
          record {
            handler = h;
            one-hdlr = first-sound p (of_kind hdlr bs) h (k.few hdlr refl) one-h;
            primary = m;
            one-pitm = first-sound p (of_kind pitm bs) m (k.few pitm refl) one-m;
            locations = l;
            one-iloc = first-sound p (of_kind iloc bs) l (k.few iloc refl) one-l;
            infos = i;
            one-iinf = first-sound p (of_kind iinf bs) i (k.few iinf refl) one-i;
            properties = r;
            one-iprp = first-sound p (of_kind iprp bs) r (k.few iprp refl) one-r;
            few-iref = k.few iref refl;
            few-idat = k.few idat refl;
            in_hdlr = front-sound hdlr_form _ _ _ x.1;
            in_pitm = whole-sound pitm_form _ _ _ in-m;
            in_iinf = items-sound _ _ _ _ in-i;
            in_iloc = whole-sound (iloc_form (ids_of is)) _ _ _ in-l;
            in_iprp = shown-sound (ids_of is) _ _ _ _ in-r;
            in_iref = referred-sound (ids_of is) _ _ _ in-d;
            in_idat = refl;
          };
    }))))))))))))

-- a `meta` that spells a file has at most one child of each known type
spelled-few : (bs : List (List ℕ)) (f : File) → Spelled bs f → Few known bs
spelled-few bs f h =
    member-all (λ (k : ℕ). length (of_kind k bs) ≤ 1) family
    (one h.one-hdlr, (one h.one-pitm, (one h.one-iinf, (one h.one-iloc, (one h.one-iprp, (h.few-iref, (h.few-idat, tt)))))))
  where
    one : {l : List (List ℕ)} {b : List ℕ} → l ≡ b ∷ [] → length l ≤ 1
    one e = rw e (omega arith)

pub contents_complete : (p at : ℕ) (s : List ℕ) (f : File) → ChildrenSpell s f → contents_of p at s ≡ ok f
unfolding contents_of
contents_complete p at s f k =
    let bs : List (List ℕ) = k.boxes in
    let h = k.spelled in
    let ids : List ℕ = ids_of f.items in
    ok_bind _ _ _ (children-complete known p at s bs (record { all = k.all; joined = k.joined; few = spelled-few bs f h }))
    ∙ ok_bind _ _ _ (first-complete p _ _ h.one-hdlr)
    ∙ ok_bind _ _ _ (first-complete p _ _ h.one-pitm)
    ∙ ok_bind _ _ _ (first-complete p _ _ h.one-iloc)
    ∙ ok_bind _ _ _ (first-complete p _ _ h.one-iinf)
    ∙ ok_bind _ _ _ (first-complete p _ _ h.one-iprp)
    ∙ ok-then _ _ _ (front-complete hdlr_form _ _ _ h.in_hdlr)
    ∙ ok_bind _ _ _ (whole-complete pitm_form _ _ _ h.in_pitm)
    ∙ ok_bind _ _ _ (items-complete _ _ _ _ h.in_iinf)
    ∙ ok_bind _ _ _ (whole-complete (iloc_form ids) _ _ _ h.in_iloc)
    ∙ ok_bind _ _ _ (shown-complete ids _ _ _ _ h.in_iprp)
    ∙ ok_bind _ _ _ (referred-complete ids _ _ _ h.in_iref)
    ∙ rw (← h.in_idat)

-- file_of: the content of a `meta` is read as a file exactly where it spells that file, wherever it stands
pub file-sound : (p at : ℕ) (s : List ℕ) (f : File) → file_of p at s ≡ ok f → Keeps s f
unfolding file_of
file-sound p at s f e = lead-sound _ _ (full (upto 0)) (λ h a r. contents_sound p a r) p at s f e

pub file-complete : (p at : ℕ) (s : List ℕ) (f : File) → Keeps s f → file_of p at s ≡ ok f
unfolding file_of
file-complete p at s f k = lead-complete _ _ (full (upto 0)) (λ h a r. contents_complete p a r) p at s f k

-- a content spells one file only
pub one-file : (s : List ℕ) (f g : File) → Keeps s f → Keeps s g → f ≡ g
one-file s f g h k = ok_inj f g (sym (file-complete 0 0 s f h) ∙ file-complete 0 0 s g k)
