-- What is read keeps the limits of its kind. Assumes nothing.
use Prim.Native.Nat.{ℕ, ◌+◌, ◌≤◌}
use native.Mathlib.Omega.{arith}
use mathlib.Core.Path.{◌≡◌, ◌∙◌, subst}
use mathlib.Core.List.{List, [], ◌∷◌}
use mathlib.Core.Bool.{false}
use lib.ListN.{length, length-append}
use lib.Dec.{eqb}
use borrow.Author.Tests.{leb-true, not-true, eqb-true}
use Rattle.fields.specs.Lists.{member}
use Rattle.fields.proofs.FieldLaws.{both}
use Rattle.boxes.specs.Types.{dimg, iloc}
use Rattle.boxes.specs.Box.{kind_of}
use Rattle.boxes.specs.Children.{Through}
use Rattle.forms.specs.Form.{give, demand, ◌>>=◌}
use Rattle.forms.proofs.ManyLaws.{many-length, many-keeps}
use Rattle.contents.specs.Iinf.{Item, ids_of, infe_form, iinf-count}
use Rattle.contents.specs.Iloc.{Location, extents_in, entry_form, iloc_form}
use Rattle.contents.specs.Ipma.{IpmaEntry, associations_in, ipma_entry_form, ipma_form}
use Rattle.contents.specs.Iref.{Reference, IrefContent, no_references, targets_in, reference_form, kept_by}
use Rattle.contents.specs.Keeps.{ItemStep, Items, ReferenceStep, Referred}
use Rattle.contents.proofs.SumLaws.{extents-more, associations-more, targets-more}

-- what each step keeps holds in the end
pub through-keeps : {S : Type 0} (P : S → Type 0) (R : S → List ℕ → S → Type 0) → ((s : S) (b : List ℕ) (t : S) → P s → R s b t → P t)
    → (z : S) (bs : List (List ℕ)) (t : S) → P z → Through R z bs t → P t
through-keeps P R step z [] t p e = subst P e p
through-keeps P R step z (b ∷ bs) t p (m, r, x) = through-keeps P R step m bs t (step z b m p r) x

-- infe-form
pub infe-new : (before : List Item) (u : List ℕ) (i : Item) → (infe_form before).Spells u i → member i.id (ids_of before) ≡ false
unfolding infe_form ◌>>=◌ demand give
infe-new before u i s =
    let t = s.then in
    rw t.then.then.then.then.1 (not-true (member t.value (ids_of before)) t.then.first.1)

-- iinf-count
count-few : (u : List ℕ) (n : ℕ) → iinf-count.Spells u n → n ≤ 256
unfolding iinf-count ◌>>=◌ demand give
count-few u n s = let t = s.then in rw t.then.then.1 (leb-true t.value 256 t.then.first.1)

items-count : (z : List Item) (bs : List (List ℕ)) (is : List Item) → Through ItemStep z bs is → length is ≡ length z + length bs
items-count z [] is e = rw (← e) (omega arith)
items-count z (b ∷ bs) is (m, r, x) = items-count m bs is x ∙ rw (r.kept, length-append) (omega arith)

pub items-few : (s : List ℕ) (is : List Item) → Items s is → length is ≤ 256
items-few s is h =
    omega (arith, items-count [] h.then.boxes is h.then.through, h.then.count, count-few h.fields h.value h.spells)

-- extents_in
entry_room : (ids : List ℕ) (v os ls bs ix : ℕ) (before : List Location) (u : List ℕ) (l : Location) →
    (entry_form ids v os ls bs ix before).Spells u l → extents_in before + length l.extents ≤ 512
unfolding entry_form ◌>>=◌ demand give
entry_room ids v os ls bs ix before u l s =
    let t = s.then.then.then.then.then.then in
    let w = t.then.then in
    let n = many-length _ t.value [] w.left w.value w.first in
    rw w.then.1 (omega (arith, leb-true (extents_in before + t.value) 512 t.then.first.1))

pub extents-few : (ids s : List ℕ) (ls : List Location) → (iloc_form ids).Spells s ls → extents_in ls ≤ 512
unfolding iloc_form ◌>>=◌ demand extents_in
extents-few ids s ls h =
    let t = h.then.then.then.then.then.then.then.then.then in
    many-keeps (λ (l : List Location). extents_in l ≤ 512) _
    (λ before u l p q. rw (extents-more before l) (entry_room ids _ _ _ _ _ before u l q)) _ [] _ ls (omega arith) t

-- associations_in
named-room : (ids : List ℕ) (most v bytes : ℕ) (before : List IpmaEntry) (u : List ℕ) (n : IpmaEntry) →
    (ipma_entry_form ids most v bytes before).Spells u n → associations_in before + length n.list ≤ 2048
unfolding ipma_entry_form ◌>>=◌ demand give
named-room ids most v bytes before u n s =
    let t = s.then.then.then in
    let w = t.then.then in
    let k = many-length _ t.value [] w.left w.value w.first in
    rw w.then.1 (omega (arith, leb-true (associations_in before + t.value) 2048 t.then.first.1))

pub associations-few : (ids : List ℕ) (most : ℕ) (s : List ℕ) (ns : List IpmaEntry) → (ipma_form ids most).Spells s ns → associations_in ns ≤ 2048
unfolding ipma_form ◌>>=◌ demand associations_in
associations-few ids most s ns h =
    many-keeps (λ (l : List IpmaEntry). associations_in l ≤ 2048) _
    (λ before u n p q. rw (associations-more before n) (named-room ids most _ _ before u n q)) _ [] _ ns
    (omega arith) h.then.then.then

-- targets_in
reference-room : (ids : List ℕ) (bytes : ℕ) (before : IrefContent) (u : List ℕ) (d : Reference) →
    (reference_form ids bytes dimg before).Spells u d → targets_in before.derivations + length d.targets ≤ 2048
unfolding reference_form ◌>>=◌ demand give
reference-room ids bytes before u d s =
    let t = s.then.then.then in
    let w = t.then.then.then in
    let k = many-length _ t.value [] w.left w.value w.first in
    rw w.then.1 (omega (arith, leb-true (targets_in before.derivations + t.value) 2048 t.then.then.first.1))

reference-keeps : (ids : List ℕ) (bytes : ℕ) (before : IrefContent) (b : List ℕ) (after : IrefContent) →
    targets_in before.derivations ≤ 2048 → ReferenceStep ids bytes before b after → targets_in after.derivations ≤ 2048
unfolding kept_by
reference-keeps ids bytes before b after p r =
    rw r.kept
    (both Few (eqb (kind_of b) dimg) _ _
    (λ e. rw (targets-more before.derivations r.value) (reference-room ids bytes before _ r.value (rw (eqb-true (kind_of b) dimg e) at r.spells)))
    (λ e. both Few (eqb (kind_of b) iloc) _ _ (λ i. p) (λ i. p)))
  where
    Few : IrefContent → Type 0
    Few c = targets_in c.derivations ≤ 2048

pub references-few : (ids : List ℕ) (bytes : ℕ) (bs : List (List ℕ)) (c : IrefContent) → Through (ReferenceStep ids bytes) no_references bs c →
    targets_in c.derivations ≤ 2048
unfolding targets_in
references-few ids bytes bs c h = through-keeps (λ (l : IrefContent). targets_in l.derivations ≤ 2048)
    (ReferenceStep ids bytes) (reference-keeps ids bytes) no_references bs c (omega arith) h

pub targets-few : (ids : List ℕ) (bs : List (List ℕ)) (c : IrefContent) → Referred ids bs c → targets_in c.derivations ≤ 2048
unfolding targets_in
targets-few ids [] c e = rw e (omega arith)
targets-few ids (b ∷ bs) c h = references-few ids _ h.then.boxes c h.then.through
