-- The forms of the contents refuse by `box_placed` only, and at their box, line by line of each form's block.
-- Assumes nothing.
--   Reads f       whatever the form f reads, it refuses by such numbers only, at the place that it is given
use Prim.Native.Nat.{ℕ, zero, suc, ◌+◌, ◌-◌}
use native.Mathlib.Omega.{arith}
use mathlib.Core.Path.{◌≡◌, refl, ap, subst}
use mathlib.Core.List.{List, [], ◌∷◌, ◌++◌}
use mathlib.Core.Bool.{Bool, true, false}
use lib.ListN.{length, length-append}
use lib.Dec.{leb}
use Rattle.boxes.specs.Answer.{Answer, ok, refuse}
use Rattle.forms.specs.Form.{Form, Got, give, demand_of, demand, field_by, field, onto, many, finish, whole, value_of, front}
use Rattle.forms.specs.Form as F
use Rattle.forms.specs.Lead.{lead_by, lead}
use Rattle.contents.specs.Full.{full}
use Rattle.contents.specs.Hdlr.{hdlr_form}
use Rattle.contents.specs.Pitm.{pitm_form}
use Rattle.contents.specs.Iinf.{Item, infe_form, iinf-count}
use Rattle.contents.specs.Iloc.{Extent, Location, extent_form, entry_form, iloc_form}
use Rattle.contents.specs.Ipco.{ispe_form, bytes_form}
use Rattle.contents.specs.Ipma.{Association, IpmaEntry, association_form, ipma_entry_form, ipma_form}
use Rattle.contents.specs.Iref.{IrefContent, target_form, reference_form}
use Rattle.demands.specs.Numbers.{Among}
use Rattle.demands.specs.Places.{box_placed, Content, BoxAt}
use Rattle.demands.proofs.NumberLaws.{Only, only-more, only-ok, only-refuse, Placed, at-box}

-- at the box
pub record At (box n p : ℕ) : Type 0 where
  pub number : Among box_placed n
  pub place : p ≡ box

pub record Reads {A : Type 0} (f : Form A) : Type 0 where
  pub by : (p : ℕ) (s : List ℕ) → Only (At p) (f.read p s)

gives : {A : Type 0} (v : A) → Reads (give v)
unfolding give
gives v = record { by = λ p s. only-ok }

demand-by : (n : ℕ) (t : Bool) → Among box_placed n → (p : ℕ) (s : List ℕ) → Only (At p) (demand_of t n p s)
unfolding demand_of
demand-by n true h p s = only-ok
demand-by n false h p s = only-refuse (record { number = h; place = refl })

demands : (n : ℕ) (t : Bool) → Among box_placed n → Reads (demand n t)
unfolding demand
demands n t h = record { by = demand-by n t h }

field-by : (t : Bool) (n p : ℕ) (s : List ℕ) → Only (At p) (field_by t n p s)
unfolding field_by
field-by true n p s = only-ok
field-by false n p s = only-refuse (record { number = refl; place = refl })

fields : (n : ℕ) → Reads (field n)
unfolding field
fields n = record { by = λ p s. field-by (leb n (length s)) n p s }

onto-by : {A B : Type 0} (f : Form A) (g : A → Form B) → ((a : A) → Reads (g a)) → (p : ℕ) (m : Answer (Got A)) →
    Only (At p) m → Only (At p) (onto f g p m)
unfolding onto
onto-by f g k p (ok r) x = (k r.value).by p r.rest
onto-by f g k p (refuse n q) x = only-refuse (x.by n q refl)

infixl 20 ◌>>=◌ ◌>>◌
◌>>=◌ : {A B : Type 0} {f : Form A} {g : A → Form B} → Reads f → ((a : A) → Reads (g a)) → Reads (F.◌>>=◌ f g)
unfolding F.◌>>=◌
◌>>=◌ {A} {B} {f} {g} h k = record { by = λ p s. onto-by f g k p (f.read p s) (h.by p s) }

◌>>◌ : {A B : Type 0} {f : Form A} {g : Form B} → Reads f → Reads g → Reads (F.◌>>◌ f g)
h >> k = h >>= (λ a. k)

manys : {X : Type 0} {f : List X → Form X} → ((before : List X) → Reads (f before)) → (n : ℕ) (before : List X) →
    Reads (many f n before)
unfolding many
manys h zero before = gives before
manys h (suc n) before = h before >>= (λ x. manys h n _)

-- a content that is read whole, in front, or before boxes
module _ {A : Type 0} {f : Form A} (h : Reads f) {total : ℕ} {head : List ℕ} (p : ℕ) (s : List ℕ)
    (k : BoxAt total head p) where
  form_only : Only (Placed total head) (f.read p s)
  form_only = only-more (λ n q x. at-box x.number (rw x.place k)) (h.by p s)

  finish-by : (m : Answer (Got A)) → Only (Placed total head) m → Only (Placed total head) (finish p m)
  unfolding finish
  finish-by (refuse n q) x = only-refuse (x.by n q refl)
  finish-by (ok r) x = by r.rest
    where
      by : (t : List ℕ) → Only {A = A} (Placed total head) (elim t [ [] ↦ ok r.value | y ∷ ys ↦ refuse 8 p ])
      by [] = only-ok
      by (y ∷ ys) = only-refuse (at-box refl k)

  pub whole-only : Only (Placed total head) (whole f p s)
  unfolding whole
  whole-only = finish-by _ form_only

  value-by : (m : Answer (Got A)) → Only (Placed total head) m → Only (Placed total head) (value_of m)
  unfolding value_of
  value-by (refuse n q) x = only-refuse (x.by n q refl)
  value-by (ok r) x = only-ok

  pub front-only : Only (Placed total head) (front f p s)
  unfolding front
  front-only = value-by _ form_only

  -- the fields are those in front of a content, which begins behind them
  module _ {B : Type 0} {g : A → ℕ → List ℕ → Answer B} {kind : ℕ} (at : ℕ)
      (into : (u r : List ℕ) (v : A) → u ++ r ≡ s → f.Spells u v → Content total head kind (at + length u) r)
      (go : (a : A) (b : ℕ) (r : List ℕ) → Content total head kind b r → Only (Placed total head) (g a b r)) where
    lead-by : (m : Answer (Got A)) → f.read p s ≡ m → Only (Placed total head) m →
        Only (Placed total head) (lead_by g at s m)
    unfolding lead_by
    lead-by (ok r) e x =
        let y = f.sound p s r.value r.rest e in
        let z = rw length-append at (ap length y.1) in
        let i : at + length y.0 ≡ at + (length s - length r.rest) = omega arith in
        go r.value (at + (length s - length r.rest)) r.rest
        (subst (λ (j : ℕ). Content total head kind j r.rest) i (into y.0 r.rest r.value y.1 y.2))
    lead-by (refuse n q) e x = only-refuse (x.by n q refl)

    pub lead-only : Only (Placed total head) (lead g f p at s)
    unfolding lead
    lead-only = lead-by _ refl form_only

-- the forms of document 01
pub full_reads : (allowed : ℕ → Bool) → Reads (full allowed)
unfolding full
full_reads allowed = do
  v ← fields _
  demands 6 _ refl
  f ← fields _
  gives _

pub hdlr_reads : Reads hdlr_form
unfolding hdlr_form
hdlr_reads = do
  h ← full_reads _
  p ← fields _
  t ← fields _
  demands 10 _ refl

pub pitm_reads : Reads pitm_form
unfolding pitm_form
pitm_reads = do
  h ← full_reads _
  id ← fields _
  gives _

pub infe_reads : (before : List Item) → Reads (infe_form before)
unfolding infe_form
infe_reads before = do
  h ← full_reads _
  id ← fields _
  demands 10 _ refl
  x ← fields _
  t ← fields _
  gives _

pub count_reads : Reads iinf-count
unfolding iinf-count
count_reads = do
  h ← full_reads _
  n ← fields _
  demands 9 _ refl
  gives _

extent_reads : (ix os ls : ℕ) (before : List Extent) → Reads (extent_form ix os ls before)
unfolding extent_form
extent_reads ix os ls before = do
  i ← fields _
  o ← fields _
  n ← fields _
  gives _

entry_reads : (ids : List ℕ) (v os ls bs ix : ℕ) (before : List Location) → Reads (entry_form ids v os ls bs ix before)
unfolding entry_form
entry_reads ids v os ls bs ix before = do
  id ← fields _
  demands 10 _ refl
  demands 11 _ refl
  m ← fields _
  d ← fields _
  b ← fields _
  n ← fields _
  demands 9 _ refl
  es ← manys (extent_reads ix os ls) n []
  gives _

pub iloc_reads : (ids : List ℕ) → Reads (iloc_form ids)
unfolding iloc_form
iloc_reads ids = do
  h ← full_reads _
  a ← fields _
  demands 10 _ refl
  demands 10 _ refl
  b ← fields _
  demands 10 _ refl
  demands 10 _ refl
  n ← fields _
  demands 9 _ refl
  manys (entry_reads _ _ _ _ _ _) n []

pub ispe_reads : Reads ispe_form
unfolding ispe_form
ispe_reads = do
  h ← full_reads _
  w ← fields _
  v ← fields _
  gives _

pub bytes_reads : (n : ℕ) → Reads (bytes_form n)
unfolding bytes_form
bytes_reads n = do
  b ← fields _
  gives _

association_reads : (bytes most : ℕ) (before : List Association) → Reads (association_form bytes most before)
unfolding association_form
association_reads bytes most before = do
  a ← fields _
  demands 11 _ refl
  gives _

named_reads : (ids : List ℕ) (most v bytes : ℕ) (before : List IpmaEntry) → Reads (ipma_entry_form ids most v bytes before)
unfolding ipma_entry_form
named_reads ids most v bytes before = do
  id ← fields _
  demands 10 _ refl
  demands 11 _ refl
  n ← fields _
  demands 9 _ refl
  l ← manys (association_reads bytes most) n []
  gives _

pub ipma_reads : (ids : List ℕ) (most : ℕ) → Reads (ipma_form ids most)
unfolding ipma_form
ipma_reads ids most = do
  h ← full_reads _
  n ← fields _
  demands 9 _ refl
  manys (named_reads _ _ _ _) n []

target_reads : (ids : List ℕ) (bytes : ℕ) (before : List ℕ) → Reads (target_form ids bytes before)
unfolding target_form
target_reads ids bytes before = do
  t ← fields _
  demands 11 _ refl
  gives _

pub reference_reads : (ids : List ℕ) (bytes kind : ℕ) (before : IrefContent) → Reads (reference_form ids bytes kind before)
unfolding reference_form
reference_reads ids bytes kind before = do
  id ← fields _
  demands 11 _ refl
  demands 10 _ refl
  n ← fields _
  demands 10 _ refl
  demands 9 _ refl
  ts ← manys (target_reads ids bytes) n []
  gives _
