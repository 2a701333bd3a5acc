-- The entries of an `iloc` that was read: one for an ID, each of an item that is listed. Assumes nothing.
use Prim.Native.Nat.{ℕ, zero, suc, ◌<◌}
use native.Mathlib.Nat.{not-suc-le-zero, le_of_suc-le-suc}
use mathlib.Core.Path.{◌≡◌, refl, sym, ap, ◌∙◌, subst}
use mathlib.Core.List.{List, [], ◌∷◌, map-append}
use mathlib.Core.Bool.{true, false}
use lib.ListN.{length, get_or, length-map, get_or-map}
use borrow.Author.Tests.{eq-eqb, ne_eqb, not-true}
use Rattle.fields.specs.Lists.{All, member}
use Rattle.fields.proofs.FieldLaws.{pick_yes, pick_no}
use Rattle.fields.proofs.TestLaws.{member-place}
use Rattle.boxes.specs.Answer.{ok}
use Rattle.forms.specs.Form.{give, demand, ◌>>=◌}
use Rattle.forms.proofs.ManyLaws.{many-all, many-keeps}
use Rattle.contents.specs.Iinf.{ids_of}
use Rattle.contents.specs.Iloc.{Location, located_in, entry_form, iloc_form}
use Rattle.contents.specs.File.{File, read_file}
use Rattle.contents.proofs.ReadLaws.{read-sound}
use Rattle.rules.specs.Joined.{located_at, location_of}
use Rattle.records.specs.inner.Rows.{Distinct}
use Rattle.records.proofs.MemberLaws.{none-member, distinct_more}
use Rattle.records.proofs.RawLaws.{id-at}
use Rattle.views.specs.inner.View.{id_of}
use Rattle.views.proofs.SoundLaws.{all-at}

-- no entry, for a list's default
abbrev pub no_location : Location
no_location = record { id = 0; method = 0; reference = 0; base = 0; extents = [] }

-- entry-form
module _ (ids : List ℕ) (v os ls bs ix : ℕ) (before : List Location) (u : List ℕ) (l : Location) (s : (entry_form ids v os ls bs ix before).Spells u l) where
  entry_new : member l.id (located_in before) ≡ false
  unfolding entry_form ◌>>=◌ demand give
  entry_new = rw s.then.then.then.then.then.then.then.then.then.1 (not-true _ s.then.first.1)

  entry_listed : member l.id ids ≡ true
  unfolding entry_form ◌>>=◌ demand give
  entry_listed = rw s.then.then.then.then.then.then.then.then.then.1 s.then.then.first.1

-- iloc-form
locations-distinct : (ids s : List ℕ) (ls : List Location) → (iloc_form ids).Spells s ls → Distinct (located_in ls)
unfolding iloc_form ◌>>=◌ demand
locations-distinct ids s ls h =
    let t = h.then.then.then.then.then.then.then.then.then in
    many-keeps (λ (l : List Location). Distinct (located_in l)) _
    (λ before u l d q. subst Distinct (sym (map-append (λ (l : Location). l.id) before (l ∷ [])))
    (distinct_more (located_in before) l.id d (entry_new ids _ _ _ _ _ before u l q))) _ [] _ ls tt t

locations-listed : (ids s : List ℕ) (ls : List Location) → (iloc_form ids).Spells s ls → All (λ (l : Location). member l.id ids ≡ true) ls
unfolding iloc_form ◌>>=◌ demand
locations-listed ids s ls h =
    let t = h.then.then.then.then.then.then.then.then.then in
    many-all (λ (l : Location). member l.id ids ≡ true) _ (λ before u l q. entry_listed ids _ _ _ _ _ before u l q) _ [] _ ls tt t

-- located_at: where no ID stands twice, each entry is that of its ID
located-same : (ls : List Location) (j : ℕ) → Distinct (located_in ls) → j < length ls → located_at ls (get_or ls j no_location).id ≡ get_or ls j no_location
unfolding located_at
located-same [] j d h = absurd (not-suc-le-zero h)
located-same (l ∷ ls) zero d h = pick_yes _ _ (eq-eqb l.id l.id refl)
located-same (l ∷ ls) (suc j) d h =
    let m = le_of_suc-le-suc h in
    let n : l.id ≡ (get_or ls j no_location).id → ⊥ =
    λ q. none-member l.id (located_in ls) d.0 j (rw length-map m)
    (get_or-map (λ (l : Location). l.id) ls j no_location ∙ sym q) in
    pick_no _ _ (ne_eqb l.id _ n) ∙ located-same ls j d.1 m

-- read_file: what holds of every item's location holds of every entry
pub each-located : (total : ℕ) (head : List ℕ) (f : File) → read_file total head ≡ ok f → (P : Location → Type 0) →
    ((r : ℕ) → r < length f.items → P (location_of f (id_of f r)))
    → (j : ℕ) → j < length f.locations → P (get_or f.locations j no_location)
each-located total head f e P h j l =
    let s = (read-sound total head f e).keeps.then.spelled.in_iloc in
    let id = (get_or f.locations j no_location).id in
    let m = all-at (λ (l : Location). member l.id (ids_of f.items) ≡ true) no_location f.locations (locations-listed _ _ _ s) j l in
    let r = member-place (ids_of f.items) id m in
    subst P (ap (located_at f.locations) (sym (id-at f.items r.0) ∙ r.2) ∙
    located-same f.locations j (locations-distinct _ _ _ s) l) (h r.0 (rw length-map at r.1))
