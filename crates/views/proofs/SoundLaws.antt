-- What reading has made sure of in a file. Assumes nothing.
use Prim.Native.Nat.{ℕ, zero, suc, ◌<◌, ◌≤◌}
use native.Mathlib.Nat.{not-suc-le-zero, le_of_suc-le-suc}
use mathlib.Core.Path.{◌≡◌, sym, subst}
use mathlib.Core.List.{List, [], ◌∷◌}
use mathlib.Core.Bool.{true}
use lib.ListN.{length, get_or}
use borrow.Author.Tests.{leb-true}
use Rattle.fields.specs.Lists.{All, member}
use Rattle.fields.proofs.FieldLaws.{both}
use Rattle.fields.proofs.TestLaws.{and_both}
use Rattle.boxes.specs.Answer.{ok}
use Rattle.boxes.specs.Box.{kind_of, body_of}
use Rattle.forms.specs.Form.{give, demand, ◌>>=◌}
use Rattle.forms.proofs.ManyLaws.{many-all}
use Rattle.contents.specs.Iinf.{ids_of}
use Rattle.contents.specs.Ipco.{GoodContent}
use Rattle.contents.specs.Ipma.{Association, IpmaEntry, association_form, ipma_entry_form, ipma_form}
use Rattle.contents.specs.Iref.{Reference}
use Rattle.contents.specs.File.{File, read_file}
use Rattle.contents.proofs.ReadLaws.{read-sound}
use Rattle.rules.specs.Joined.{named_for, referred_from, no_association}
use Rattle.rules.specs.Places.{places_in}
use Rattle.rules.proofs.ListedLaws.{read-listed, read-links-listed}
use Rattle.views.specs.inner.View.{Sound}
use Rattle.views.proofs.PartLaws.{idat-part}

-- All
pub all-at : {A : Type 0} (P : A → Type 0) (d : A) (l : List A) → All P l → (k : ℕ) → k < length l → P (get_or l k d)
all-at P d [] a k h = absurd (not-suc-le-zero h)
all-at P d (x ∷ xs) a zero h = a.0
all-at P d (x ∷ xs) a (suc k) h = all-at P d xs a.1 k (le_of_suc-le-suc h)

-- what an association names is there
abbrev Names : ℕ → Association → Type 0
Names most a = a.index ≤ most

association_names : (bytes most : ℕ) (before : List Association) (u : List ℕ) (a : Association) → (association_form bytes most before).Spells u a → Names most a
unfolding association_form ◌>>=◌ demand give
association_names bytes most before u a s = subst (Names most) (sym s.then.then.1) (leb-true _ most (and_both _ _ s.then.first.1).0)

abbrev NamesAll : ℕ → IpmaEntry → Type 0
NamesAll most n = All (Names most) n.list

named-names : (ids : List ℕ) (most v bytes : ℕ) (before : List IpmaEntry) (u : List ℕ) (n : IpmaEntry) →
    (ipma_entry_form ids most v bytes before).Spells u n → NamesAll most n
unfolding ipma_entry_form ◌>>=◌ give
named-names ids most v bytes before u n s =
    let w = s.then.then.then.then.then in
    subst (NamesAll most) (sym w.then.1) (many-all (Names most) (association_form bytes most) (association_names bytes most) _ [] _ _ tt w.first)

ipma-names : (ids : List ℕ) (most : ℕ) (s : List ℕ) (ns : List IpmaEntry) → (ipma_form ids most).Spells s ns → All (NamesAll most) ns
unfolding ipma_form ◌>>=◌
ipma-names ids most s ns h = many-all (NamesAll most) _ (named-names ids most _ _) _ [] _ _ tt h.then.then.then

-- named_for, referred_from: what holds of each entry holds of an ID's
named-all : (most : ℕ) (ns : List IpmaEntry) (id : ℕ) → All (NamesAll most) ns → All (Names most) (named_for ns id)
unfolding named_for
named-all most [] id a = tt
named-all most (n ∷ ns) id a = both (All (Names most)) _ _ _ (λ e. a.0) (λ e. named-all most ns id a.1)

derived-all : (P : ℕ → Type 0) (ds : List Reference) (id : ℕ) → All (λ (d : Reference). All P d.targets) ds → All P (referred_from ds id)
unfolding referred_from
derived-all P [] id a = tt
derived-all P (d ∷ ds) id a = both (All P) _ _ _ (λ e. a.0) (λ e. derived-all P ds id a.1)

-- read_file
pub read_makes_sure : (total : ℕ) (head : List ℕ) (f : File) → read_file total head ≡ ok f → Sound head (places_in total head) f
read_makes_sure total head f e =
    let s = (read-sound total head f e).keeps.then.spelled in
    record {
      indexed = λ id j h. all-at (Names (length f.properties)) no_association (named_for f.associations id)
          (named-all _ f.associations id (ipma-names _ _ _ _ s.in_iprp.associations)) j h;
      held = λ k h. all-at (λ (b : List ℕ). GoodContent (kind_of b) (body_of b)) [] f.properties s.in_iprp.properties.good k h;
      listed = λ id j h. all-at (λ (t : ℕ). member t (ids_of f.items) ≡ true) 0 (referred_from f.derivations id)
          (derived-all _ f.derivations id (read-listed total head f e)) j h;
      linked = λ id j h. all-at (λ (t : ℕ). member t (ids_of f.items) ≡ true) 0 (referred_from f.links id)
          (derived-all _ f.links id (read-links-listed total head f e)) j h;
      idat-room = (idat-part total head f e).room;
      idat-part = (idat-part total head f e).part;
    }
