-- What the lists read so far say of an ID, once an entry is added whose ID they do not have: of that ID the entry, of every other the same. Assumes nothing.
use Prim.Native.Nat.{ℕ, ◌+◌}
use native.Mathlib.Nat.{zero-add}
use native.Mathlib.Omega.{arith}
use mathlib.Core.Path.{◌≡◌, refl, sym, ap, ◌∙◌}
use mathlib.Core.List.{List, [], ◌∷◌, ◌++◌, map}
use mathlib.Core.Bool.{false}
use lib.ListN.{length}
use lib.Dec.{eqb}
use borrow.Author.Tests.{eq-eqb, ne_eqb}
use Rattle.fields.specs.Choice.{pick}
use Rattle.fields.specs.Lists.{member}
use Rattle.fields.proofs.FieldLaws.{pick_yes, pick_no}
use Rattle.contents.specs.Iloc.{Location, located_in, extents_in}
use Rattle.contents.specs.Ipma.{IpmaEntry, associations_in}
use Rattle.contents.specs.Iref.{Reference, referring_in, targets_in}
use Rattle.rules.specs.Joined.{located_at, named_for, referred_from}
use Rattle.rules.specs.Words.{Group, first_in, total_of, named_groups, derived_groups, located_groups}
use Rattle.contents.proofs.SumLaws.{located_in_lem}
use Rattle.records.specs.inner.Raw.{named_words, derived_words, place_words}
use Rattle.records.proofs.MemberLaws.{member_neither, member-last, member-other}

-- the IDs of the entries of an `ipma`
abbrev pub named_in : List IpmaEntry → List ℕ
named_in ns = map (λ (n : IpmaEntry). n.id) ns

-- an answer by ID: that of the first entry that has the ID
module _ {A B : Type 0} (key : A → ℕ) (of : A → B) (at : List A → ℕ → B)
    (next : (a : A) (es : List A) (x : ℕ) → at (a ∷ es) x ≡ pick (eqb (key a) x) (of a) (at es x)) where
  at_last : (es : List A) (a : A) → member (key a) (map key es) ≡ false → at (es ++ (a ∷ [])) (key a) ≡ of a
  at_last [] a e = next a [] (key a) ∙ pick_yes (of a) (at [] (key a)) (eq-eqb (key a) (key a) refl)
  at_last (b ∷ es) a e =
      let n = member_neither (key a) (key b) (map key es) e in
      next b (es ++ (a ∷ [])) (key a) ∙ pick_no _ _ (ne_eqb _ _ (λ q. n.0 (sym q))) ∙ at_last es a n.1

  at_other : (es : List A) (a : A) (x : ℕ) → (x ≡ key a → ⊥) → at (es ++ (a ∷ [])) x ≡ at es x
  at_other [] a x n = next a [] x ∙ pick_no _ _ (ne_eqb _ _ (λ q. n (sym q)))
  at_other (b ∷ es) a x n = next b (es ++ (a ∷ [])) x ∙ ap (pick (eqb (key b) x) (of b)) (at_other es a x n) ∙ sym (next b es x)

-- first_in
module _ {A : Type 0} (key count : A → ℕ) where
  abbrev groups : List A → List Group
  groups es = map (λ (a : A). record { id = key a; count = count a }) es

  first-last : (es : List A) (a : A) (k : ℕ) → member (key a) (map key es) ≡ false → first_in (key a) k (groups (es ++ (a ∷ []))) ≡ k + total_of (groups es)
  unfolding first_in total_of pick
  first-last [] a k e = rw (eq-eqb (key a) (key a) refl) (omega arith)
  first-last (b ∷ es) a k e =
      let n = member_neither (key a) (key b) (map key es) e in
      rw (ne_eqb (key b) (key a) (λ q. n.0 (sym q)), first-last es a (k + count b) n.1) (omega arith)

  first-other : (es : List A) (a : A) (k x : ℕ) → (x ≡ key a → ⊥) → first_in x k (groups (es ++ (a ∷ []))) ≡ first_in x k (groups es)
  unfolding first_in
  first-other [] a k x n = pick_no _ _ (ne_eqb _ _ (λ q. n (sym q)))
  first-other (b ∷ es) a k x n = ap (pick (eqb (key b) x) k) (first-other es a (k + count b) x n)

-- total_of
pub named_total : (ns : List IpmaEntry) → total_of (named_groups ns) ≡ associations_in ns
unfolding total_of associations_in
named_total [] = refl
named_total (n ∷ ns) = rw (named_total ns)

pub derived_total : (ds : List Reference) → total_of (derived_groups ds) ≡ targets_in ds
unfolding total_of targets_in
derived_total [] = refl
derived_total (d ∷ ds) = rw (derived_total ds)

pub located_total : (ls : List Location) → total_of (located_groups ls) ≡ extents_in ls
unfolding total_of extents_in
located_total [] = refl
located_total (l ∷ ls) = rw (located_total ls)

-- named_for
pub named_for_last : (ns : List IpmaEntry) (n : IpmaEntry) → member n.id (named_in ns) ≡ false → named_for (ns ++ (n ∷ [])) n.id ≡ n.list
unfolding named_for
named_for_last ns n e = at_last (λ (m : IpmaEntry). m.id) (λ (m : IpmaEntry). m.list) named_for (λ a es x. refl) ns n e

pub named_for_other : (ns : List IpmaEntry) (n : IpmaEntry) (x : ℕ) → (x ≡ n.id → ⊥) → named_for (ns ++ (n ∷ [])) x ≡ named_for ns x
unfolding named_for
named_for_other ns n x h = at_other (λ (m : IpmaEntry). m.id) (λ (m : IpmaEntry). m.list) named_for (λ a es x. refl) ns n x h

-- named_words
pub named_none : (x : ℕ) → named_words [] x ≡ 0 ∷ 0 ∷ []
unfolding named_words named_for pick
named_none x = refl

pub named-last : (ns : List IpmaEntry) (n : IpmaEntry) → member n.id (named_in ns) ≡ false
    → named_words (ns ++ (n ∷ [])) n.id ≡ pick (eqb (length n.list) 0) 0 (associations_in ns) ∷ length n.list ∷ []
unfolding named_words
named-last ns n e =
    rw (named_for_last ns n e, first-last (λ (m : IpmaEntry). m.id) (λ (m : IpmaEntry). length m.list) ns n 0 e, zero-add, named_total ns)

pub named_other : (ns : List IpmaEntry) (n : IpmaEntry) (x : ℕ) → (x ≡ n.id → ⊥) → named_words (ns ++ (n ∷ [])) x ≡ named_words ns x
unfolding named_words
named_other ns n x h =
    rw (named_for_other ns n x h, first-other (λ (m : IpmaEntry). m.id) (λ (m : IpmaEntry). length m.list) ns n 0 x h)

-- referred_from
pub derived-from-last : (ds : List Reference) (d : Reference) → member d.id (referring_in ds) ≡ false → referred_from (ds ++ (d ∷ [])) d.id ≡ d.targets
unfolding referred_from
derived-from-last ds d e = at_last (λ (m : Reference). m.id) (λ (m : Reference). m.targets) referred_from (λ a es x. refl) ds d e

pub derived-from-other : (ds : List Reference) (d : Reference) (x : ℕ) → (x ≡ d.id → ⊥) → referred_from (ds ++ (d ∷ [])) x ≡ referred_from ds x
unfolding referred_from
derived-from-other ds d x h = at_other (λ (m : Reference). m.id) (λ (m : Reference). m.targets) referred_from (λ a es x. refl) ds d x h

-- derived_words
pub derived-none : (x : ℕ) → derived_words [] x ≡ 0 ∷ 0 ∷ []
unfolding derived_words referred_from pick
derived-none x = refl

pub derived-last : (ds : List Reference) (d : Reference) → member d.id (referring_in ds) ≡ false
    → derived_words (ds ++ (d ∷ [])) d.id ≡ pick (eqb (length d.targets) 0) 0 (targets_in ds) ∷ length d.targets ∷ []
unfolding derived_words
derived-last ds d e =
    rw (derived-from-last ds d e, first-last (λ (m : Reference). m.id) (λ (m : Reference). length m.targets) ds d 0 e, zero-add, derived_total ds)

pub derived-other : (ds : List Reference) (d : Reference) (x : ℕ) → (x ≡ d.id → ⊥) → derived_words (ds ++ (d ∷ [])) x ≡ derived_words ds x
unfolding derived_words
derived-other ds d x h =
    rw (derived-from-other ds d x h, first-other (λ (m : Reference). m.id) (λ (m : Reference). length m.targets) ds d 0 x h)

-- located_at
pub located-last : (ls : List Location) (l : Location) → member l.id (located_in ls) ≡ false → located_at (ls ++ (l ∷ [])) l.id ≡ l
unfolding located_at
located-last ls l e = at_last (λ (m : Location). m.id) (λ (m : Location). m) located_at (λ a es x. refl) ls l e

pub located-other : (ls : List Location) (l : Location) (x : ℕ) → (x ≡ l.id → ⊥) → located_at (ls ++ (l ∷ [])) x ≡ located_at ls x
unfolding located_at
located-other ls l x h = at_other (λ (m : Location). m.id) (λ (m : Location). m) located_at (λ a es x. refl) ls l x h

-- place_words
pub place_none : (x : ℕ) → place_words [] x ≡ 0 ∷ 0 ∷ 0 ∷ 0 ∷ 0 ∷ []
unfolding place_words located_at pick
place_none x = refl

pub place-last : (ls : List Location) (l : Location) → member l.id (located_in ls) ≡ false
    → place_words (ls ++ (l ∷ [])) l.id ≡ pick (eqb (length l.extents) 0) 0 (extents_in ls) ∷ length l.extents ∷ l.method ∷ l.reference ∷ 1 ∷ []
unfolding place_words pick
place-last ls l e =
    rw (
      located-last ls l e,
      first-last (λ (m : Location). m.id) (λ (m : Location). length m.extents) ls l 0 e,
      zero-add,
      located_total ls,
      located_in_lem ls l,
      member-last l.id (located_in ls),
    )

pub place_other : (ls : List Location) (l : Location) (x : ℕ) → (x ≡ l.id → ⊥) → place_words (ls ++ (l ∷ [])) x ≡ place_words ls x
unfolding place_words
place_other ls l x h =
    rw (
      located-other ls l x h,
      first-other (λ (m : Location). m.id) (λ (m : Location). length m.extents) ls l 0 x h,
      located_in_lem ls l,
      member-other x l.id (located_in ls) h,
    )
