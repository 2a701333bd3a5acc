-- Spans: lists in file order, each entry with an ID and so many records of w words, are joined; the records of an ID
-- stand from its first index on. Assumes nothing.
--   key, of      an entry's ID, and what is said of it;   at    what is said of an ID: that of the first entry that has it
--   N            how many records that is;   W    their words
use Prim.Native.Nat.{ℕ, ◌+◌, ◌*◌, ◌<◌, ◌≤◌}
use native.Mathlib.Nat.{mul-zero, mul-add}
use native.Mathlib.Omega.{arith}
use mathlib.Core.Path.{◌≡◌, refl, sym, ap, ◌∙◌, subst}
use mathlib.Core.List.{List, [], ◌∷◌, ◌++◌, map, append_assoc}
use mathlib.Core.Bool.{Bool, true, false}
use lib.ListN.{length, get_or, length-append, length-map, get_or-append, get_or-map}
use lib.Dec.{eqb}
use borrow.Author.Tests.{eqb-true, ne_eqb}
use Rattle.fields.specs.Choice.{pick}
use Rattle.fields.proofs.FieldLaws.{pick_yes, pick_no, both}
use Rattle.contents.specs.Iloc.{Extent, Location, extents_in}
use Rattle.contents.specs.Ipma.{Association, IpmaEntry, associations_in}
use Rattle.contents.specs.Iref.{Reference, targets_in}
use Rattle.rules.specs.Joined.{no_extent, located_at, named_for, referred_from, no_association}
use Rattle.rules.specs.Words.{Group, join_all, first_in, total_of, named_groups, derived_groups, located_groups, association_word}
use Rattle.records.specs.inner.Raw.{association_rows, target_rows}
use Rattle.records.proofs.JoinLaws.{join-length, join-get_or}
use Rattle.records.proofs.SaidLaws.{named_total, derived_total, located_total}
use Rattle.records.proofs.SetsLaws.{get_or-from}

-- the first index of a span
abbrev pub first_of : ℕ → List Group → ℕ → ℕ
first_of x gs n = pick (eqb n 0) 0 (first_in x 0 gs)

module _ {A B : Type 0} (key : A → ℕ) (of : A → B) (at : List A → ℕ → B)
    (next : (a : A) (es : List A) (x : ℕ) → at (a ∷ es) x ≡ pick (eqb (key a) x) (of a) (at es x)) where
  at-yes : (a : A) (es : List A) (x : ℕ) → eqb (key a) x ≡ true → at (a ∷ es) x ≡ of a
  at-yes a es x e = next a es x ∙ pick_yes (of a) (at es x) e

  at_no : (a : A) (es : List A) (x : ℕ) → eqb (key a) x ≡ false → at (a ∷ es) x ≡ at es x
  at_no a es x e = next a es x ∙ pick_no (of a) (at es x) e

  module _ (N : B → ℕ) (none : (x : ℕ) → N (at [] x) ≡ 0) where
    abbrev groups : List A → List Group
    groups es = map (λ (a : A). record { id = key a; count = N (of a) }) es

    -- first_in
    first-yes : (a : A) (es : List A) (x n : ℕ) → eqb (key a) x ≡ true → first_in x n (groups (a ∷ es)) ≡ n
    unfolding first_in
    first-yes a es x n e = pick_yes n (first_in x (n + N (of a)) (groups es)) e

    first_no : (a : A) (es : List A) (x n : ℕ) → eqb (key a) x ≡ false → first_in x n (groups (a ∷ es)) ≡ first_in x (n + N (of a)) (groups es)
    unfolding first_in
    first_no a es x n e = pick_no n (first_in x (n + N (of a)) (groups es)) e

    first-room : (es : List A) (x n : ℕ) → first_in x n (groups es) + N (at es x) ≤ n + total_of (groups es)
    unfolding first_in total_of
    first-room [] x n = omega (arith, none x)
    first-room (a ∷ es) x n = by (eqb (key a) x) refl (first-room es x (n + N (of a)))
      where
        by : (t : Bool) → eqb (key a) x ≡ t → first_in x (n + N (of a)) (groups es) + N (at es x) ≤ n + N (of a) + total_of (groups es)
            → first_in x n (groups (a ∷ es)) + N (at (a ∷ es) x) ≤ n + (N (of a) + total_of (groups es))
        by true e h = rw (first-yes a es x n e, at-yes a es x e) (omega arith)
        by false e h = rw (first_no a es x n e, at_no a es x e) (omega arith)

    -- first_of
    span-room : (es : List A) (x : ℕ) → first_of x (groups es) (N (at es x)) + N (at es x) ≤ total_of (groups es)
    span-room es x =
        both (λ (i : ℕ). i + N (at es x) ≤ total_of (groups es)) (eqb (N (at es x)) 0) 0 (first_in x 0 (groups es))
        (λ e. omega (arith, eqb-true (N (at es x)) 0 e)) (λ e. omega (arith, first-room es x 0))

    module _ (W : B → List ℕ) (w : ℕ) (sized : (b : B) → length (W b) ≡ w * N b) where
      abbrev joined : List A → List ℕ
      joined es = join_all (λ (a : A). W (of a)) es

      -- join_all
      first_word : (es : List A) (x n : ℕ) (pre : List ℕ) (i : ℕ) → length pre ≡ w * n → i < length (W (at es x))
          → get_or (pre ++ joined es) (w * first_in x n (groups es) + i) 0 ≡ get_or (W (at es x)) i 0
      unfolding join_all
      first_word [] x n pre i l h = absurd (omega (arith, sized (at [] x), ap (λ (k : ℕ). w * k) (none x), mul-zero w))
      first_word (a ∷ es) x n pre i l h =
          by (eqb (key a) x) refl
          (first_word es x (n + N (of a)) (pre ++ W (of a)) i (rw (length-append, mul-add) (omega (arith, sized (of a)))))
        where
          by : (t : Bool) → eqb (key a) x ≡ t
              → (i < length (W (at es x)) → get_or ((pre ++ W (of a)) ++ joined es)
              (w * first_in x (n + N (of a)) (groups es) + i) 0 ≡ get_or (W (at es x)) i 0)
              → get_or (pre ++ (W (of a) ++ joined es)) (w * first_in x n (groups (a ∷ es)) + i) 0 ≡ get_or (W (at (a ∷ es) x)) i 0
          by true e k =
              let m : i < length (W (of a)) = subst (λ (b : B). i < length (W b)) (at-yes a es x e) h in
              rw (first-yes a es x n e, at-yes a es x e)
              (get_or-from pre _ (w * n) i (w * n + i) l refl ∙ get_or-append (W (of a)) (joined es) 0 i m)
          by false e k =
              let m : i < length (W (at es x)) = subst (λ (b : B). i < length (W b)) (at_no a es x e) h in
              rw (first_no a es x n e, at_no a es x e, ← append_assoc) (k m)

      span_word : (es : List A) (x i k : ℕ) → i < length (W (at es x)) →
          k ≡ w * first_of x (groups es) (N (at es x)) + i → get_or (joined es) k 0 ≡ get_or (W (at es x)) i 0
      span_word es x i k h e =
          let some : eqb (N (at es x)) 0 ≡ false = ne_eqb (N (at es x)) 0 (λ q. omega (arith, sized (at es x), ap (λ (j : ℕ). w * j) q, mul-zero w)) in
          ap (λ (j : ℕ). get_or (joined es) j 0) (e ∙ ap (λ (j : ℕ). w * j + i) (pick_no 0 (first_in x 0 (groups es)) some))
          ∙ first_word es x 0 [] i (sym (mul-zero w)) h

-- named_for
pub named-room : (ns : List IpmaEntry) (x : ℕ) → first_of x (named_groups ns) (length (named_for ns x)) + length (named_for ns x) ≤ associations_in ns
unfolding named_for
named-room ns x = rw (named_total ns) at (span-room (λ (n : IpmaEntry). n.id) (λ (n : IpmaEntry). n.list) named_for
    (λ a es y. refl) (λ l. length l) (λ y. refl) ns x)

pub named-span : (ns : List IpmaEntry) (x j : ℕ) → j < length (named_for ns x)
    → get_or (association_rows ns) (first_of x (named_groups ns) (length (named_for ns x)) + j) 0 ≡ association_word (get_or (named_for ns x) j no_association)
unfolding named_for association_rows pick
named-span ns x j h =
    span_word (λ (n : IpmaEntry). n.id) (λ (n : IpmaEntry). n.list) named_for (λ a es y. refl) (λ l. length l) (λ y. refl)
    (λ l. map (λ (a : Association). association_word a) l) 1 (λ l. rw length-map (omega arith)) ns x j _ (rw length-map h) (omega arith)
    ∙ get_or-map (λ (a : Association). association_word a) (named_for ns x) j no_association

-- referred_from
pub target_room : (ds : List Reference) (x : ℕ) → first_of x (derived_groups ds) (length (referred_from ds x)) + length (referred_from ds x) ≤ targets_in ds
unfolding referred_from
target_room ds x = rw (derived_total ds) at (span-room (λ (d : Reference). d.id) (λ (d : Reference). d.targets)
    referred_from (λ a es y. refl) (λ l. length l) (λ y. refl) ds x)

pub target-span : (ds : List Reference) (x j : ℕ) → j < length (referred_from ds x)
    → get_or (target_rows ds) (first_of x (derived_groups ds) (length (referred_from ds x)) + j) 0 ≡ get_or (referred_from ds x) j 0
unfolding referred_from target_rows
target-span ds x j h =
    span_word (λ (d : Reference). d.id) (λ (d : Reference). d.targets) referred_from (λ a es y. refl) (λ l. length l) (λ y. refl)
    (λ l. l) 1 (λ l. omega arith) ds x j _ h (omega arith)

-- located_at
pub extent-room : (ls : List Location) (x : ℕ) →
    first_of x (located_groups ls) (length (located_at ls x).extents) + length (located_at ls x).extents ≤ extents_in ls
unfolding located_at
extent-room ls x =
    rw (located_total ls) at (span-room (λ (l : Location). l.id) (λ (l : Location). l) located_at (λ a es y. refl)
    (λ (l : Location). length l.extents) (λ y. refl) ls x)

-- extents of four words each, as g spells them
abbrev pub extents_by : (Location → Extent → List ℕ) → List Location → List ℕ
extents_by g ls = join_all (λ (l : Location). join_all (λ (e : Extent). g l e) l.extents) ls

module _ (g : Location → Extent → List ℕ) (four : (l : Location) (e : Extent) → length (g l e) ≡ 4) where
  extents_of_lem : (l : Location) → length (join_all (λ (e : Extent). g l e) l.extents) ≡ 4 * length l.extents
  extents_of_lem l = join-length (λ (e : Extent). g l e) 4 (four l) l.extents

  pub extents-by-length : (ls : List Location) → length (extents_by g ls) ≡ 4 * extents_in ls
  unfolding join_all extents_in
  extents-by-length [] = refl
  extents-by-length (l ∷ ls) = rw (length-append, extents_of_lem l, extents-by-length ls) (omega arith)

  pub extent-span : (ls : List Location) (x j k : ℕ) → j < length (located_at ls x).extents → k < 4
      → get_or (extents_by g ls) (4 * (first_of x (located_groups ls) (length (located_at ls x).extents) + j) + k) 0
      ≡ get_or (g (located_at ls x) (get_or (located_at ls x).extents j no_extent)) k 0
  unfolding located_at
  extent-span ls x j k h m =
      span_word (λ (l : Location). l.id) (λ (l : Location). l) located_at (λ a es y. refl) (λ (l : Location). length l.extents) (λ y. refl)
      (λ (l : Location). join_all (λ (e : Extent). g l e) l.extents) 4 extents_of_lem ls x (4 * j + k) _
      (rw (extents_of_lem (located_at ls x)) (omega arith)) (omega arith)
      ∙ join-get_or (λ (e : Extent). g (located_at ls x) e) 4 (four (located_at ls x)) no_extent (located_at ls x).extents j k h m
