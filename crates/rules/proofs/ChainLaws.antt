-- What the tests of a chain tell: document 02, Q-7.
--   thirty, chain-good       `chained 8` fails exactly where the chain is bad (30), and holds exactly where it is good
--   ninth                    deeper than 8: a ninth link, or one that lacks its reference, or an item of method 2 without extents
--   names-past               `names_past 8`, of a good chain: it leads to an item whose lengths sum to 2^64 or more
--   ring-unchained, into-ring-unchained    what returns to itself, or leads to such an item, ends within no number of links
--   chained-le, past-le      more depth than a chain needs changes nothing
-- Assumes nothing.
use Prim.Native.Nat.{ℕ, zero, suc, ◌+◌, ◌-◌, ◌≤◌, ◌<◌}
use native.Mathlib.Nat.{not-suc-le-zero, le_of_suc-le-suc}
use native.Mathlib.Omega.{arith}
use mathlib.Core.Path.{◌≡◌, refl, sym, ap, ◌∙◌, subst}
use mathlib.Core.List.{List, [], ◌∷◌}
use mathlib.Core.Bool.{Bool, true, false, ◌&&◌, ◌||◌, not}
use mathlib.Core.Logic.{◌⊎◌, inl, inr, ⊎_elim, ◌↔◌}
use lib.ListN.{length, get_or}
use lib.Dec.{ltb}
use borrow.Author.Tests.{leb-false, leb-true, le-leb, ltb-true, lt-ltb, not-true, not-false}
use Rattle.fields.proofs.FieldLaws.{both, pick_yes}
use Rattle.fields.proofs.TestLaws.{untrue, and_both, both-and, or_neither, or_either}
use Rattle.boxes.specs.Answer.{Answer, ok, refuse}
use Rattle.boxes.proofs.AnswerLaws.{ok_inj, not-refused}
use Rattle.contents.specs.Iloc.{Extent}
use Rattle.contents.specs.File.{File}
use Rattle.rules.specs.Joined.{location_of, links_of}
use Rattle.rules.specs.Bytes.{all_extents, named, of_named, made_of_items, chained, length_of, sums_past, names_past}
use Rattle.rules.specs.Links.{Among, Link, Lacks, LeadsIn, Leads, link, over, BadChain, returns, deeper, lacking, GoodChain, NamesPast}

-- tests
pub refuted : (t : Bool) → (t ≡ true → ⊥) → t ≡ false
refuted true h = absurd (h refl)
refuted false h = refl

not-both : {A : Type 0} (t : Bool) → t ≡ true → t ≡ false → A
not-both t e h = untrue (sym h ∙ e)

same_tests : (a b : Bool) → (a ≡ true → b ≡ true) → (b ≡ true → a ≡ true) → a ≡ b
same_tests true b f g = sym (f refl)
same_tests false true f g = g refl
same_tests false false f g = refl

or_first : (a b : Bool) → a ≡ true → (a || b) ≡ true
or_first a b e = rw e

or_second : (a b : Bool) → b ≡ true → (a || b) ≡ true
or_second true b e = refl
or_second false b e = e

not_of : (t : Bool) → t ≡ false → not t ≡ true
not_of t e = rw e

-- all_extents goes by its test
pub all_same : (t u : Extent → Bool) (es : List Extent) → ((e : Extent) → t e ≡ u e) → all_extents t es ≡ all_extents u es
unfolding all_extents
all_same t u [] h = refl
all_same t u (e ∷ es) h = rw (h e, all_same t u es h)

-- all_extents
pub all_among : (t : Extent → Bool) (es : List Extent) → all_extents t es ≡ true → (e : Extent) → Among e es → t e ≡ true
unfolding all_extents
all_among t [] h e a = absurd a
all_among t (x ∷ es) h e (inl z) = ap t z ∙ (and_both (t x) (all_extents t es) h).0
all_among t (x ∷ es) h e (inr a) = all_among t es (and_both (t x) (all_extents t es) h).1 e a

pub among-all : (t : Extent → Bool) (es : List Extent) → ((e : Extent) → Among e es → t e ≡ true) → all_extents t es ≡ true
unfolding all_extents
among-all t [] h = refl
among-all t (x ∷ es) h = both-and (t x) (all_extents t es) (h x (inl refl)) (among-all t es (λ e a. h e (inr a)))

all-fails : (t : Extent → Bool) (es : List Extent) → all_extents t es ≡ false → (e : Extent) × Among e es × (t e ≡ false)
unfolding all_extents
all-fails t [] h = untrue (sym h)
all-fails t (x ∷ es) h = by (t x) refl h (all-fails t es)
  where
    by : (b : Bool) → b ≡ t x → (b && all_extents t es) ≡ false → (all_extents t es ≡ false → (e : Extent) × Among e es × (t e ≡ false)) →
        (e : Extent) × Among e (x ∷ es) × (t e ≡ false)
    by true z h rec = let r = rec h in (r.0, inr r.1, r.2)
    by false z h rec = (x, inl refl, sym z)

-- of_named
of_named-ok : (t : ℕ → Bool) (a : Answer ℕ) (j : ℕ) → a ≡ ok j → of_named t a ≡ t j
of_named-ok t a j e = rw e

of_named-true : (t : ℕ → Bool) (a : Answer ℕ) → of_named t a ≡ true → (j : ℕ) × (a ≡ ok j) × (t j ≡ true)
of_named-true t (ok j) h = (j, refl, h)
of_named-true t (refuse n p) h = untrue h

of_named-false : (t : ℕ → Bool) (a : Answer ℕ) → of_named t a ≡ false →
    ((j : ℕ) × (a ≡ ok j) × (t j ≡ false)) ⊎ ((n : ℕ) × (p : ℕ) × (a ≡ refuse n p))
of_named-false t (ok j) h = inl (j, refl, h)
of_named-false t (refuse n p) h = inr (n, p, refl)

-- named
named-refused : (f : File) (i : ℕ) (e : Extent) (n p : ℕ) → named f i e ≡ refuse n p → named f i e ≡ refuse 30 i
unfolding named
named-refused f i e n p =
    both (λ (a : Answer ℕ). a ≡ refuse n p → a ≡ refuse 30 i) _ _ _ (λ t h. not-refused _ n p h) (λ t h. refl)

-- an index picks a reference exactly where it is one of 1 to their number
pub named_ok : (f : File) (i : ℕ) (e : Extent) (j : ℕ) →
    (named f i e ≡ ok j) ↔ ((0 < e.index) × (e.index ≤ length (links_of f i)) × (get_or (links_of f i) (e.index - 1) 0 ≡ j))
unfolding named
named_ok f i e j = (
  both (λ (a : Answer ℕ). a ≡ ok j → (0 < e.index) × (e.index ≤ length (links_of f i)) × (get_or (links_of f i) (e.index - 1) 0 ≡ j)) _ _ _
      (λ t h. let x = and_both (ltb 0 e.index) _ t in (ltb-true 0 e.index x.0, leb-true _ _ x.1, ok_inj _ j h))
      (λ t h. not-refused j 30 i (sym h)),
  (λ x. pick_yes _ _ (both-and _ _ (lt-ltb 0 e.index x.0) (le-leb e.index _ x.1)) ∙ ap ok x.2),
)

module _ (f : File) where
  -- chained, a link at a time
  pub chained-other : (n i : ℕ) → made_of_items f i ≡ false → chained n f i ≡ true
  unfolding chained
  chained-other zero i e = not_of _ e
  chained-other (suc n) i e = or_first _ _ (not_of _ e)

  pub chained-end : (i : ℕ) → chained 0 f i ≡ true → made_of_items f i ≡ false
  unfolding chained
  chained-end i e = not-true _ e

  chained-all : (n i : ℕ) → chained (suc n) f i ≡ true → made_of_items f i ≡ true →
      all_extents (λ (e : Extent). of_named (λ j. chained n f j) (named f i e)) (location_of f i).extents ≡ true
  unfolding chained
  chained-all n i e m = ⊎_elim (λ h. not-both _ m (not-true _ h)) (λ h. h) (or_either (not (made_of_items f i)) _ e)

  pub chained-link : (n i j : ℕ) → chained (suc n) f i ≡ true → Link f i j → chained n f j ≡ true
  chained-link n i j e l =
      sym (of_named-ok (λ j. chained n f j) _ j l.picks)
      ∙ all_among (λ (e : Extent). of_named (λ j. chained n f j) (named f i e)) _ (chained-all n i e l.made) l.extent l.among

  -- an extent of an item whose chain is good names one
  pub named-link : (n i : ℕ) (e : Extent) → chained (suc n) f i ≡ true → made_of_items f i ≡ true → Among e (location_of f i).extents →
      (j : ℕ) × (named f i e ≡ ok j)
  named-link n i e c m a =
      let h = of_named-true _ _ (all_among (λ (e : Extent). of_named (λ j. chained n f j) (named f i e)) _ (chained-all n i c m) e a) in
      (h.0, h.1)

  pub chained-whole : (n i : ℕ) → chained n f i ≡ true → Lacks f i → ⊥
  chained-whole zero i e l = not-both _ l.made (chained-end i e)
  chained-whole (suc n) i e l =
      let h = all_among (λ (e : Extent). of_named (λ j. chained n f j) (named f i e)) _ (chained-all n i e l.made) l.extent l.among in
      let r = of_named-true (λ j. chained n f j) _ h in
      not-refused r.0 30 i (sym r.1 ∙ l.picks-none)

  pub chained-by : (n i : ℕ) → ((j : ℕ) → Link f i j → chained n f j ≡ true) → (Lacks f i → ⊥) → chained (suc n) f i ≡ true
  unfolding chained
  chained-by n i h w = by (made_of_items f i) refl
    where
      each : made_of_items f i ≡ true → (e : Extent) → Among e (location_of f i).extents →
          (a : Answer ℕ) → named f i e ≡ a → of_named (λ j. chained n f j) a ≡ true
      each m e a (ok j) z = h j (record { made = m; extent = e; among = a; picks = z })
      each m e a (refuse k p) z = absurd (w (record { made = m; extent = e; among = a; picks-none = named-refused f i e k p z }))

      by : (b : Bool) → made_of_items f i ≡ b →
          (not b || all_extents (λ (e : Extent). of_named (λ j. chained n f j) (named f i e)) (location_of f i).extents) ≡ true
      by true m = among-all _ _ (λ e a. each m e a (named f i e) refl)
      by false m = refl

  -- more depth
  pub chained-suc : (n i : ℕ) → chained n f i ≡ true → chained (suc n) f i ≡ true
  chained-suc zero i e = chained-other 1 i (chained-end i e)
  chained-suc (suc n) i e = chained-by (suc n) i (λ j l. chained-suc n j (chained-link n i j e l)) (chained-whole (suc n) i e)

  pub chained_le : (n m i : ℕ) → n ≤ m → chained n f i ≡ true → chained m f i ≡ true
  chained_le zero m i h e = chained-other m i (chained-end i e)
  chained_le (suc n) zero i h e = absurd (not-suc-le-zero h)
  chained_le (suc n) (suc m) i h e =
      chained-by m i (λ j l. chained_le n m j (le_of_suc-le-suc h) (chained-link n i j e l)) (chained-whole (suc n) i e)

  -- along a path
  pub chained-short : (k n i j : ℕ) → chained n f i ≡ true → LeadsIn f k i j → k ≤ n
  unfolding LeadsIn
  chained-short zero n i j e l = omega arith
  chained-short (suc k) zero i j e l = not-both _ l.1.made (chained-end i e)
  chained-short (suc k) (suc n) i j e l = let h = chained-short k n l.0 j (chained-link n i l.0 e l.1) l.2 in omega arith

  pub chained_along : (k n m i j : ℕ) → m ≡ k + n → chained m f i ≡ true → LeadsIn f k i j → chained n f j ≡ true
  unfolding LeadsIn
  chained_along zero n m i j z e l = let w : m ≡ n = omega arith in rw (← l, ← w) e
  chained_along (suc k) n zero i j z e l = absurd (omega arith)
  chained_along (suc k) n (suc m) i j z e l = chained_along k n m l.0 j (omega arith) (chained-link m i l.0 e l.1) l.2

  -- Leads, counted
  pub leads_in : {i j : ℕ} → Leads f i j → (k : ℕ) × LeadsIn f (suc k) i j
  unfolding LeadsIn
  leads_in {i} {j} (link l) = (0, (j, l, refl))
  leads_in {i} {j} (over {m = m} l r) = let h = leads_in r in (suc h.0, (m, l, h.1))

  pub in_leads : (k i j : ℕ) → LeadsIn f (suc k) i j → Leads f i j
  unfolding LeadsIn
  in_leads zero i j l = link (subst (Link f i) l.2 l.1)
  in_leads (suc k) i j l = over l.1 (in_leads k l.0 j l.2)

  -- "returns to itself"
  chained_lower : {i j : ℕ} → Leads f i j → (n : ℕ) → chained n f i ≡ true → (m : ℕ) × (m < n) × (chained m f j ≡ true)
  chained_lower {i} {j} (link l) zero e = not-both _ l.made (chained-end i e)
  chained_lower {i} {j} (link l) (suc n) e = (n, omega arith, chained-link n i j e l)
  chained_lower {i} {j} (over l r) zero e = not-both _ l.made (chained-end i e)
  chained_lower {i} {j} (over {m = k} l r) (suc n) e =
      let h = chained_lower r n (chained-link n i k e l) in (h.0, let s = h.1 in omega arith, h.2)

  never-returns : (most n i : ℕ) → n < most → chained n f i ≡ true → Leads f i i → ⊥
  never-returns zero n i h e l = not-suc-le-zero h
  never-returns (suc most) n i h e l = let r = chained_lower l n e in never-returns most r.0 i (let s = r.1 in omega arith) r.2 l

  pub ring_unchained : (n i : ℕ) → Leads f i i → chained n f i ≡ false
  ring_unchained n i l = refuted _ (λ e. never-returns (suc n) n i (omega arith) e l)

  -- and what leads into a ring
  pub into_ring_unchained : (n i j : ℕ) → Leads f i j → Leads f j j → chained n f i ≡ false
  into_ring_unchained n i j l r = refuted _ (λ e. let h = chained_lower l n e in not-both _ h.2 (ring_unchained h.0 j r))

  -- chained, failing: at the end of n links an item that is made of items, or somewhere one that lacks a reference
  pub unchained : (n i : ℕ) → chained n f i ≡ false →
      ((j : ℕ) × LeadsIn f n i j × (made_of_items f j ≡ true)) ⊎ ((k : ℕ) × (j : ℕ) × LeadsIn f k i j × Lacks f j)
  unfolding LeadsIn chained
  unchained zero i e = inl (i, refl, not-false _ e)
  unchained (suc n) i e =
      let h = or_neither (not (made_of_items f i)) _ e in
      let m = not-false _ h.0 in
      let x = all-fails _ _ h.1 in
      ⊎_elim
      (λ y. let l : Link f i y.0 = record { made = m; extent = x.0; among = x.1; picks = y.1 } in
      ⊎_elim (λ r. inl (r.0, (y.0, l, r.1), r.2)) (λ r. inr (suc r.0, r.1, (y.0, l, r.2), r.3)) (unchained n y.0 y.2))
      (λ y. inr (0, i, refl, record { made = m; extent = x.0; among = x.1; picks-none = named-refused f i x.0 y.0 y.1 y.2 }))
      (of_named-false (λ j. chained n f j) (named f i x.0) x.2)

  deeper_unchained : (n i j : ℕ) → LeadsIn f n i j → made_of_items f j ≡ true → chained n f i ≡ false
  deeper_unchained n i j l m = refuted _ (λ e. not-both _ m (chained-end j (chained_along n 0 n i j (omega arith) e l)))

  lacking_unchained : (k n i j : ℕ) → LeadsIn f k i j → Lacks f j → chained n f i ≡ false
  lacking_unchained k n i j l w =
      refuted _ (λ e. let h = chained-short k n i j e l in ends (n - k) (omega arith) e)
    where
      ends : (d : ℕ) → n ≡ k + d → chained n f i ≡ true → ⊥
      ends d z e = chained-whole d j (chained_along k d n i j z e l) w

  -- 30
  pub thirty : (i : ℕ) → (chained 8 f i ≡ false) ↔ BadChain f i
  thirty i = ((λ e. ⊎_elim (λ x. deeper x.0 x.1 x.2) (λ x. lacking x.0 x.1 x.2 x.3) (unchained 8 i e)), back)
    where
      back : BadChain f i → chained 8 f i ≡ false
      back (returns l) = ring_unchained 8 i l
      back (deeper j l m) = deeper_unchained 8 i j l m
      back (lacking k j l w) = lacking_unchained k 8 i j l w

  pub chain-good : (i : ℕ) → (chained 8 f i ≡ true) ↔ GoodChain f i
  chain-good i = (there, back (chained 8 f i) refl)
    where
      there : chained 8 f i ≡ true → GoodChain f i
      there e = record {
        at-most-8 = λ k j l. chained-short k 8 i j e l;
        ends = λ j l. chained-end j (chained_along 8 0 8 i j (omega arith) e l);
        none_lacks = λ k j l w. not-both _ e (lacking_unchained k 8 i j l w);
      }

      back : (t : Bool) → chained 8 f i ≡ t → GoodChain f i → t ≡ true
      back true e g = refl
      back false e g =
          ⊎_elim (λ x. not-both _ x.2 (g.ends x.0 x.1)) (λ x. absurd (g.none_lacks x.0 x.1 x.2 x.3)) (unchained 8 i e)

  -- the end of a path
  lead-on : (k i j m : ℕ) → LeadsIn f k i j → Link f j m → LeadsIn f (suc k) i m
  unfolding LeadsIn
  lead-on zero i j m l w = (m, subst (λ (i : ℕ). Link f i m) (sym l) w, refl)
  lead-on (suc k) i j m l w = (l.0, l.1, lead-on k l.0 j m l.2 w)

  last-link : (k i m : ℕ) → LeadsIn f (suc k) i m → (j : ℕ) × LeadsIn f k i j × Link f j m
  unfolding LeadsIn
  last-link zero i m l = (i, refl, subst (Link f i) l.2 l.1)
  last-link (suc k) i m l = let r = last-link k l.0 m l.2 in (r.0, (l.0, l.1, r.1), r.2)

  made_next : (j : ℕ) → made_of_items f j ≡ true → ((m : ℕ) × Link f j m) ⊎ (Lacks f j ⊎ ((location_of f j).extents ≡ []))
  made_next j m = by (location_of f j).extents refl
    where
      picked : (e : Extent) → Among e (location_of f j).extents → (a : Answer ℕ) → named f j e ≡ a →
          ((m : ℕ) × Link f j m) ⊎ (Lacks f j ⊎ ((location_of f j).extents ≡ []))
      picked e a (ok k) z = inl (k, record { made = m; extent = e; among = a; picks = z })
      picked e a (refuse n p) z = inr (inl (record { made = m; extent = e; among = a; picks-none = named-refused f j e n p z }))

      by : (es : List Extent) → (location_of f j).extents ≡ es →
          ((m : ℕ) × Link f j m) ⊎ (Lacks f j ⊎ ((location_of f j).extents ≡ []))
      by [] z = inr (inr z)
      by (e ∷ es) z = picked e (subst (Among e) (sym z) (inl refl)) (named f j e) refl

  -- "deeper than 8", link by link: a ninth link; or, eight links on, one without its reference, or an item of method 2 without extents
  pub ninth : (i : ℕ) → ((j : ℕ) × LeadsIn f 8 i j × (made_of_items f j ≡ true)) ↔
      (((m : ℕ) × LeadsIn f 9 i m)
      ⊎ ((j : ℕ) × LeadsIn f 8 i j × (Lacks f j ⊎ ((made_of_items f j ≡ true) × ((location_of f j).extents ≡ [])))))
  ninth i = (
    (λ x. ⊎_elim (λ y. inl (y.0, lead-on 8 i x.0 y.0 x.1 y.1))
        (⊎_elim (λ y. inr (x.0, x.1, inl y)) (λ y. inr (x.0, x.1, inr (x.2, y)))) (made_next x.0 x.2)),
    ⊎_elim (λ y. let r = last-link 8 i y.0 y.1 in (r.0, r.1, r.2.made))
        (λ y. (y.0, y.1, ⊎_elim (λ (w : Lacks f y.0). w.made) (λ w. w.0) y.2)),
  )

  -- names_past
  past_path : (n i : ℕ) → names_past n f i ≡ true →
      (k : ℕ) × (j : ℕ) × LeadsIn f (suc k) i j × (18446744073709551616 ≤ length_of f j)
  unfolding names_past LeadsIn
  past_path zero i e = untrue e
  past_path (suc n) i e =
      let h = and_both (made_of_items f i) _ e in
      let x = all-fails _ _ (not-true _ h.1) in
      let y = of_named-true _ _ (not-false _ x.2) in
      let l : Link f i y.0 = record { made = h.0; extent = x.0; among = x.1; picks = y.1 } in
      ⊎_elim (λ w. (0, y.0, (y.0, l, refl), leb-true 18446744073709551616 (length_of f y.0) w))
      (λ w. let r = past_path n y.0 w in (suc r.0, r.1, (y.0, l, r.2), r.3))
      (or_either (sums_past f y.0) (names_past n f y.0) y.2)

  past-link : (n i m : ℕ) → Link f i m → (sums_past f m || names_past n f m) ≡ true →
      names_past (suc n) f i ≡ true
  unfolding names_past
  past-link n i m l e =
      both-and (made_of_items f i) _ l.made (not_of (all_extents small (location_of f i).extents) (refuted _ (λ h.
      not-both _ (of_named-ok past _ m l.picks ∙ e) (not-true _ (all_among small _ h l.extent l.among)))))
    where
      past : ℕ → Bool
      past j = sums_past f j || names_past n f j

      small : Extent → Bool
      small e = not (of_named past (named f i e))

  -- what an item names that names none past 2^64 is not past it
  pub unpast_link : (n i j : ℕ) → Link f i j → names_past (suc n) f i ≡ false → length_of f j < 18446744073709551616
  unpast_link n i j l e = leb-false 18446744073709551616 (length_of f j) (refuted _ (λ h. not-both _ (past-link n i j l (or_first _ _ h)) e))

  path_past : (k n i j : ℕ) → k < n → LeadsIn f (suc k) i j → 18446744073709551616 ≤ length_of f j → names_past n f i ≡ true
  unfolding LeadsIn
  path_past k zero i j h l p = absurd (not-suc-le-zero h)
  path_past zero (suc n) i j h l p =
      past-link n i l.0 l.1 (or_first _ _ (le-leb _ _ (subst (λ (m : ℕ). 18446744073709551616 ≤ length_of f m) (sym l.2) p)))
  path_past (suc k) (suc n) i j h l p = past-link n i l.0 l.1 (or_second (sums_past f l.0) _ (path_past k n l.0 j (le_of_suc-le-suc h) l.2 p))

  -- more depth than the chain needs
  pub past_le : (n m i : ℕ) → n ≤ m → chained n f i ≡ true → names_past m f i ≡ names_past n f i
  past_le n m i h e = same_tests _ _
      (λ x. let r = past_path m i x in path_past r.0 n i r.1 (chained-short (suc r.0) n i r.1 e r.2) r.2 r.3)
      (λ x. let r = past_path n i x in let s = chained-short (suc r.0) n i r.1 e r.2 in
      path_past r.0 m i r.1 (omega arith) r.2 r.3)

  -- 14, "at any depth"
  pub past-at : (n i : ℕ) → chained n f i ≡ true → (names_past n f i ≡ true) ↔ NamesPast f i
  past-at n i e = (
    (λ x. let r = past_path n i x in record { item = r.1; leads = in_leads r.0 i r.1 r.2; past = r.3 }),
    (λ x. let r = leads_in x.leads in path_past r.0 n i x.item (chained-short (suc r.0) n i x.item e r.1) r.1 x.past),
  )

  pub names-past : (i : ℕ) → chained 8 f i ≡ true → (names_past 8 f i ≡ true) ↔ NamesPast f i
  names-past i e = past-at 8 i e
