-- One record more of what the loops of arranging have done. Assumes nothing.
use Prim.Native.Nat.{ℕ, zero, suc, ◌+◌, ◌*◌, ◌-◌, ◌%◌, ◌≤◌, ◌<◌}
use native.Mathlib.Nat.{not-suc-le-zero, mod-eq_of_lt}
use native.Mathlib.Omega.{arith}
use native.Mathlib.Decide.{dec_lt}
use mathlib.Core.Path.{◌≡◌, refl, sym, ap, ◌∙◌, subst}
use mathlib.Core.List.{List}
use mathlib.Core.Bool.{Bool, true, false}
use mathlib.Core.Logic.{◌⊎◌, inl, inr}
use lib.ListN.{length, get_or, set, replicate, length-set}
use lib.Seq.{get_or-set_same, get_or-set_other}
use borrow.Author.Count.{below_more}
use Rattle.fields.proofs.TestLaws.{untrue}
use Rattle.arranged.specs.inner.Order.{Outside, PlacesPut, PlacesApart, ByPlace, place_in, QuartersKept, QuartersPut, Moved, Rising, row_in}

-- a store elsewhere
pub elsewhere : (l : List ℕ) (i j v : ℕ) → (j ≡ i → ⊥) → get_or (set l i v) j 0 ≡ get_or l j 0
elsewhere l i j v n = get_or-set_other l i j v 0 n

-- PlacesPut
pub places_none : (t : List ℕ) → PlacesPut 0 t t
places_none t = record { long = refl; placed = λ k h. absurd (not-suc-le-zero h); others = λ k c h. refl; outside = λ i h. refl }

pub places_more : (n : ℕ) (t u : List ℕ) → PlacesPut n t u → 16 + 16 * n + 15 < length u → PlacesPut (n + 1) t (set u (16 + 16 * n + 15) n)
places_more n t u p room =
    record {
      long = length-set u (16 + 16 * n + 15) n ∙ p.long;
      placed = λ k h. elim (dec_lt k n) [
        | yes l ↦ elsewhere u (16 + 16 * n + 15) (16 + 16 * k + 15) n (λ e. omega arith) ∙ p.placed k l
        | no l ↦ (let q : k ≡ n = omega arith in ap (λ (j : ℕ). get_or (set u (16 + 16 * n + 15) n) (16 + 16 * j + 15) 0) q ∙
            get_or-set_same u (16 + 16 * n + 15) n 0 room ∙ sym q)
      ];
      others = λ k c h. elsewhere u (16 + 16 * n + 15) (16 + 16 * k + c) n (λ e. omega arith) ∙ p.others k c h;
      outside = λ i h. elsewhere u (16 + 16 * n + 15) i n (apart i h) ∙ p.outside i (less i h);
    }
  where
    apart : (i : ℕ) → Outside (n + 1) i → i ≡ 16 + 16 * n + 15 → ⊥
    apart i (inl a) e = omega arith
    apart i (inr a) e = omega arith

    less : (i : ℕ) → Outside (n + 1) i → Outside n i
    less i (inl a) = inl a
    less i (inr a) = inr (omega arith)

-- four stores one after another
abbrev pub four : List ℕ → ℕ → ℕ → ℕ → ℕ → ℕ → List ℕ
four w i a b c d = set (set (set (set w i a) (i + 1) b) (i + 2) c) (i + 3) d

module _ (w : List ℕ) (i a b c d : ℕ) where
  abbrev w1 : List ℕ
  w1 = set w i a

  abbrev w2 : List ℕ
  w2 = set w1 (i + 1) b

  abbrev w3 : List ℕ
  w3 = set w2 (i + 2) c

  pub four_length : length (four w i a b c d) ≡ length w
  four_length = rw (length-set, length-set, length-set, length-set)

  pub four_other : (j : ℕ) → (j < i) ⊎ (i + 4 ≤ j) → get_or (four w i a b c d) j 0 ≡ get_or w j 0
  four_other j h =
      elsewhere w3 (i + 3) j d (apart 3 (omega arith) h)
      ∙ elsewhere w2 (i + 2) j c (apart 2 (omega arith) h)
      ∙ elsewhere w1 (i + 1) j b (apart 1 (omega arith) h)
      ∙ elsewhere w i j a (λ e. apart 0 (omega arith) h (omega arith))
    where
      apart : (e : ℕ) → e < 4 → (j < i) ⊎ (i + 4 ≤ j) → j ≡ i + e → ⊥
      apart e m (inl l) q = omega arith
      apart e m (inr l) q = omega arith

  -- g of each of the four
  pub four_each : (g : ℕ → ℕ) → g 0 ≡ a → g 1 ≡ b → g 2 ≡ c → g 3 ≡ d → i + 4 ≤ length w →
      (e : ℕ) → e < 4 → get_or (four w i a b c d) (i + e) 0 ≡ g e
  four_each g q0 q1 q2 q3 room zero h =
      elsewhere w3 (i + 3) (i + 0) d (λ e. omega arith)
      ∙ elsewhere w2 (i + 2) (i + 0) c (λ e. omega arith)
      ∙ elsewhere w1 (i + 1) (i + 0) b (λ e. omega arith)
      ∙ (let z : i + 0 ≡ i = omega arith in ap (λ (j : ℕ). get_or (set w i a) j 0) z ∙ get_or-set_same w i a 0 (omega arith) ∙ sym q0)
  four_each g q0 q1 q2 q3 room (suc zero) h =
      elsewhere w3 (i + 3) (i + 1) d (λ e. omega arith)
      ∙ elsewhere w2 (i + 2) (i + 1) c (λ e. omega arith)
      ∙ get_or-set_same w1 (i + 1) b 0 (rw length-set (omega arith)) ∙ sym q1
  four_each g q0 q1 q2 q3 room (suc (suc zero)) h =
      elsewhere w3 (i + 3) (i + 2) d (λ e. omega arith)
      ∙ get_or-set_same w2 (i + 2) c 0 (rw (length-set, length-set) (omega arith)) ∙ sym q2
  four_each g q0 q1 q2 q3 room (suc (suc (suc zero))) h =
      get_or-set_same w3 (i + 3) d 0 (rw (length-set, length-set, length-set) (omega arith)) ∙ sym q3
  four_each g q0 q1 q2 q3 room (suc (suc (suc (suc e)))) h = absurd (omega arith)

-- QuartersKept
pub kept-none : (c : ℕ) (t v : List ℕ) → QuartersKept 0 c t v v
kept-none c t v = record { long = refl; words = λ k e h. absurd (not-suc-le-zero h); past = λ i h. refl }

pub kept_more : (n c : ℕ) (t v w : List ℕ) → QuartersKept n c t v w → 4 * n + 4 ≤ length w →
    QuartersKept (n + 1) c t v
    (four w (4 * n) (get_or t (16 + 16 * n + c) 0) (get_or t (16 + 16 * n + c + 1) 0) (get_or t (16 + 16 * n + c + 2) 0) (get_or t (16 + 16 * n + c + 3) 0))
kept_more n c t v w p room =
    record {
      long = four_length w (4 * n) _ _ _ _ ∙ p.long;
      words = λ k e h m. elim (dec_lt k n) [
        | yes l ↦ four_other w (4 * n) _ _ _ _ (4 * k + e) (inl (omega arith)) ∙ p.words k e l m
        | no l ↦ subst (λ (j : ℕ). get_or (four w (4 * n) (get_or t (16 + 16 * n + c) 0) (get_or t (16 + 16 * n + c + 1) 0) (get_or t (16 + 16 * n + c + 2) 0)
            (get_or t (16 + 16 * n + c + 3) 0)) (4 * j + e) 0 ≡ get_or t (16 + 16 * j + c + e) 0) (omega arith)
            (four_each w (4 * n) _ _ _ _ (λ e. get_or t (16 + 16 * n + c + e) 0) (ap (λ (j : ℕ). get_or t j 0) (omega arith)) refl refl refl room e m)
      ];
      past = λ i h. four_other w (4 * n) _ _ _ _ i (inr (omega arith)) ∙ p.past i (omega arith);
    }

-- QuartersPut
pub put-none : (c : ℕ) (v b t : List ℕ) → QuartersPut 0 c v b t t
put-none c v b t = record { long = refl; words = λ k e h. absurd (not-suc-le-zero h); others = λ k e h m. refl; outside = λ i h. refl }

pub put-more : (n c : ℕ) (v b t u : List ℕ) → QuartersPut n c v b t u → c ≤ 12 → 16 + 16 * n + c + 4 ≤ length u → (r : ℕ) → r ≡ row_in b n % 256 →
    QuartersPut (n + 1) c v b t
    (four u (16 + 16 * n + c) (get_or v (4 * r) 0) (get_or v (4 * r + 1) 0) (get_or v (4 * r + 2) 0) (get_or v (4 * r + 3) 0))
put-more n c v b t u p low room r q =
    record {
      long = four_length u (16 + 16 * n + c) _ _ _ _ ∙ p.long;
      words = λ k e h m. elim (dec_lt k n) [
        | yes l ↦ four_other u (16 + 16 * n + c) _ _ _ _ (16 + 16 * k + c + e) (inl (omega arith)) ∙ p.words k e l m
        | no l ↦ subst (λ (j : ℕ). get_or (four u (16 + 16 * n + c) (get_or v (4 * r) 0) (get_or v (4 * r + 1) 0) (get_or v (4 * r + 2) 0)
            (get_or v (4 * r + 3) 0)) (16 + 16 * j + c + e) 0 ≡ get_or v (4 * (row_in b j % 256) + e) 0) (omega arith)
            (four_each u (16 + 16 * n + c) _ _ _ _ (λ e. get_or v (4 * (row_in b n % 256) + e) 0)
            (rw (← q) (ap (λ (j : ℕ). get_or v j 0) (omega arith))) (rw (← q)) (rw (← q)) (rw (← q)) room e m)
      ];
      others = λ k e h m. four_other u (16 + 16 * n + c) _ _ _ _ (16 + 16 * k + e) (side k e h m) ∙ p.others k e h m;
      outside = λ i h. four_other u (16 + 16 * n + c) _ _ _ _ i (apart i h) ∙ p.outside i (less i h);
    }
  where
    side : (k e : ℕ) → e < 16 → (e < c) ⊎ (c + 4 ≤ e) → (16 + 16 * k + e < 16 + 16 * n + c) ⊎ (16 + 16 * n + c + 4 ≤ 16 + 16 * k + e)
    side k e h (inl a) = elim (dec_lt k (n + 1)) [ yes l ↦ inl (omega arith) | no l ↦ inr (omega arith) ]
    side k e h (inr a) = elim (dec_lt k n) [ yes l ↦ inl (omega arith) | no l ↦ inr (omega arith) ]

    apart : (i : ℕ) → Outside (n + 1) i → (i < 16 + 16 * n + c) ⊎ (16 + 16 * n + c + 4 ≤ i)
    apart i (inl a) = inl (omega arith)
    apart i (inr a) = inr (omega arith)

    less : (i : ℕ) → Outside (n + 1) i → Outside n i
    less i (inl a) = inl a
    less i (inr a) = inr (omega arith)

-- Rising: a row that is not its own number, and one that is
pub rising-not : (n : ℕ) (b : List ℕ) (r : Bool) → (row_in b n ≡ n → ⊥) → r ≡ false →
    (r ≡ true → Rising (n + 1) b) × (Rising (n + 1) b → r ≡ true)
rising-not n b r d e = ((λ q. untrue (sym e ∙ q)), λ s. absurd (d (s n (omega arith))))

pub rising-more : (n : ℕ) (b : List ℕ) (r : Bool) → row_in b n ≡ n → (r ≡ true → Rising n b) × (Rising n b → r ≡ true) →
    (r ≡ true → Rising (n + 1) b) × (Rising (n + 1) b → r ≡ true)
rising-more n b r d p = ((λ q. below_more _ n (p.0 q) d), λ s. p.1 (λ k h. s k (omega arith)))

-- the first c words of n records moved
pub record MovedTo (c n : ℕ) (row : ℕ → ℕ) (t u : List ℕ) : Type 0 where
  pub words : (k d : ℕ) → k < n → d < c → get_or u (16 + 16 * k + d) 0 ≡ get_or t (16 + 16 * row k + d) 0
  pub rest : (k d : ℕ) → c ≤ d → d < 16 → get_or u (16 + 16 * k + d) 0 ≡ get_or t (16 + 16 * k + d) 0
  pub outside : (i : ℕ) → Outside n i → get_or u i 0 ≡ get_or t i 0

pub moved_none : (n : ℕ) (row : ℕ → ℕ) (t : List ℕ) → MovedTo 0 n row t t
moved_none n row t = record { words = λ k d h m. absurd (not-suc-le-zero m); rest = λ k d h m. refl; outside = λ i h. refl }

pub moved_more : (c n : ℕ) (b t u w w₀ u₁ : List ℕ) → n ≤ 256 → c ≤ 12 → ((k : ℕ) → k < n → row_in b k < n) → MovedTo c n (row_in b) t u →
    QuartersKept n c u w₀ w → QuartersPut n c w b u u₁ → MovedTo (c + 4) n (row_in b) t u₁
moved_more c n b t u w w₀ u₁ few low within m kept put =
    record {
      words = λ k d h l. elim (dec_lt d c) [
        | yes a ↦ put.others k d (omega arith) (inl a) ∙ m.words k d h a
        | no a ↦ new k (d - c) d h (omega arith) (omega arith)
      ];
      rest = λ k d a l. put.others k d l (inr a) ∙ m.rest k d (omega arith) l;
      outside = λ i h. put.outside i h ∙ m.outside i h;
    }
  where
    new : (k e d : ℕ) → k < n → e < 4 → d ≡ c + e → get_or u₁ (16 + 16 * k + d) 0 ≡ get_or t (16 + 16 * row_in b k + d) 0
    new k e d h l q =
        let r = row_in b k in
        let in_row : r < n = within k h in
        let small : r % 256 ≡ r = mod-eq_of_lt (omega arith) in
        let q0 : 16 + 16 * k + d ≡ 16 + 16 * k + c + e = omega arith in
        let q1 : 4 * (r % 256) + e ≡ 4 * r + e = ap (λ (x : ℕ). 4 * x + e) small in
        let q2 : 16 + 16 * r + c + e ≡ 16 + 16 * r + d = omega arith in
        ap (λ (i : ℕ). get_or u₁ i 0) q0
        ∙ put.words k e h l
        ∙ ap (λ (i : ℕ). get_or w i 0) q1
        ∙ kept.words r e in_row l
        ∙ ap (λ (i : ℕ). get_or u i 0) q2
        ∙ m.rest r d (omega arith) (omega arith)

pub moved_all : (n : ℕ) (row : ℕ → ℕ) (t u : List ℕ) → length u ≡ length t → MovedTo 16 n row t u → Moved n row t u
moved_all n row t u e m = record { long = e; words = λ k c h l. m.words k c h l; outside = m.outside }

-- ByPlace
zeros_word : (n i : ℕ) → ◌≡◌ {A = ℕ} (get_or (replicate n 0) i 0) 0
zeros_word zero i = refl
zeros_word (suc n) zero = refl
zeros_word (suc n) (suc i) = zeros_word n i

pub by-place-none : (n : ℕ) (t : List ℕ) → ByPlace 0 t (replicate n 0)
by-place-none n t = record { rows = λ k h. absurd (not-suc-le-zero h); none = λ p h. zeros_word n p }

pub by-place-more : (m n : ℕ) (t v : List ℕ) → length v ≡ 256 → m < n → PlacesApart n t → ByPlace m t v → ByPlace (m + 1) t (set v (place_in t m) m)
by-place-more m n t v long h a b =
    record {
      rows = λ k l. elim (dec_lt k m) [
        | yes s ↦ elsewhere v (place_in t m) (place_in t k) m (λ e. (let q : k ≡ m = a.apart k m (omega arith) h e in omega arith)) ∙ b.rows k s
        | no s ↦ (let q : k ≡ m = omega arith in
            ap (λ (j : ℕ). get_or (set v (place_in t m) m) (place_in t j) 0) q ∙ get_or-set_same v (place_in t m) m 0 (omega (arith, a.below m h)) ∙ sym q)
      ];
      none = λ p l. elsewhere v (place_in t m) p m (λ e. l m (omega arith) (sym e)) ∙ b.none p (λ k s. l k (omega arith));
    }

pub by-place-put : (m n w : ℕ) (t v : List ℕ) → length v ≡ 256 → m < n → w ≡ place_in t m → (PlacesApart n t → ByPlace m t v) →
    PlacesApart n t → ByPlace (m + 1) t (set v (w % 256) m)
by-place-put m n w t v long h e b a =
    let q : w % 256 ≡ place_in t m = mod-eq_of_lt (omega (arith, a.below m h)) ∙ e in
    rw q (by-place-more m n t v long h a (b a))
