-- The laws of chains: more links never hurt, the level is the least number that suffices, from it on it is settled what is named
-- past 2^64, and where a round finds no row there is none in later ones. Assumes nothing.
use Prim.Native.Nat.{ℕ, zero, suc, ◌+◌, ◌≤◌, ◌<◌}
use native.Mathlib.Nat.{eq-or-lt_of_le}
use native.Mathlib.Decide.{dec_lt}
use native.Mathlib.Omega.{arith}
use mathlib.Core.Path.{◌≡◌, refl, sym, ap, subst, ◌∙◌}
use mathlib.Core.List.{List}
use mathlib.Core.Bool.{Bool, true, false, not, ◌&&◌, ◌||◌}
use mathlib.Core.Logic.{⊎_elim}
use lib.ListN.{length}
use lib.Dec.{ltb}
use borrow.Author.Tests.{lt-ltb, le-ltb, ltb-true, not-true}
use Rattle.fields.proofs.FieldLaws.{both}
use Rattle.fields.proofs.TestLaws.{untrue, and_both, both-and, or_either}
use Rattle.contents.specs.File.{File}
use Rattle.rules.specs.Places.{Places}
use Rattle.views.specs.inner.View.{TableOf}
use Rattle.linking.specs.inner.Links.{first_extent, every, some, least, chained, level, names_past, is_past, made_of_items, extents, named_by, LinksIn}

-- _||_
or_first : (a b : Bool) → a ≡ true → (a || b) ≡ true
or_first a b e = rw e

or_second : (a b : Bool) → b ≡ true → (a || b) ≡ true
or_second true b e = refl
or_second false b e = e

-- by what a test tells
pub by_test : {A : Type 0} (b : Bool) → (b ≡ true → A) → (b ≡ false → A) → A
by_test true f g = f refl
by_test false f g = g refl

-- every
pub every-at : (f : ℕ → Bool) (n : ℕ) → every f n ≡ true → (j : ℕ) → j < n → f j ≡ true
unfolding every
every-at f zero e j h = absurd (omega arith)
every-at f (suc n) e j h =
    let w = and_both (every f n) (f n) e in
    ⊎_elim (λ z. subst (λ (i : ℕ). f i ≡ true) (sym z) w.1) (λ z. every-at f n w.0 j z) (eq-or-lt_of_le {n = j} {m = n} (omega arith))

pub every-all : (f : ℕ → Bool) (n : ℕ) → ((j : ℕ) → j < n → f j ≡ true) → every f n ≡ true
unfolding every
every-all f zero h = refl
every-all f (suc n) h = both-and (every f n) (f n) (every-all f n (λ j k. h j (omega arith))) (h n (omega arith))

pub every-not : (f : ℕ → Bool) (n j : ℕ) → j < n → f j ≡ false → every f n ≡ false
every-not f n j h e = by_test (every f n) (λ q. untrue (sym e ∙ every-at f n q j h)) (λ q. q)

pub every_more : (f g : ℕ → Bool) (n : ℕ) → ((j : ℕ) → j < n → f j ≡ true → g j ≡ true) → every f n ≡ true → every g n ≡ true
every_more f g n h e = every-all g n (λ j k. h j k (every-at f n e j k))

pub every-same : (f g : ℕ → Bool) (n : ℕ) → ((j : ℕ) → j < n → f j ≡ g j) → every f n ≡ every g n
unfolding every
every-same f g zero h = refl
every-same f g (suc n) h = rw (every-same f g n (λ j k. h j (omega arith)), h n (omega arith))

-- some
pub some_at : (f : ℕ → Bool) (n j : ℕ) → j < n → f j ≡ true → some f n ≡ true
unfolding some
some_at f zero j h e = absurd (omega arith)
some_at f (suc n) j h e =
    ⊎_elim (λ z. or_second (some f n) (f n) (subst (λ (i : ℕ). f i ≡ true) z e))
    (λ z. or_first (some f n) (f n) (some_at f n j z e)) (eq-or-lt_of_le {n = j} {m = n} (omega arith))

pub some-none : (f : ℕ → Bool) (n : ℕ) → ((j : ℕ) → j < n → f j ≡ false) → some f n ≡ false
unfolding some
some-none f zero h = refl
some-none f (suc n) h = rw (some-none f n (λ j k. h j (omega arith)), h n (omega arith))

pub some_same : (f g : ℕ → Bool) (n : ℕ) → ((j : ℕ) → j < n → f j ≡ g j) → some f n ≡ some g n
unfolding some
some_same f g zero h = refl
some_same f g (suc n) h = rw (some_same f g n (λ j k. h j (omega arith)), h n (omega arith))

-- least
least-low : (f : ℕ → Bool) (n : ℕ) → least f n ≤ n
unfolding least
least-low f zero = omega arith
least-low f (suc n) =
    both (λ (m : ℕ). m ≤ suc n) _ _ _ (λ e. omega arith) (λ e. omega (arith, least-low (λ i. f (suc i)) n))

least_under : (f : ℕ → Bool) (n : ℕ) (j : ℕ) → j < least f n → f j ≡ false
unfolding least
least_under f zero j h = absurd (omega arith)
least_under f (suc n) zero l =
    both (λ (m : ℕ). 0 < m → f 0 ≡ false) (f 0) 0 (suc (least (λ i. f (suc i)) n)) (λ e h. absurd (omega arith)) (λ e h. e) l
least_under f (suc n) (suc j) l =
    both (λ (m : ℕ). suc j < m → f (suc j) ≡ false) (f 0) 0 (suc (least (λ i. f (suc i)) n)) (λ e h. absurd (omega arith))
    (λ e h. least_under (λ i. f (suc i)) n j (omega arith)) l

least-here : (f : ℕ → Bool) (n : ℕ) → least f n < n → f (least f n) ≡ true
unfolding least
least-here f zero h = absurd (omega arith)
least-here f (suc n) l =
    both (λ (m : ℕ). m < suc n → f m ≡ true) (f 0) 0 (suc (least (λ i. f (suc i)) n)) (λ e h. e)
    (λ e h. least-here (λ i. f (suc i)) n (omega arith)) l

module _ (t v : List ℕ) where
  -- chained: one link more never hurts
  chain_more : (k r : ℕ) → chained k t v r ≡ true → chained (suc k) t v r ≡ true
  unfolding chained
  chain_more zero r e = or_first (not (made_of_items t r)) _ e
  chain_more (suc k) r e =
      ⊎_elim (λ q. or_first (not (made_of_items t r)) _ q)
      (λ q. or_second (not (made_of_items t r)) _
      (every_more (λ j. ltb (named_by t v r j) 256 && chained k t v (named_by t v r j))
      (λ j. ltb (named_by t v r j) 256 && chained (suc k) t v (named_by t v r j)) (extents t r)
      (λ j h p. let w = and_both (ltb (named_by t v r j) 256) (chained k t v (named_by t v r j)) p in
      both-and (ltb (named_by t v r j) 256) (chained (suc k) t v (named_by t v r j)) w.0
      (chain_more k (named_by t v r j) w.1)) q))
      (or_either (not (made_of_items t r)) _ e)

  pub chain-on : (k m r : ℕ) → k ≤ m → chained k t v r ≡ true → chained m t v r ≡ true
  chain-on k zero r h e = let z : k ≡ 0 = omega arith in subst (λ (i : ℕ). chained i t v r ≡ true) z e
  chain-on k (suc m) r h e =
      ⊎_elim (λ z. subst (λ (i : ℕ). chained i t v r ≡ true) z e)
      (λ z. chain_more m r (chain-on k m r (omega arith) e)) (eq-or-lt_of_le {n = k} {m = suc m} h)

  -- level
  pub level-low : (r : ℕ) → level t v r ≤ 9
  unfolding level
  level-low r = least-low (λ k. chained k t v r) 9

  pub level-chained : (k r : ℕ) → k < 9 → level t v r ≤ k → chained k t v r ≡ true
  unfolding level
  level-chained k r l h = chain-on (level t v r) k r h (least-here (λ i. chained i t v r) 9 (omega arith))

  pub chained-level : (k r : ℕ) → chained k t v r ≡ true → level t v r ≤ k
  unfolding level
  chained-level k r e =
      elim (dec_lt k (level t v r)) [
        | yes p ↦ untrue (sym (least_under (λ i. chained i t v r) 9 k p) ∙ e)
        | no p ↦ omega (arith, p)
      ]

  -- not chained: the level is over k
  pub level-over : (k r : ℕ) → k < 9 → chained k t v r ≡ false → k < level t v r
  level-over k r l e =
      elim (dec_lt k (level t v r)) [ yes p ↦ p | no p ↦ untrue (sym e ∙ level-chained k r l (omega (arith, p))) ]

  -- "up to 8 deep": where 8 links suffice the level is the least number of them that does
  pub level-least : (k r : ℕ) → k < 9 → chained k t v r ≡ true → ((j : ℕ) → j < k → chained j t v r ≡ false) → level t v r ≡ k
  level-least k r l e h =
      let z = chained-level k r e in
      elim (dec_lt (level t v r) k) [
        | yes p ↦ untrue (sym (h (level t v r) p) ∙ level-chained (level t v r) r (omega arith) (omega arith))
        | no p ↦ omega (arith, p)
      ]

  pub level_test : (k r : ℕ) → k < 9 → ltb (level t v r) (suc k) ≡ chained k t v r
  level_test k r l =
      by_test (chained k t v r) (λ e. lt-ltb (level t v r) (suc k) (omega (arith, chained-level k r e)) ∙ sym e)
      (λ e. le-ltb (level t v r) (suc k) (omega (arith, level-over k r l e)) ∙ sym e)

  -- the level is 0 exactly where the bytes lie in a file
  pub level-none : (r : ℕ) → made_of_items t r ≡ false → level t v r ≤ 0
  unfolding chained
  level-none r e = chained-level 0 r (rw e)

  pub level-some : (r : ℕ) → made_of_items t r ≡ true → 0 < level t v r
  unfolding chained
  level-some r e = level-over 0 r (omega arith) (rw e)

  pub level-made : (r : ℕ) → 0 < level t v r → made_of_items t r ≡ true
  level-made r h = by_test (made_of_items t r) (λ e. e) (λ e. absurd (omega (arith, level-none r e)))

  -- one round more: chained by what is named
  pub chained-by : (k r : ℕ) → made_of_items t r ≡ true →
      chained (suc k) t v r ≡ every (λ j. ltb (named_by t v r j) 256 && chained k t v (named_by t v r j)) (extents t r)
  unfolding chained
  chained-by k r e = rw e

  -- names_past: where nothing is named it is false, and from the level on it is the same
  pub names-none : (k r : ℕ) → made_of_items t r ≡ false → names_past k t v r ≡ false
  unfolding names_past
  names-none zero r e = refl
  names-none (suc k) r e = rw e

  pub names-by : (k r : ℕ) → made_of_items t r ≡ true → names_past (suc k) t v r ≡ some
      (λ j. ltb (named_by t v r j) 256 && (is_past t (named_by t v r j) || names_past k t v (named_by t v r j))) (extents t r)
  unfolding names_past
  names-by k r e = rw e

  names_more : (k r : ℕ) → chained k t v r ≡ true → names_past (suc k) t v r ≡ names_past k t v r
  unfolding chained
  names_more zero r e =
      let z = not-true (made_of_items t r) e in
      names-none 1 r z ∙ sym (names-none 0 r z)
  names_more (suc k) r e =
      by_test (made_of_items t r)
      (λ z. names-by (suc k) r z
      ∙ some_same (λ j. ltb (named_by t v r j) 256 && (is_past t (named_by t v r j) || names_past (suc k) t v (named_by t v r j)))
      (λ j. ltb (named_by t v r j) 256 && (is_past t (named_by t v r j) || names_past k t v (named_by t v r j))) (extents t r)
      (λ j h. let w = every-at (λ i. ltb (named_by t v r i) 256 && chained k t v (named_by t v r i)) (extents t r)
      (sym (chained-by k r z) ∙ e) j h in
      ap (λ (b : Bool). ltb (named_by t v r j) 256 && (is_past t (named_by t v r j) || b))
      (names_more k (named_by t v r j) (and_both (ltb (named_by t v r j) 256) (chained k t v (named_by t v r j)) w).1))
      ∙ sym (names-by k r z))
      (λ z. names-none (suc (suc k)) r z ∙ sym (names-none (suc k) r z))

  pub names-on : (k m r : ℕ) → k ≤ m → chained k t v r ≡ true → names_past m t v r ≡ names_past k t v r
  names-on k zero r h e = let z : k ≡ 0 = omega arith in ap (λ (i : ℕ). names_past i t v r) (sym z)
  names-on k (suc m) r h e =
      ⊎_elim (λ z. ap (λ (i : ℕ). names_past i t v r) (sym z))
      (λ z. names_more m r (chain-on k m r (omega arith) e) ∙ names-on k m r (omega arith) e) (eq-or-lt_of_le {n = k} {m = suc m} h)

  -- where no row needs one link more than j, none needs any
  module _ (n : ℕ) (w : LinksIn t v n) (j : ℕ)
      (still : (r : ℕ) → r < n → chained (suc j) t v r ≡ true → chained j t v r ≡ true) where
    pub still_on : (m r : ℕ) → j ≤ m → r < n → chained m t v r ≡ true → chained j t v r ≡ true
    unfolding chained
    still_on zero r h l e = let z : 0 ≡ j = omega arith in subst (λ (i : ℕ). chained i t v r ≡ true) z e
    still_on (suc m) r h l e =
        by_test (made_of_items t r)
        (λ z. ⊎_elim (λ q. subst (λ (i : ℕ). chained i t v r ≡ true) (sym q) e)
        (λ q. still r l (chained-by j r z
        ∙ every_more (λ i. ltb (named_by t v r i) 256 && chained m t v (named_by t v r i))
        (λ i. ltb (named_by t v r i) 256 && chained j t v (named_by t v r i)) (extents t r)
        (λ i k p. let a = and_both (ltb (named_by t v r i) 256) (chained m t v (named_by t v r i)) p in
        both-and (ltb (named_by t v r i) 256) (chained j t v (named_by t v r i)) a.0
        (still_on m (named_by t v r i) (omega arith) (w.inside r i l z k (ltb-true (named_by t v r i) 256 a.0)) a.1))
        (sym (chained-by m r z) ∙ e)))
        (eq-or-lt_of_le {n = j} {m = suc m} h))
        (λ z. chain-on 0 j r (omega arith) (rw z))

-- the extents of a file's items lie in the table's 512
pub links-room : (t head : List ℕ) (pl : Places) (f : File) → TableOf t head pl f → (r : ℕ) → r < length f.items →
    first_extent t r + extents t r ≤ 512
links-room t head pl f w r h = omega (arith, w.extent-room r h, w.extent-count r h)
