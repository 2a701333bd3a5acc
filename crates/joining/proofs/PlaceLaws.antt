-- Where the bytes of an item lie: the extent that has a byte, and its place in the file. Assumes nothing.
--   Holds, holder-at    the extent that has a byte is one of the item's, and the byte lies in it
--   source-filed, source-made, source-at    where a byte of an extent lies
--   place-past          past the last byte there is nothing
--   place-on            more links than the chain needs change no place
use Prim.Native.Nat.{ℕ, zero, suc, ◌+◌, ◌-◌, ◌≤◌, ◌<◌}
use native.Mathlib.Nat.{eq-or-lt_of_le}
use native.Mathlib.Omega.{arith}
use mathlib.Core.Path.{◌≡◌, refl, sym, ap, subst, ◌∙◌}
use mathlib.Core.List.{List}
use mathlib.Core.Bool.{true, false, ◌&&◌}
use mathlib.Core.Logic.{⊎_elim}
use lib.Dec.{ltb}
use Rattle.std.specs.Prelude.{Option, Some, None, IfSome}
use borrow.Author.Tests.{lt-ltb, le-ltb, ltb-true, ltb-false, not-true}
use Rattle.fields.specs.Choice.{pick}
use Rattle.fields.proofs.FieldLaws.{both, pick_yes, pick_no}
use Rattle.fields.proofs.TestLaws.{untrue, and_both}
use Rattle.linking.specs.inner.Links.{first_extent, extents, offset_at, size_at, made_of_items, named_by, chained, level, sum_from, length_sum}
use Rattle.linking.proofs.LinkLaws.{by_test, every-at, chain-on, level-chained, level-some, chained-level, chained-by}
use Rattle.joining.specs.declared.Held.{Held}
use Rattle.joining.specs.inner.Lies.{holder_from, nowhere, place_from, place_of, source_place}

-- sum_from: the first extent apart
sum_first : (t : List ℕ) (e n : ℕ) → sum_from t e (suc n) ≡ size_at t e + sum_from t (suc e) n
unfolding sum_from
sum_first t e zero = let z : e + 0 ≡ e = omega arith in let w = ap (size_at t) z in omega arith
sum_first t e (suc n) =
    let z : e + suc n ≡ suc e + n = omega arith in
    let w = ap (size_at t) z in
    omega (arith, sum_first t e n)

-- no sum is less with more extents
pub sum_within : (t : List ℕ) (e n j : ℕ) → j < n → sum_from t e j + size_at t (e + j) ≤ sum_from t e n
unfolding sum_from
sum_within t e zero j h = absurd (omega arith)
sum_within t e (suc n) j h =
    ⊎_elim (λ z. let u = ap (λ (i : ℕ). sum_from t e i + size_at t (e + i)) z in omega arith)
    (λ z. omega (arith, sum_within t e n j z)) (eq-or-lt_of_le {n = j} {m = n} (omega arith))

module _ (t : List ℕ) where
  -- holder_from
  holder_none : (e p : ℕ) → holder_from t e 0 p ≡ None
  unfolding holder_from
  holder_none e p = refl

  holder_here : (e n p : ℕ) → p < size_at t e → holder_from t e (suc n) p ≡ Some (record { e = e; rest = p })
  unfolding holder_from
  holder_here e n p h = pick_yes _ _ (lt-ltb p (size_at t e) h)

  holder_behind : (e n p : ℕ) → size_at t e ≤ p → holder_from t e (suc n) p ≡ holder_from t (suc e) n (p - size_at t e)
  unfolding holder_from
  holder_behind e n p h = pick_no _ _ (le-ltb p (size_at t e) h)

  -- the extent x has the byte as its byte `rest`
  pub record Holds (e n p x rest : ℕ) : Type 0 where
    pub j : ℕ
    pub below : j < n
    pub place : x ≡ e + j
    pub inside : rest < size_at t x
    pub sum : p ≡ sum_from t e j + rest

  abbrev HeldAs : ℕ → ℕ → ℕ → Option Held → Type 0
  HeldAs e n p (Some h) = Holds e n p h.e h.rest
  HeldAs e n p None = sum_from t e n ≤ p

  holds_first : (e n p : ℕ) → p < size_at t e → Holds e (suc n) p e p
  unfolding sum_from
  holds_first e n p h = record { j = 0; below = omega arith; place = omega arith; inside = h; sum = omega arith }

  held_more : (e n p : ℕ) (h : Option Held) → size_at t e ≤ p → HeldAs (suc e) n (p - size_at t e) h → HeldAs e (suc n) p h
  held_more e n p (Some h) l w =
      let z = w.sum in
      let y = w.place in
      record {
        j = suc w.j;
        below = omega (arith, w.below);
        place = omega arith;
        inside = w.inside;
        sum = omega (arith, sum_first t e w.j);
      }
  held_more e n p None l w = omega (arith, sum_first t e n)

  held_as : (e n p : ℕ) → HeldAs e n p (holder_from t e n p)
  unfolding holder_from sum_from
  held_as e zero p = omega arith
  held_as e (suc n) p =
      both (HeldAs e (suc n) p) (ltb p (size_at t e)) (Some (record { e = e; rest = p })) (holder_from t (suc e) n (p - size_at t e))
      (λ q. holds_first e n p (ltb-true p (size_at t e) q))
      (λ q. held_more e n p (holder_from t (suc e) n (p - size_at t e)) (ltb-false p (size_at t e) q) (held_as (suc e) n (p - size_at t e)))

  pub holder_at : (e n p : ℕ) (x : Held) → Some x ≡ holder_from t e n p → Holds e n p x.e x.rest
  holder_at e n p x a = subst (HeldAs e n p) (sym a) (held_as e n p)

  pub holder_inside : (e n p : ℕ) (h : Option Held) → h ≡ holder_from t e n p → e + n ≤ 512 →
      IfSome h (λ (x : Held). (x.e < 512) × (x.rest < size_at t x.e))
  holder_inside e n p None a l = tt
  holder_inside e n p (Some x) a l = let w = holder_at e n p x a in (omega (arith, w.place, w.below), w.inside)

  pub holder_past : (e n p : ℕ) → None ≡ holder_from t e n p → sum_from t e n ≤ p
  holder_past e n p a = subst (HeldAs e n p) (sym a) (held_as e n p)

  -- each byte has its extent
  some-held : (e n p : ℕ) (h : Option Held) → p < sum_from t e n → HeldAs e n p h → (x : ℕ) × (rest : ℕ) × Holds e n p x rest
  some-held e n p (Some h) l w = (h.e, h.rest, w)
  some-held e n p None l w = absurd (omega arith)

  pub holds_some : (e n p : ℕ) → p < sum_from t e n → (x : ℕ) × (rest : ℕ) × Holds e n p x rest
  holds_some e n p l = some-held e n p (holder_from t e n p) l (held_as e n p)

  -- place_from
  pub place_at : (from : ℕ → ℕ → ℕ) (e n j i p : ℕ) → j < n → i < size_at t (e + j) → p ≡ sum_from t e j + i →
      place_from from t e n p ≡ from (e + j) (offset_at t (e + j) + i)
  unfolding place_from sum_from
  place_at from e zero j i p h l q = absurd (omega arith)
  place_at from e (suc n) zero i p h l q =
      let z : e + 0 ≡ e = omega arith in
      let y : p ≡ i = omega arith in
      let w = ap (size_at t) z in
      pick_yes _ _ (lt-ltb p (size_at t e) (omega arith)) ∙ ap (λ (x : ℕ). from e (offset_at t e + x)) y
      ∙ ap (λ (x : ℕ). from x (offset_at t x + i)) (sym z)
  place_at from e (suc n) (suc j) i p h l q =
      let z : suc e + j ≡ e + suc j = omega arith in
      let w = ap (size_at t) z in
      let s = sum_first t e j in
      pick_no _ _ (le-ltb p (size_at t e) (omega arith))
      ∙ place_at from (suc e) n j i (p - size_at t e) (omega arith) (omega arith) (omega arith)
      ∙ ap (λ (x : ℕ). from x (offset_at t x + i)) z

  pub place_out : (from : ℕ → ℕ → ℕ) (e n p : ℕ) → sum_from t e n ≤ p → place_from from t e n p ≡ nowhere
  unfolding place_from
  place_out from e zero p h = refl
  place_out from e (suc n) p h =
      let s = sum_first t e n in
      pick_no _ _ (le-ltb p (size_at t e) (omega arith)) ∙ place_out from (suc e) n (p - size_at t e) (omega arith)

  place_same : (f g : ℕ → ℕ → ℕ) (e n p : ℕ) → ((j q : ℕ) → j < n → f (e + j) q ≡ g (e + j) q) → place_from f t e n p ≡ place_from g t e n p
  unfolding place_from
  place_same f g e zero p h = refl
  place_same f g e (suc n) p h =
      let z : e + 0 ≡ e = omega arith in
      let w : f e (offset_at t e + p) ≡ g e (offset_at t e + p) =
      subst (λ (x : ℕ). f x (offset_at t e + p) ≡ g x (offset_at t e + p)) z (h 0 (offset_at t e + p) (omega arith)) in
      rw (
        w,
        place_same f g (suc e) n (p - size_at t e) (λ j q l. let y : e + suc j ≡ suc e + j = omega arith in
            subst (λ (x : ℕ). f x q ≡ g x q) y (h (suc j) q (omega arith))),
      )

module _ (t v : List ℕ) where
  -- place_of
  pub source_filed : (k r j i p : ℕ) → made_of_items t r ≡ false → j < extents t r → i < size_at t (first_extent t r + j) →
      p ≡ sum_from t (first_extent t r) j + i → place_of k t v r p ≡ offset_at t (first_extent t r + j) + i
  unfolding place_of
  source_filed zero r j i p m h l q = place_at t _ (first_extent t r) (extents t r) j i p h l q ∙ pick_no _ _ m
  source_filed (suc k) r j i p m h l q = place_at t _ (first_extent t r) (extents t r) j i p h l q ∙ pick_no _ _ m

  pub source_made : (k r j i p : ℕ) → made_of_items t r ≡ true → j < extents t r → i < size_at t (first_extent t r + j) →
      p ≡ sum_from t (first_extent t r) j + i → place_of (suc k) t v r p ≡ place_of k t v (named_by t v r j) (offset_at t (first_extent t r + j) + i)
  unfolding place_of
  source_made k r j i p m h l q = place_at t _ (first_extent t r) (extents t r) j i p h l q ∙ pick_yes _ _ m

  pub place-past : (k r p : ℕ) → length_sum t r ≤ p → place_of k t v r p ≡ nowhere
  unfolding place_of
  place-past zero r p h = place_out t _ (first_extent t r) (extents t r) p h
  place-past (suc k) r p h = place_out t _ (first_extent t r) (extents t r) p h

  -- chained: what an extent names is a row, and its chain is shorter
  pub named-row : (k r j : ℕ) → made_of_items t r ≡ true → chained (suc k) t v r ≡ true → j < extents t r →
      (named_by t v r j < 256) × (chained k t v (named_by t v r j) ≡ true)
  named-row k r j m c h =
      let w = and_both (ltb (named_by t v r j) 256) (chained k t v (named_by t v r j))
      (every-at (λ i. ltb (named_by t v r i) 256 && chained k t v (named_by t v r i)) (extents t r) (sym (chained-by t v k r m) ∙ c) j h) in
      (ltb-true (named_by t v r j) 256 w.0, w.1)

  pub named_none : (r : ℕ) → made_of_items t r ≡ true → chained 0 t v r ≡ true → ⊥
  unfolding chained
  named_none r m c = untrue (sym (not-true (made_of_items t r) c) ∙ m)

  place-more : (k r p : ℕ) → chained k t v r ≡ true → place_of (suc k) t v r p ≡ place_of k t v r p
  unfolding place_of
  place-more zero r p c =
      by_test (made_of_items t r) (λ m. absurd (named_none r m c))
      (λ m. place_same t _ _ (first_extent t r) (extents t r) p (λ j q h. pick_no _ _ m ∙ sym (pick_no _ _ m)))
  place-more (suc k) r p c =
      by_test (made_of_items t r)
      (λ m. place_same t _ _ (first_extent t r) (extents t r) p
      (λ j q h. ap (λ (x : ℕ). pick (made_of_items t r) x q) (place-more k (named_by t v r j) q (named-row k r j m c h).1)))
      (λ m. place_same t _ _ (first_extent t r) (extents t r) p (λ j q h. pick_no _ _ m ∙ sym (pick_no _ _ m)))

  pub place-on : (k n r p : ℕ) → k ≤ n → chained k t v r ≡ true → place_of n t v r p ≡ place_of k t v r p
  place-on k zero r p h c = let z : k ≡ 0 = omega arith in ap (λ (i : ℕ). place_of i t v r p) (sym z)
  place-on k (suc n) r p h c =
      ⊎_elim (λ z. ap (λ (i : ℕ). place_of i t v r p) (sym z))
      (λ z. place-more n r p (chain-on t v k n r (omega arith) c) ∙ place-on k n r p (omega arith) c) (eq-or-lt_of_le {n = k} {m = suc n} h)

  -- any depth from the level on gives the same
  pub source_at : (k r j i p : ℕ) → chained k t v r ≡ true → j < extents t r → i < size_at t (first_extent t r + j) →
      p ≡ sum_from t (first_extent t r) j + i → place_of k t v r p ≡ source_place k t v r (first_extent t r + j) (offset_at t (first_extent t r + j) + i)
  source_at zero r j i p c h l q =
      by_test (made_of_items t r) (λ m. absurd (named_none r m c)) (λ m. source_filed 0 r j i p m h l q ∙ sym (pick_no _ _ m))
  source_at (suc k) r j i p c h l q =
      by_test (made_of_items t r)
      (λ m. source_made k r j i p m h l q
      ∙ sym (place-on k (suc k) (named_by t v r j) (offset_at t (first_extent t r + j) + i) (omega arith) (named-row k r j m c h).1)
      ∙ sym (pick_yes _ _ m))
      (λ m. source_filed (suc k) r j i p m h l q ∙ sym (pick_no _ _ m))

  -- what is named has a lower level
  pub named-level : (r j : ℕ) → made_of_items t r ≡ true → chained 8 t v r ≡ true → j < extents t r → level t v (named_by t v r j) < level t v r
  named-level r j m c h = below (level t v r) (level-some t v r m) (level-chained t v (level t v r) r (omega (arith, chained-level t v 8 r c)) (omega arith))
    where
      below : (k : ℕ) → 0 < k → chained k t v r ≡ true → level t v (named_by t v r j) < k
      below zero l a = absurd (omega arith)
      below (suc k) l a = omega (arith, chained-level t v k (named_by t v r j) (named-row k r j m a h).1)

-- the extents from e on, before an end
module _ (t : List ℕ) (e end p size : ℕ) (h : size ≡ size_at t e) where
  pub seek_here : e < end → p < size → Some (record { e = e; rest = p }) ≡ holder_from t e (end - e) p
  seek_here l q =
      let z : suc (end - suc e) ≡ end - e = omega arith in
      sym (holder_here t e (end - suc e) p (omega arith)) ∙ ap (λ (n : ℕ). holder_from t e n p) z

  pub seek_behind : e < end → size ≤ p → holder_from t e (end - e) p ≡ holder_from t (e + 1) (end - (e + 1)) (p - size)
  seek_behind l q =
      let z : end - e ≡ suc (end - (e + 1)) = omega arith in
      let y : suc e ≡ e + 1 = omega arith in
      let x : p - size_at t e ≡ p - size = omega arith in
      ap (λ (n : ℕ). holder_from t e n p) z ∙ holder_behind t e (end - (e + 1)) p (omega arith)
      ∙ ap (λ (i : ℕ). holder_from t i (end - (e + 1)) (p - size_at t e)) y ∙ ap (λ (i : ℕ). holder_from t (e + 1) (end - (e + 1)) i) x

pub seek_none : (t : List ℕ) (e end p : ℕ) → end ≤ e → None ≡ holder_from t e (end - e) p
seek_none t e end p h =
    let z : 0 ≡ end - e = omega arith in sym (holder_none t e p) ∙ ap (λ (n : ℕ). holder_from t e n p) z

-- what was found of a row's extents, as they were read
pub holder_read : (t : List ℕ) (r p f c : ℕ) (h : Option Held) → f ≡ first_extent t r → c ≡ extents t r → h ≡ holder_from t f (f + c - f) p →
    h ≡ holder_from t (first_extent t r) (extents t r) p
holder_read t r p f c h a b e =
    let z : f + c - f ≡ extents t r = omega arith in
    e ∙ ap (λ (n : ℕ). holder_from t f n p) z ∙ ap (λ (i : ℕ). holder_from t i (extents t r) p) a
