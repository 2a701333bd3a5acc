-- The byte of a row: what each part of it tells, what one round makes of it, and the sums. Assumes nothing.
use Prim.Native.Nat.{ℕ, zero, suc, ◌+◌, ◌*◌, ◌-◌, ◌/◌, ◌%◌, ◌≤◌, ◌<◌}
use native.Mathlib.Nat.{eq-or-lt_of_le}
use native.Mathlib.Decide.{dec_lt}
use native.Mathlib.Omega.{arith}
use mathlib.Core.Path.{◌≡◌, refl, sym, ap, subst, ◌∙◌}
use mathlib.Core.List.{List}
use mathlib.Core.Bool.{Bool, true, false, not, ◌&&◌, ◌||◌}
use mathlib.Core.Logic.{◌⊎◌, inl, inr, ⊎_elim}
use lib.ListN.{length, get_or, set}
use lib.Seq.{get_or-set_same, get_or-set_other}
use lib.Dec.{ltb, leb, eqb}
use Rattle.std.specs.Prelude.{Option, Some, None, unwrap_or}
use borrow.Author.Tests.{lt-ltb, le-ltb, le-leb, lt-leb, eq-eqb, ne_eqb, ltb-true, not-true, not-false}
use Rattle.fields.specs.Choice.{pick}
use Rattle.fields.proofs.FieldLaws.{pick_yes, pick_no}
use Rattle.fields.proofs.TestLaws.{untrue, and_both}
use Rattle.records.specs.inner.Raw.{capped}
use Rattle.views.specs.inner.View.{record_word}
use Rattle.linking.specs.inner.Links.{
  first_extent,
  extents,
  offset_at,
  size_at,
  made_of_items,
  every,
  some,
  named_row,
  named_by,
  chained,
  level,
  sum_from,
  length_sum,
  is_past,
  names_past,
  LinksIn,
}
use Rattle.linking.specs.inner.Bytes.{SumIs, one, link_byte, link_named, names_below, names_marked, Linked, Settled, Swept}
use Rattle.linking.proofs.LinkLaws.{
  by_test,
  every-at,
  every-all,
  every-not,
  every-same,
  some_at,
  some-none,
  some_same,
  level-low,
  level-chained,
  chained-level,
  level-over,
  level_test,
  level-none,
  level-some,
  level-made,
  chained-by,
  names-none,
  names-by,
  names-on,
  still_on,
}

-- one
one-low : (b : Bool) → one b ≤ 1
unfolding pick
one-low true = omega arith
one-low false = omega arith

one-true : one true ≡ 1
unfolding pick
one-true = refl

one-false : one false ≡ 0
unfolding pick
one-false = refl

one_test : (b : Bool) → eqb (one b) 1 ≡ b
unfolding pick
one_test true = eq-eqb 1 1 refl
one_test false = ne_eqb 0 1 (λ e. absurd (omega arith))

-- a mark of 16
mark_of : (b s : Bool) (p : ℕ) → b ≡ s → ((b ≡ true) × (p ≡ 16)) ⊎ ((b ≡ false) × (p ≡ 0)) → p ≡ 16 * one s
mark_of b s p e (inl (f, g)) = let z = ap one (sym e ∙ f) in omega (arith, one-true)
mark_of b s p e (inr (f, g)) = let z = ap one (sym e ∙ f) in omega (arith, one-false)

marked : (l : ℕ) (a b : Bool) → l < 16 → leb 16 (l + 16 * one a + 32 * one b) ≡ (b || a)
unfolding pick
marked l a true h = le-leb 16 (l + 16 * one a + 32) (omega arith)
marked l true false h = le-leb 16 (l + 16 + 0) (omega arith)
marked l false false h = lt-leb 16 (l + 0 + 0) (omega arith)

module _ (t v : List ℕ) where
  -- link_byte
  byte-known : (k r : ℕ) → level t v r < k → link_byte t v k r ≡ level t v r + 16 * one (names_past 8 t v r) + 32 * one (is_past t r)
  unfolding link_byte
  byte-known k r h = rw (pick_yes (level t v r + 16 * one (names_past 8 t v r)) 9 (lt-ltb (level t v r) k h))

  byte-unknown : (k r : ℕ) → k ≤ level t v r → link_byte t v k r ≡ 9 + 32 * one (is_past t r)
  unfolding link_byte
  byte-unknown k r h = rw (pick_no (level t v r + 16 * one (names_past 8 t v r)) 9 (le-ltb (level t v r) k h))

  byte-level : (k r : ℕ) → level t v r < k → link_byte t v k r % 16 ≡ level t v r
  byte-level k r h = omega (arith, byte-known k r h, level-low t v r)

  byte_nine : (k r : ℕ) → k ≤ level t v r → link_byte t v k r % 16 ≡ 9
  byte_nine k r h = omega (arith, byte-unknown k r h)

  -- whether the level is below j, by the byte
  byte-below : (k j r : ℕ) → j ≤ k → j ≤ 9 → ltb (link_byte t v k r % 16) j ≡ ltb (level t v r) j
  byte-below k j r h l =
      elim (dec_lt (level t v r) k) [
        | yes p ↦ ap (λ (i : ℕ). ltb i j) (byte-level k r p)
        | no p ↦ let z = byte_nine k r (omega (arith, p)) in
            le-ltb (link_byte t v k r % 16) j (omega arith) ∙ sym (le-ltb (level t v r) j (omega (arith, p)))
      ]

  byte-marked : (k r : ℕ) → level t v r < k → leb 16 (link_byte t v k r) ≡ (is_past t r || names_past 8 t v r)
  byte-marked k r h =
      ap (λ (i : ℕ). leb 16 i) (byte-known k r h)
      ∙ marked (level t v r) (names_past 8 t v r) (is_past t r) (omega (arith, level-low t v r))

  -- a level that is not k leaves the byte as it is
  byte-same : (k r : ℕ) → (level t v r ≡ k → ⊥) → link_byte t v k r ≡ link_byte t v (k + 1) r
  byte-same k r h =
      elim (dec_lt (level t v r) k) [
        | yes p ↦ byte-known k r p ∙ sym (byte-known (k + 1) r (omega arith))
        | no p ↦ let z : k < level t v r = ⊎_elim (λ e. absurd (h (sym e))) (λ e. e)
            (eq-or-lt_of_le {n = k} {m = level t v r} (omega (arith, p))) in
            byte-unknown k r (omega arith) ∙ sym (byte-unknown (k + 1) r (omega arith))
      ]

  -- before links are followed: x is the method, y the level where one is known
  pub byte-first : (r x y p : ℕ) → x ≡ record_word t r 9 → ((x ≡ 2) × (y ≡ 9)) ⊎ ((x ≡ 2 → ⊥) × (y ≡ 0)) →
      p ≡ 32 * one (is_past t r) → y + p ≡ link_byte t v 1 r
  byte-first r x y p e (inl (f, g)) q =
      let l = level-some t v r (eq-eqb (record_word t r 9) 2 (sym e ∙ f)) in
      let z = byte-unknown 1 r (omega arith) in
      omega arith
  byte-first r x y p e (inr (f, g)) q =
      let m = ne_eqb (record_word t r 9) 2 (λ i. f (e ∙ i)) in
      let l = level-none t v r m in
      let z = byte-known 1 r (omega arith) in
      let o = ap one (names-none t v 8 r m) in
      let u = one-false in
      omega arith

  -- what the questions are answered by
  pub level-read : (b r : ℕ) → b ≡ link_byte t v 9 r → b % 16 ≡ level t v r
  level-read b r e =
      elim (dec_lt (level t v r) 9) [
        | yes p ↦ ap (λ (i : ℕ). i % 16) e ∙ byte-level 9 r p
        | no p ↦ ap (λ (i : ℕ). i % 16) e ∙ byte_nine 9 r (omega (arith, p)) ∙ omega (arith, p, level-low t v r)
      ]

  pub endless_read : (k r : ℕ) → k ≡ level t v r → eqb k 9 ≡ not (chained 8 t v r)
  endless_read k r e =
      by_test (chained 8 t v r)
      (λ q. ne_eqb k 9 (λ z. absurd (omega (arith, chained-level t v 8 r q))) ∙ ap not (sym q))
      (λ q. eq-eqb k 9 (omega (arith, level-over t v 8 r (omega arith) q, level-low t v r)) ∙ ap not (sym q))

  pub names-read : (b r : ℕ) → b ≡ link_byte t v 9 r → chained 8 t v r ≡ true → eqb (b / 16 % 2) 1 ≡ names_past 8 t v r
  names-read b r e q =
      let l = chained-level t v 8 r q in
      let z = byte-known 9 r (omega arith) in
      let o = one-low (names_past 8 t v r) in
      let p = one-low (is_past t r) in
      let w : b / 16 % 2 ≡ one (names_past 8 t v r) = omega arith in
      ap (λ (i : ℕ). eqb i 1) w ∙ one_test (names_past 8 t v r)

  -- one round: a row r of n that may be given the level k, where all bytes are those of this round or of the next
  module _ (n : ℕ) (w : LinksIn t v n) (j : ℕ) (kl : suc j ≤ 8) (l : List ℕ)
      (all : (x : ℕ) → x < n → (get_or l x 0 ≡ link_byte t v (suc j) x) ⊎ (get_or l x 0 ≡ link_byte t v (suc j + 1) x)) where
    byte_under : (x : ℕ) → x < n → ltb (get_or l x 0 % 16) (suc j) ≡ chained j t v x
    byte_under x h =
        ⊎_elim (λ e. ap (λ (i : ℕ). ltb (i % 16) (suc j)) e ∙ byte-below (suc j) (suc j) x (omega arith) (omega arith))
        (λ e. ap (λ (i : ℕ). ltb (i % 16) (suc j)) e ∙ byte-below (suc j + 1) (suc j) x (omega arith) (omega arith)) (all x h)
        ∙ level_test t v j x (omega arith)

    byte-over : (x : ℕ) → x < n → chained j t v x ≡ true → leb 16 (get_or l x 0) ≡ (is_past t x || names_past j t v x)
    byte-over x h c =
        let z = chained-level t v j x c in
        ⊎_elim (λ e. ap (λ (i : ℕ). leb 16 i) e ∙ byte-marked (suc j) x (omega arith))
        (λ e. ap (λ (i : ℕ). leb 16 i) e ∙ byte-marked (suc j + 1) x (omega arith)) (all x h)
        ∙ ap (λ (b : Bool). is_past t x || b) (names-on t v j 8 x (omega arith) c)

    module _ (r : ℕ) (rl : r < n) (m : made_of_items t r ≡ true) where
      below_one : (i : ℕ) → i < extents t r →
          names_below v l (suc j) (first_extent t r + i) ≡ (ltb (named_by t v r i) 256 && chained j t v (named_by t v r i))
      below_one i h =
          by_test (ltb (named_by t v r i) 256)
          (λ q. ap (λ (b : ℕ). ltb (b % 16) (suc j)) (pick_yes (get_or l (named_by t v r i) 0) 9 q)
          ∙ byte_under (named_by t v r i) (w.inside r i rl m h (ltb-true (named_by t v r i) 256 q))
          ∙ ap (λ (b : Bool). b && chained j t v (named_by t v r i)) (sym q))
          (λ q. ap (λ (b : ℕ). ltb (b % 16) (suc j)) (pick_no (get_or l (named_by t v r i) 0) 9 q)
          ∙ le-ltb (9 % 16) (suc j) (omega arith)
          ∙ ap (λ (b : Bool). b && chained j t v (named_by t v r i)) (sym q))

      below_all : every (λ i. names_below v l (suc j) (first_extent t r + i)) (extents t r) ≡ chained (suc j) t v r
      below_all =
          every-same (λ i. names_below v l (suc j) (first_extent t r + i))
          (λ i. ltb (named_by t v r i) 256 && chained j t v (named_by t v r i)) (extents t r) below_one
          ∙ sym (chained-by t v j r m)

      marked-one : chained (suc j) t v r ≡ true → (i : ℕ) → i < extents t r → names_marked v l (first_extent t r + i) ≡
          (ltb (named_by t v r i) 256 && (is_past t (named_by t v r i) || names_past j t v (named_by t v r i)))
      marked-one c i h =
          let a = and_both (ltb (named_by t v r i) 256) (chained j t v (named_by t v r i))
          (every-at (λ o. ltb (named_by t v r o) 256 && chained j t v (named_by t v r o)) (extents t r)
          (sym (chained-by t v j r m) ∙ c) i h) in
          ap (λ (b : ℕ). leb 16 b) (pick_yes (get_or l (named_by t v r i) 0) 9 a.0)
          ∙ byte-over (named_by t v r i) (w.inside r i rl m h (ltb-true (named_by t v r i) 256 a.0)) a.1
          ∙ ap (λ (b : Bool). b && (is_past t (named_by t v r i) || names_past j t v (named_by t v r i))) (sym a.0)

      marked-some : chained (suc j) t v r ≡ true → some (λ i. names_marked v l (first_extent t r + i)) (extents t r) ≡ names_past 8 t v r
      marked-some c =
          some_same (λ i. names_marked v l (first_extent t r + i))
          (λ i. ltb (named_by t v r i) 256 && (is_past t (named_by t v r i) || names_past j t v (named_by t v r i))) (extents t r)
          (marked-one c)
          ∙ sym (names-by t v j r m) ∙ sym (names-on t v (suc j) 8 r kl c)

    module _ (r : ℕ) (rl : r < n) (was : get_or l r 0 ≡ link_byte t v (suc j) r) where
      kept-known : (get_or l r 0 % 16 ≡ 9 → ⊥) → get_or l r 0 ≡ link_byte t v (suc j + 1) r
      kept-known h =
          was ∙ byte-same (suc j) r (λ e. h (ap (λ (i : ℕ). i % 16) was ∙ byte_nine (suc j) r (omega arith)))

      module _ (nine : get_or l r 0 % 16 ≡ 9) where
        is-over : suc j ≤ level t v r
        is-over =
            elim (dec_lt (level t v r) (suc j)) [
              | yes p ↦ let z = byte-level (suc j) r p in let y = ap (λ (i : ℕ). i % 16) was in absurd (omega arith)
              | no p ↦ omega (arith, p)
            ]

        is_made : made_of_items t r ≡ true
        is_made = level-made t v r (omega (arith, is-over))

        kept-over : every (λ i. names_below v l (suc j) (first_extent t r + i)) (extents t r) ≡ false → get_or l r 0 ≡ link_byte t v (suc j + 1) r
        kept-over e =
            let z = level-over t v (suc j) r (omega arith) (sym (below_all r rl is_made) ∙ e) in
            was ∙ byte-same (suc j) r (λ q. absurd (omega arith))

        given : every (λ i. names_below v l (suc j) (first_extent t r + i)) (extents t r) ≡ true → (p : ℕ) →
            p ≡ 16 * one (some (λ i. names_marked v l (first_extent t r + i)) (extents t r)) →
            get_or l r 0 / 32 * 32 + suc j + p ≡ link_byte t v (suc j + 1) r
        given e p q =
            let c = sym (below_all r rl is_made) ∙ e in
            let lo = chained-level t v (suc j) r c in
            let hi = is-over in
            let a = byte-unknown (suc j) r hi in
            let b = byte-known (suc j + 1) r (omega arith) in
            let f = ap one (marked-some r rl is_made c) in
            let o = one-low (is_past t r) in
            omega (arith, was)

  -- Settled
  settled_same : (r k : ℕ) (l : List ℕ) → ((n : ℕ) → LinksIn t v n → r < n →
      ((x : ℕ) → x < n → (get_or l x 0 ≡ link_byte t v k x) ⊎ (get_or l x 0 ≡ link_byte t v (k + 1) x)) →
      get_or l r 0 ≡ link_byte t v k r → get_or l r 0 ≡ link_byte t v (k + 1) r) → Settled t v r k l l false
  settled_same r k l h = record { other = λ x o. refl; quiet = λ e. refl; here = h }

  pub settled-known : (r k : ℕ) (l : List ℕ) → 1 ≤ k → k ≤ 8 → (get_or l r 0 % 16 ≡ 9 → ⊥) → Settled t v r k l l false
  settled-known r zero l a b h = absurd (omega arith)
  settled-known r (suc j) l a b h = settled_same r (suc j) l (λ n w rl all was. kept-known n w j b l all r rl was h)

  module _ (r f c : ℕ) (fe : f ≡ first_extent t r) (ce : c ≡ extents t r) where
    -- the extents of a row by what was read
    pub every-read : (g : ℕ → Bool) → every (λ i. g (f + i)) (f + c - f) ≡ every (λ i. g (first_extent t r + i)) (extents t r)
    every-read g =
        let z : f + c - f ≡ extents t r = omega arith in
        ap (λ (o : ℕ). every (λ i. g (f + i)) o) z ∙ ap (λ (o : ℕ). every (λ i. g (o + i)) (extents t r)) fe

    pub some_read : (g : ℕ → Bool) → some (λ i. g (f + i)) (f + c - f) ≡ some (λ i. g (first_extent t r + i)) (extents t r)
    some_read g =
        let z : f + c - f ≡ extents t r = omega arith in
        ap (λ (o : ℕ). some (λ i. g (f + i)) o) z ∙ ap (λ (o : ℕ). some (λ i. g (o + i)) (extents t r)) fe

    pub sum_read : sum_from t f (f + c - f) ≡ length_sum t r
    sum_read =
        let z : f + c - f ≡ extents t r = omega arith in
        ap (λ (o : ℕ). sum_from t f o) z ∙ ap (λ (o : ℕ). sum_from t o (extents t r)) fe

    pub settled_out : (k : ℕ) (l : List ℕ) → 512 < f + c → Settled t v r k l l false
    settled_out k l h = settled_same r k l (λ n w rl all was. absurd (omega (arith, w.room r rl)))

    -- b tells whether all that is named lies below k, s whether something of it is past 2^64
    pub settled-over : (k : ℕ) (l : List ℕ) (b : Bool) → 1 ≤ k → k ≤ 8 → get_or l r 0 % 16 ≡ 9 →
        b ≡ every (λ i. names_below v l k (f + i)) (f + c - f) → not b ≡ true → Settled t v r k l l false
    settled-over zero l b lo hi h e q = absurd (omega arith)
    settled-over (suc j) l b lo hi h e q =
        settled_same r (suc j) l (λ n w rl all was. kept-over n w j hi l all r rl was h
        (sym (e ∙ every-read (names_below v l (suc j))) ∙ not-true b q))

    pub settled_given : (k : ℕ) (l : List ℕ) (b s : Bool) (p : ℕ) → 1 ≤ k → k ≤ 8 → r < length l → get_or l r 0 % 16 ≡ 9 →
        b ≡ every (λ i. names_below v l k (f + i)) (f + c - f) → not b ≡ false →
        s ≡ some (λ i. names_marked v l (f + i)) (f + c - f) → ((s ≡ true) × (p ≡ 16)) ⊎ ((s ≡ false) × (p ≡ 0)) →
        Settled t v r k l (set l r (get_or l r 0 / 32 * 32 + k + p)) true
    settled_given zero l b s p lo hi i h e q m came = absurd (omega arith)
    settled_given (suc j) l b s p lo hi i h e q m came =
        record {
          other = λ x o. get_or-set_other l r x (get_or l r 0 / 32 * 32 + suc j + p) 0 (λ z. o z);
          quiet = λ z. untrue (sym z);
          here = λ n w rl all was. get_or-set_same l r (get_or l r 0 / 32 * 32 + suc j + p) 0 i
              ∙ given n w j hi l all r rl was h (sym (e ∙ every-read (names_below v l (suc j))) ∙ not-false b q) p
              (mark_of s _ p (m ∙ some_read (names_marked v l)) came);
        }

  -- Swept: the rows below i are done
  pub record Sweeping (n i k : ℕ) (old new : List ℕ) (grew : Bool) : Type 0 where
    pub quiet : grew ≡ false → new ≡ old
    pub done : LinksIn t v n → Linked t v k n old → (x : ℕ) → x < i → x < n → get_or new x 0 ≡ link_byte t v (k + 1) x
    pub left : (x : ℕ) → i ≤ x → get_or new x 0 ≡ get_or old x 0

  module _ (n k : ℕ) where
    pub sweep_none : (l : List ℕ) → Sweeping n 0 k l l false
    sweep_none l = record { quiet = λ e. refl; done = λ w h x i. absurd (omega arith); left = λ x i. refl }

    pub sweep_next : (i : ℕ) (a b c : List ℕ) (g h o : Bool) → ((h ≡ true) × (o ≡ true)) ⊎ ((h ≡ false) × (o ≡ g)) → i < n →
        Sweeping n i k a b g → Settled t v i k b c h → Sweeping n (i + 1) k a c o
    sweep_next i a b c g h o came l s u =
        record {
          quiet = λ e. ⊎_elim (λ z. untrue (sym e ∙ z.1)) (λ z. u.quiet z.0 ∙ s.quiet (sym z.1 ∙ e)) came;
          done = λ w known x j m. ⊎_elim
              (λ z. subst (λ (y : ℕ). get_or c y 0 ≡ link_byte t v (k + 1) y) (sym z)
              (u.here n w l (λ y q. elim (dec_lt y i) [
                | yes p ↦ inr (s.done w known y p q)
                | no p ↦ inl (s.left y (omega (arith, p)) ∙ known y q)
              ]) (s.left i (omega arith) ∙ known i l)))
              (λ z. u.other x (λ y. absurd (omega arith)) ∙ s.done w known x z m) (eq-or-lt_of_le {n = x} {m = i} (omega arith));
          left = λ x j. u.other x (λ y. absurd (omega arith)) ∙ s.left x (omega arith);
        }

    pub sweep_end : (i : ℕ) (a b : List ℕ) (g : Bool) → n ≤ i → Sweeping n i k a b g → Swept t v n k a b g
    sweep_end i a b g h s = record { quiet = s.quiet; done = λ w known x l. s.done w known x (omega arith) l }

  -- a round that finds no row is the last
  module _ (n : ℕ) (a b : List ℕ) where
    -- a row of level k would have got another byte
    still_one : (j : ℕ) → suc j ≤ 8 → (r : ℕ) → link_byte t v (suc j) r ≡ link_byte t v (suc j + 1) r →
        chained (suc j) t v r ≡ true → chained j t v r ≡ true
    still_one j l r e c =
        elim (dec_lt (level t v r) (suc j)) [
          | yes p ↦ level-chained t v j r (omega arith) (omega arith)
          | no p ↦ let z = chained-level t v (suc j) r c in
              let y = byte-unknown (suc j) r (omega (arith, p)) in
              let x = byte-known (suc j + 1) r (omega arith) in
              absurd (omega (arith, p))
        ]

    last_byte : (j : ℕ) → suc j ≤ 8 → LinksIn t v n → ((r : ℕ) → r < n → link_byte t v (suc j) r ≡ link_byte t v (suc j + 1) r) →
        (r : ℕ) → r < n → link_byte t v (suc j) r ≡ link_byte t v 9 r
    last_byte j l w same r h =
        by_test (chained 8 t v r)
        (λ c. let z = chained-level t v j r (still_on t v n w j (λ x q. still_one j l x (same x q)) 8 r (omega arith) h c) in
        byte-known (suc j) r (omega arith) ∙ sym (byte-known 9 r (omega arith)))
        (λ c. let z = level-over t v 8 r (omega arith) c in
        byte-unknown (suc j) r (omega arith) ∙ sym (byte-unknown 9 r (omega arith)))

    pub linked-last : (k : ℕ) (g : Bool) → 1 ≤ k → k ≤ 8 → g ≡ false → Swept t v n k a b g → (LinksIn t v n → Linked t v k n a) →
        LinksIn t v n → Linked t v 9 n b
    linked-last zero g p q e s h w r l = absurd (omega arith)
    linked-last (suc j) g p q e s h w r l =
        let o : b ≡ a = s.quiet e in
        ap (λ (m : List ℕ). get_or m r 0) o ∙ h w r l
        ∙ last_byte j q w (λ x i. sym (h w x i) ∙ sym (ap (λ (m : List ℕ). get_or m x 0) o) ∙ s.done w (h w) x i) r l

-- the words of an extent
pub size-read : (t : List ℕ) (e a b : ℕ) → a ≡ get_or t (9234 + 4 * e) 0 → b ≡ get_or t (9235 + 4 * e) 0 → a * 4294967296 + b ≡ size_at t e
size-read t e a b p q =
    let x : 9234 + 4 * e ≡ 9232 + 4 * e + 2 = omega arith in
    let y : 9235 + 4 * e ≡ 9232 + 4 * e + 2 + 1 = omega arith in
    omega (arith, p ∙ ap (λ (i : ℕ). get_or t i 0) x, q ∙ ap (λ (i : ℕ). get_or t i 0) y)

pub offset_read : (t : List ℕ) (e a b : ℕ) → a ≡ get_or t (9232 + 4 * e) 0 → b ≡ get_or t (9233 + 4 * e) 0 → a * 4294967296 + b ≡ offset_at t e
offset_read t e a b p q =
    let y : 9233 + 4 * e ≡ 9232 + 4 * e + 1 = omega arith in
    omega (arith, p, q ∙ ap (λ (i : ℕ). get_or t i 0) y)

-- sum_from: one more, and never less
pub sum_none : (t : List ℕ) (f : ℕ) → 0 ≡ sum_from t f (f - f)
unfolding sum_from
sum_none t f = let z : 0 ≡ f - f = omega arith in ap (sum_from t f) z

pub sum_more : (t : List ℕ) (f e s x : ℕ) → f ≤ e → s ≡ sum_from t f (e - f) → x ≡ size_at t e → s + x ≡ sum_from t f (e + 1 - f)
unfolding sum_from
sum_more t f e s x h p q =
    let z : suc (e - f) ≡ e + 1 - f = omega arith in
    let y : e ≡ f + (e - f) = omega arith in
    let u = ap (sum_from t f) z in
    let w = ap (size_at t) y in
    omega arith

sum_grows : (t : List ℕ) (f m n : ℕ) → m ≤ n → sum_from t f m ≤ sum_from t f n
unfolding sum_from
sum_grows t f m zero h = let z : m ≡ 0 = omega arith in let u = ap (sum_from t f) z in omega arith
sum_grows t f m (suc n) h =
    ⊎_elim (λ z. let u = ap (sum_from t f) z in omega arith) (λ z. omega (arith, sum_grows t f m n (omega arith)))
    (eq-or-lt_of_le {n = m} {m = suc n} h)

pub sum_past : (t : List ℕ) (f e end s x : ℕ) → f ≤ e → e < end → s ≡ sum_from t f (e - f) → x ≡ size_at t e →
    18446744073709551616 ≤ s + x → SumIs None (sum_from t f (end - f))
unfolding SumIs
sum_past t f e end s x h l p q o =
    omega (arith, sum_more t f e s x h p q, sum_grows t f (e + 1 - f) (end - f) (omega arith))

pub sum_is : (t : List ℕ) (f e end s : ℕ) → e ≤ end → end ≤ e → s < 18446744073709551616 → s ≡ sum_from t f (e - f) →
    SumIs (Some s) (sum_from t f (end - f))
unfolding SumIs
sum_is t f e end s h l o p =
    let z : e ≡ end = omega arith in
    let u = ap (λ (i : ℕ). sum_from t f (i - f)) z in
    (p ∙ u, omega arith)

-- SumIs
pub past_one : (t : List ℕ) (r : ℕ) → SumIs None (length_sum t r) → 32 ≡ 32 * one (is_past t r)
unfolding SumIs
past_one t r h = let z = ap one (le-leb 18446744073709551616 (length_sum t r) h) in omega (arith, one-true)

pub is_none : (t : List ℕ) (r s : ℕ) → SumIs (Some s) (length_sum t r) → 0 ≡ 32 * one (is_past t r)
unfolding SumIs
is_none t r s h = let z = ap one (lt-leb 18446744073709551616 (length_sum t r) h.1) in omega (arith, one-false)

pub past-capped : (m : ℕ) → SumIs None m → 18446744073709551615 ≡ capped m
unfolding SumIs
past-capped m h = sym (pick_no m 18446744073709551615 (lt-leb m 18446744073709551615 (omega arith)))

pub is-capped : (m s : ℕ) → SumIs (Some s) m → s ≡ capped m
unfolding SumIs
is-capped m s h = h.0 ∙ sym (pick_yes m 18446744073709551615 (le-leb m 18446744073709551615 (omega (arith, h.1))))

-- every, some: over the extents from f on, before an end
module _ (g : ℕ → Bool) (f e end : ℕ) (h : f ≤ e) where
  pub every_gap : e < end → g e ≡ false → false ≡ every (λ j. g (f + j)) (end - f)
  every_gap l q =
      let z : f + (e - f) ≡ e = omega arith in
      sym (every-not (λ j. g (f + j)) (end - f) (e - f) (omega arith) (ap g z ∙ q))

  pub every-whole : end ≤ e → ((i : ℕ) → f ≤ i → i < e → g i ≡ true) → true ≡ every (λ j. g (f + j)) (end - f)
  every-whole l q = sym (every-all (λ j. g (f + j)) (end - f) (λ j k. q (f + j) (omega arith) (omega arith)))

  pub some_gap : e < end → g e ≡ true → true ≡ some (λ j. g (f + j)) (end - f)
  some_gap l q =
      let z : f + (e - f) ≡ e = omega arith in
      sym (some_at (λ j. g (f + j)) (end - f) (e - f) (omega arith) (ap g z ∙ q))

  pub some-whole : end ≤ e → ((i : ℕ) → f ≤ i → i < e → g i ≡ false) → false ≡ some (λ j. g (f + j)) (end - f)
  some-whole l q = sym (some-none (λ j. g (f + j)) (end - f) (λ j k. q (f + j) (omega arith) (omega arith)))

-- link_named, and what the byte of a named row says
pub named_in : (l : List ℕ) (x : ℕ) → x < 256 → get_or l x 0 ≡ link_named l x
named_in l x h = sym (pick_yes (get_or l x 0) 9 (lt-ltb x 256 h))

pub named_out : (l : List ℕ) (x : ℕ) → 256 ≤ x → 9 ≡ link_named l x
named_out l x h = sym (pick_no (get_or l x 0) 9 (le-ltb x 256 h))

module _ (v l : List ℕ) (e x b : ℕ) (p : x ≡ named_row v e) (q : b ≡ link_named l x) where
  byte-read : b ≡ link_named l (named_row v e)
  byte-read = q ∙ ap (link_named l) p

  pub below_no : (k : ℕ) → k ≤ b % 16 → names_below v l k e ≡ false
  below_no k h = ap (λ (i : ℕ). ltb (i % 16) k) (sym byte-read) ∙ le-ltb (b % 16) k h

  pub marked-yes : 16 ≤ b → names_marked v l e ≡ true
  marked-yes h = ap (λ (i : ℕ). leb 16 i) (sym byte-read) ∙ le-leb 16 b h

-- one more word is put
pub put-more : (P : ℕ → ℕ → Type 0) (l : List ℕ) (r b : ℕ) → r < length l → ((x : ℕ) → x < r → P x (get_or l x 0)) → P r b →
    (x : ℕ) → x < r + 1 → P x (get_or (set l r b) x 0)
put-more P l r b i h p x k =
    ⊎_elim (λ z. subst (λ (y : ℕ). P y (get_or (set l r b) y 0)) (sym z) (subst (P r) (sym (get_or-set_same l r b 0 i)) p))
    (λ z. subst (P x) (sym (get_or-set_other l r x b 0 (λ y. absurd (omega arith)))) (h x z)) (eq-or-lt_of_le {n = x} {m = r} (omega arith))

-- what a sum is told as
module _ (t : List ℕ) (r f c : ℕ) (s : Option ℕ) (fe : f ≡ first_extent t r) (ce : c ≡ extents t r) where
  pub sum_row : SumIs s (sum_from t f (f + c - f)) → SumIs s (length_sum t r)
  sum_row h = subst (SumIs s) (sum_read t t r f c fe ce) h

-- a sum as it is capped
pub sum-capped : (m : ℕ) (s : Option ℕ) → SumIs s m → unwrap_or s 18446744073709551615 ≡ capped m
sum-capped m None h = past-capped m h
sum-capped m (Some s) h = is-capped m s h
