-- Whether all bytes of an item lie in the head: by the run of its first extent, or extent by extent. Assumes nothing.
use Prim.Native.Nat.{ℕ, ◌+◌, ◌-◌, ◌≤◌, ◌<◌}
use native.Mathlib.Decide.{dec_lt}
use native.Mathlib.Omega.{arith}
use mathlib.Core.Path.{◌≡◌, refl, sym, ap, ◌∙◌}
use mathlib.Core.List.{List}
use mathlib.Core.Bool.{Bool, true, false}
use lib.ListN.{get_or}
use lib.Dec.{ltb, leb}
use borrow.Author.Tests.{lt-ltb, le-leb, leb-true, ltb-true}
use Rattle.fields.specs.Choice.{pick}
use Rattle.fields.proofs.FieldLaws.{pick_yes}
use Rattle.fields.proofs.TestLaws.{untrue}
use Rattle.linking.specs.inner.Links.{first_extent, extents, offset_at, size_at, made_of_items, every, sum_from, length_sum}
use Rattle.linking.proofs.LinkLaws.{by_test, every-at, every-all, every-same, chained-level}
use Rattle.joining.specs.inner.Lies.{place_of, RunsAre, Sourced}
use Rattle.joining.proofs.LeadingLaws.{leading-every}
use Rattle.joining.proofs.PlaceLaws.{source_filed, holds_some, sum_within}

-- two tests that hold of the same
same_test : (a b : Bool) → (a ≡ true → b ≡ true) → (b ≡ true → a ≡ true) → a ≡ b
same_test a b f g = by_test a (λ e. e ∙ sym (f e)) (λ e. e ∙ sym (by_test b (λ q. untrue (sym e ∙ g q)) (λ q. q)))

sum_zero : (t : List ℕ) (e : ℕ) → sum_from t e 0 ≡ 0
unfolding sum_from
sum_zero t e = refl

module _ (t v : List ℕ) (end m r : ℕ) (w : Sourced t v m) (rl : r < m) where
  abbrev filed : ℕ → Bool
  filed p = ltb (place_of 8 t v r p) end

  pub held-made : (f past size b : ℕ) (ks : List ℕ) → f ≡ first_extent t r → past ≡ first_extent t r + extents t r → size ≡ length_sum t r →
      size ≤ 16402 → RunsAre t v end m ks → b ≡ pick (ltb f past) (get_or ks f 0) 0 → leb size b ≡ every (λ p. ltb (place_of 8 t v r p) end) size
  held-made f past size b ks fe pe se low known be =
      let o = sum_zero t (first_extent t r) in
      elim (dec_lt 0 (extents t r)) [
        | yes a ↦ let l = chained-level t v 8 r (w.ends r rl) in
            let z : f ≡ first_extent t r + 0 = omega arith in
            let y = be ∙ pick_yes _ _ (lt-ltb f past (omega (arith, a))) ∙ ap (λ (i : ℕ). get_or ks i 0) z ∙ known r rl (omega arith) 0 a in
            ap (leb size) y ∙ leading-every (λ i. filed (sum_from t (first_extent t r) 0 + i)) size 16403 (omega arith)
            ∙ every-same (λ i. filed (sum_from t (first_extent t r) 0 + i)) filed size
            (λ j h. let x : sum_from t (first_extent t r) 0 + j ≡ j = omega arith in ap filed x)
        | no a ↦ let z : extents t r ≡ 0 = omega (arith, a) in
            let y = ap (sum_from t (first_extent t r)) z in
            le-leb size b (omega arith) ∙ sym (every-all filed size (λ j h. absurd (omega arith)))
      ]

  pub held-filed : (size : ℕ) → made_of_items t r ≡ false → size ≡ length_sum t r →
      ((j : ℕ) → j < extents t r → 0 < size_at t (first_extent t r + j)) →
      every (λ j. leb (offset_at t (first_extent t r + j) + size_at t (first_extent t r + j)) end) (extents t r)
      ≡ every (λ p. ltb (place_of 8 t v r p) end) size
  held-filed size a se some = same_test _ _ there back
    where
      there : every (λ j. leb (offset_at t (first_extent t r + j) + size_at t (first_extent t r + j)) end) (extents t r) ≡ true →
          every (λ p. ltb (place_of 8 t v r p) end) size ≡ true
      there e =
          every-all filed size (λ p h. let x = holds_some t (first_extent t r) (extents t r) p (omega arith) in
          let y = x.2 in
          let z = ap (size_at t) y.place in
          let k = y.inside in
          let g = leb-true (offset_at t (first_extent t r + y.j) + size_at t (first_extent t r + y.j)) end
          (every-at (λ j. leb (offset_at t (first_extent t r + j) + size_at t (first_extent t r + j)) end) (extents t r) e y.j y.below) in
          let s = source_filed t v 8 r y.j x.1 p a y.below (omega arith) y.sum in
          lt-ltb (place_of 8 t v r p) end (omega arith))

      back : every (λ p. ltb (place_of 8 t v r p) end) size ≡ true →
          every (λ j. leb (offset_at t (first_extent t r + j) + size_at t (first_extent t r + j)) end) (extents t r) ≡ true
      back e =
          every-all (λ j. leb (offset_at t (first_extent t r + j) + size_at t (first_extent t r + j)) end) (extents t r)
          (λ j h. let k = some j h in
          let n = sum_within t (first_extent t r) (extents t r) j h in
          let i : ℕ = size_at t (first_extent t r + j) - 1 in
          let p : ℕ = sum_from t (first_extent t r) j + i in
          let g = ltb-true (place_of 8 t v r p) end (every-at filed size e p (omega arith)) in
          let s = source_filed t v 8 r j i p a h (omega arith) refl in
          le-leb (offset_at t (first_extent t r + j) + size_at t (first_extent t r + j)) end (omega arith))
