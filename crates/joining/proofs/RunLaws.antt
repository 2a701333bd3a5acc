-- Runs: how many bytes of an item lie in the head without a gap, extent by extent. Assumes nothing.
--   run-filed, run-made    of the source of an extent
--   run-joined             over the rest of an extent and what is behind it
--   runs-kept              what is written for one row changes no other's
use Prim.Native.Nat.{ℕ, suc, ◌+◌, ◌-◌, ◌≤◌, ◌<◌}
use native.Mathlib.Omega.{arith}
use mathlib.Core.Path.{◌≡◌, refl, sym, ap, subst, ◌∙◌}
use mathlib.Core.List.{List}
use mathlib.Core.Bool.{Bool, true, false}
use lib.ListN.{get_or}
use lib.Dec.{ltb}
use Rattle.std.specs.Prelude.{None, min}
use borrow.Author.Tests.{le-ltb, ltb-true, ltb-false}
use Rattle.fields.specs.Choice.{pick}
use Rattle.fields.proofs.FieldLaws.{both, pick_yes, pick_no}
use Rattle.linking.specs.inner.Links.{
  first_extent,
  extents,
  offset_at,
  size_at,
  made_of_items,
  named_row,
  chained,
  level,
  sum_from,
  length_sum,
}
use Rattle.joining.specs.inner.Lies.{holder_from, nowhere, place_of, source_place, leading, run_of, RunsIn, Sourced}
use Rattle.joining.proofs.LeadingLaws.{leading-same, leading-none, leading-joined}
use Rattle.joining.proofs.PlaceLaws.{
  holder_past,
  source_at,
  place-past,
  named-row,
  named-level,
}
use Rattle.joining.proofs.PieceLaws.{from_is}

-- a run is no longer than it is asked for
pub joined-low : (here left behind n : ℕ) → here ≤ n → pick (ltb here left) here (min (left + behind) n) ≤ n
joined-low here left behind n h =
    both (λ (m : ℕ). m ≤ n) _ _ _ (λ e. h) (λ e. omega arith)

-- sum_from: one extent more
sum_next : (t : List ℕ) (e j : ℕ) → sum_from t e (suc j) ≡ sum_from t e j + size_at t (e + j)
unfolding sum_from
sum_next t e j = refl

module _ (t v : List ℕ) (end : ℕ) where
  -- past the last byte no run begins
  pub run_past : (k r p : ℕ) → end ≤ 18446744073709551616 → length_sum t r ≤ p → 0 ≡ run_of k t v end r p
  run_past k r p b h =
      let z : length_sum t r ≤ p + 0 = omega arith in
      leading-none (λ i. ltb (place_of k t v r (p + i)) end) 16403
      (ap (λ (x : ℕ). ltb x end) (place-past t v k r (p + 0) z) ∙ le-ltb nowhere end b)

  pub run_nowhere : (k r p : ℕ) → end ≤ 18446744073709551616 → None ≡ holder_from t (first_extent t r) (extents t r) p → 0 ≡ run_of k t v end r p
  run_nowhere k r p b a = run_past k r p b (holder_past t (first_extent t r) (extents t r) p a)

  -- over an extent from its byte `rest` on, and behind it
  pub run_joined : (r j e rest p here left behind : ℕ) → chained 8 t v r ≡ true → j < extents t r → e ≡ first_extent t r + j → rest ≤ size_at t e →
      p ≡ sum_from t (first_extent t r) j + rest →
      here ≡ leading (λ i. ltb (source_place 8 t v r e (offset_at t e + (rest + i))) end) 16403 → left ≡ size_at t e - rest →
      behind ≡ run_of 8 t v end r (sum_from t (first_extent t r) (suc j)) →
      pick (ltb here left) here (min (left + behind) 16403) ≡ run_of 8 t v end r p
  run_joined r j e rest p here left behind ch jl z inside s h l b =
      let f : ℕ → Bool = λ i. ltb (place_of 8 t v r (p + i)) end in
      let g : ℕ → Bool = λ i. ltb (source_place 8 t v r e (offset_at t e + (rest + i))) end in
      let k : ℕ → Bool = λ i. ltb (place_of 8 t v r (sum_from t (first_extent t r) (suc j) + i)) end in
      let y = ap (size_at t) z in
      let n = sum_next t (first_extent t r) j in
      rw (h, b) (leading-joined f g k left 16403
      (λ i q. let c : rest + i < size_at t (first_extent t r + j) = omega arith in
      ap (λ (x : ℕ). ltb x end) (source_at t v 8 r j (rest + i) (p + i) ch jl c (omega arith)
      ∙ ap (λ (x : ℕ). source_place 8 t v r x (offset_at t x + (rest + i))) (sym z)))
      (λ i. let c : p + (left + i) ≡ sum_from t (first_extent t r) (suc j) + i = omega arith in
      ap (λ (x : ℕ). ltb (place_of 8 t v r x) end) c))

  -- what stands for the extent behind
  pub run_next : (r j e past behind : ℕ) (ks : List ℕ) → end ≤ 18446744073709551616 → j < extents t r → e ≡ first_extent t r + j →
      past ≡ first_extent t r + extents t r → RunsIn t v end r ks → behind ≡ pick (ltb (e + 1) past) (get_or ks (e + 1) 0) 0 →
      behind ≡ run_of 8 t v end r (sum_from t (first_extent t r) (suc j))
  run_next r j e past behind ks b jl z q known h =
      h ∙ both (λ (x : ℕ). x ≡ run_of 8 t v end r (sum_from t (first_extent t r) (suc j))) _ _ _
      (λ a. let l = ltb-true (e + 1) past a in
      let y : e + 1 ≡ first_extent t r + suc j = omega arith in
      ap (λ (x : ℕ). get_or ks x 0) y ∙ known (suc j) (omega arith))
      (λ a. let l = ltb-false (e + 1) past a in
      let y : extents t r ≡ suc j = omega arith in
      let n = ap (sum_from t (first_extent t r)) y in
      run_past 8 r (sum_from t (first_extent t r) (suc j)) b (omega arith))

  module _ (m : ℕ) (w : Sourced t v m) where
    -- the source of an extent, from its byte `rest` on
    module _ (r j e rest from off x : ℕ) (rl : r < m) (jl : j < extents t r) (z : e ≡ first_extent t r + j) (inside : rest ≤ size_at t e)
        (o : off ≡ offset_at t e) (f : from ≡ min (off + rest) 18446744073709551615) where
      pub run_filed : made_of_items t r ≡ false → x ≡ leading (λ i. ltb (from + i) end) 16403 →
          x ≡ leading (λ i. ltb (source_place 8 t v r e (offset_at t e + (rest + i))) end) 16403
      run_filed a h =
          h ∙ leading-same (λ i. ltb (from + i) end) (λ i. ltb (source_place 8 t v r e (offset_at t e + (rest + i))) end) 16403
          (λ i l. let y : from + i ≡ offset_at t e + (rest + i) = omega (arith, from_is t v m r w rl j e rest from off jl z inside o f) in
          ap (λ (q : ℕ). ltb q end) (y ∙ sym (pick_no _ _ a)))

      pub run_made : (d c k : ℕ) → d ≡ suc c → chained d t v r ≡ true → level t v r ≤ k → made_of_items t r ≡ true →
          (named_row v e < m → chained c t v (named_row v e) ≡ true → level t v (named_row v e) < k → x ≡ run_of 8 t v end (named_row v e) from) →
          x ≡ leading (λ i. ltb (source_place 8 t v r e (offset_at t e + (rest + i))) end) 16403
      run_made d c k y ch low a ih =
          let n = named-row t v c r j a (subst (λ (i : ℕ). chained i t v r ≡ true) y ch) jl in
          let g = ap (named_row v) z in
          let u = w.links.inside r j rl a jl n.0 in
          let q = named-level t v r j a (w.ends r rl) jl in
          let b = ap (level t v) g in
          ih (omega arith) (subst (λ (i : ℕ). chained c t v i ≡ true) (sym g) n.1) (omega arith)
          ∙ leading-same (λ i. ltb (place_of 8 t v (named_row v e) (from + i)) end)
          (λ i. ltb (source_place 8 t v r e (offset_at t e + (rest + i))) end) 16403
          (λ i l. let s : from + i ≡ offset_at t e + (rest + i) = omega (arith, from_is t v m r w rl j e rest from off jl z inside o f) in
          ap (λ (p : ℕ). ltb p end) (ap (place_of 8 t v (named_row v e)) s ∙ sym (pick_yes _ _ a)))

    -- what changes only the extents of one row changes no run of another
    pub runs-kept : (r q : ℕ) (ks ls : List ℕ) → r < m → q < m → (q ≡ r → ⊥) →
        ((e : ℕ) → ((j : ℕ) → j < extents t r → e ≡ first_extent t r + j → ⊥) → get_or ls e 0 ≡ get_or ks e 0) →
        RunsIn t v end q ks → RunsIn t v end q ls
    runs-kept r q ks ls rl ql o same known j h =
        same (first_extent t q + j) (λ i l e. o (w.apart q r j i ql rl h l e)) ∙ known j h
