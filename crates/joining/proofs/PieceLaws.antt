-- A piece: where the first of some bytes lie, by what is known of the item or of the one that it is made of. Assumes nothing.
use Prim.Native.Nat.{ℕ, suc, ◌+◌, ◌-◌, ◌≤◌, ◌<◌}
use native.Mathlib.Omega.{arith}
use mathlib.Core.Path.{◌≡◌, sym, ap, subst, ◌∙◌}
use mathlib.Core.List.{List}
use mathlib.Core.Bool.{true, false}
use Rattle.std.specs.Prelude.{None, min}
use Rattle.linking.specs.inner.Links.{first_extent, extents, offset_at, size_at, made_of_items, named_row, named_by, chained, length_sum}
use Rattle.joining.specs.declared.Piece.{Piece}
use Rattle.joining.specs.inner.Lies.{holder_from, place_of, PieceIs, Sourced}
use Rattle.joining.proofs.PlaceLaws.{Holds, source_filed, source_made, named-row, named_none, holder_past}

-- no byte of a row is nowhere
pub piece_none : {A : Type 0} (t : List ℕ) (r p n : ℕ) → None ≡ holder_from t (first_extent t r) (extents t r) p → 0 < n →
    p + n ≤ length_sum t r → A
piece_none t r p n a q l = absurd (omega (arith, holder_past t (first_extent t r) (extents t r) p a))

-- what is made of items has a link left
pub piece_last : {A : Type 0} (t v : List ℕ) (r d : ℕ) → chained d t v r ≡ true → d ≡ 0 → made_of_items t r ≡ true → A
piece_last t v r d ch z a = absurd (named_none t v r a (subst (λ (i : ℕ). chained i t v r ≡ true) z ch))

-- an extent of a row that is read
module _ (t v : List ℕ) (m r : ℕ) (w : Sourced t v m) (rl : r < m) where
  -- the source of a byte of an extent has 64 bits
  pub from_is : (j e rest from off : ℕ) → j < extents t r → e ≡ first_extent t r + j → rest ≤ size_at t e → off ≡ offset_at t e →
      from ≡ min (off + rest) 18446744073709551615 → from ≡ offset_at t e + rest
  from_is j e rest from off h z k o f =
      let a = ap (offset_at t) z in
      let b = ap (size_at t) z in
      let l = w.filed r j rl h in
      omega arith

  module _ (d p n e rest size off here from : ℕ) (x : Holds t (first_extent t r) (extents t r) p e rest) (s : size ≡ size_at t e)
      (o : off ≡ offset_at t e) (h : here ≡ min n (size - rest)) (f : from ≡ min (off + rest) 18446744073709551615)
      (ch : chained d t v r ≡ true) (some : 0 < n) where
    here-low : (0 < here) × (here ≤ n) × (here ≤ size_at t e - rest)
    here-low =
        let k = x.inside in
        (omega arith, omega arith, omega arith)

    from-here : from ≡ offset_at t e + rest
    from-here = let k = x.inside in from_is x.j e rest from off x.below x.place (omega arith) o f

    pub piece_filed : made_of_items t r ≡ false → PieceIs (place_of d t v r) p n (record { from = from; size = here })
    piece_filed a =
        let z = x.place in
        let y = ap (size_at t) z in
        let u = ap (offset_at t) z in
        let q = from-here in
        let l = here-low in
        let k = x.inside in
        let g = x.sum in (
          l.0,
          l.1,
          λ i j. let c : rest + i < size_at t (first_extent t r + x.j) = omega (arith, l.2) in
              let b = source_filed t v d r x.j (rest + i) (p + i) a x.below c (omega arith) in
              omega arith,
        )

    pub piece_made : (k : ℕ) (q : Piece) → d ≡ suc k → made_of_items t r ≡ true →
        (named_row v e < m → chained k t v (named_row v e) ≡ true → 0 < here → from + here ≤ length_sum t (named_row v e) →
        PieceIs (place_of k t v (named_row v e)) from here q) → PieceIs (place_of d t v r) p n q
    piece_made k q z a ih =
        let y = x.place in
        let g = from-here in
        let l = here-low in
        let c = named-row t v k r x.j a (subst (λ (i : ℕ). chained i t v r ≡ true) z ch) x.below in
        let u = ap (offset_at t) y in
        let b = ap (size_at t) y in
        let i = ap (named_row v) y in
        let inside = w.links.inside r x.j rl a x.below c.0 in
        let within = w.within r x.j rl a x.below in
        let s = ap (length_sum t) i in
        let k1 = x.inside in
        let k2 = x.sum in
        let ps = ih (omega arith) (subst (λ (j : ℕ). chained k t v j ≡ true) (sym i) c.1) l.0 (omega (arith, l.2)) in (
          ps.0,
          omega (arith, ps.1, l.1),
          λ j h. let e1 : rest + j < size_at t (first_extent t r + x.j) = omega (arith, l.2, ps.1) in
              let e2 = source_made t v k r x.j (rest + j) (p + j) a x.below e1 (omega arith) in
              let e3 : offset_at t (first_extent t r + x.j) + (rest + j) ≡ from + j = omega arith in
              ap (λ (y : ℕ). place_of y t v r (p + j)) z ∙ e2 ∙ ap (place_of k t v (named_by t v r x.j)) e3
              ∙ ap (λ (y : ℕ). place_of k t v y (from + j)) (sym i) ∙ ps.2 j h,
        )
