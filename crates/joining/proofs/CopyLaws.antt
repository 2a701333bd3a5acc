-- Bytes that are copied one by one, and piece by piece. Assumes nothing.
use Prim.Native.Nat.{ℕ, zero, suc, ◌+◌, ◌-◌, ◌≤◌, ◌<◌}
use native.Mathlib.Nat.{not-suc-le-zero}
use native.Mathlib.Omega.{arith}
use native.Mathlib.Decide.{dec_lt}
use mathlib.Core.Path.{◌≡◌, refl, sym, ap, subst, ◌∙◌}
use mathlib.Core.List.{List, [], ◌∷◌, ◌++◌, append-nil, append_assoc}
use mathlib.Core.Bool.{true}
use lib.ListN.{length, get_or, set, take, drop, length-append, length-drop, get_or-append}
use lib.Seq.{sets, take-suc, get_or_at, get_or-drop, length-take-le}
use Rattle.records.proofs.SetsLaws.{sets_append}
use Rattle.linking.specs.inner.Links.{chained, length_sum}
use Rattle.joining.specs.declared.Piece.{Piece}
use Rattle.joining.specs.inner.Lies.{place_of, PieceIs, Sourced, bytes_by, bytes_of}

-- one byte more of a part
pub copy_more : (o out h : List ℕ) (at from i : ℕ) → o ≡ sets out at (take i (drop from h)) → from + i < length h →
    set o (at + i) (get_or h (from + i) 0) ≡ sets out at (take (i + 1) (drop from h))
copy_more o out h at from i e l =
    let n = length-drop from h in
    let w = length-take-le i (drop from h) (omega arith) in
    let y : i + 1 ≡ suc i = omega arith in
    ap (λ (x : List ℕ). set x (at + i) (get_or h (from + i) 0)) e
    ∙ ap (λ (x : ℕ). set (sets out at (take i (drop from h))) (at + i) x) (sym (get_or-drop from h i 0))
    ∙ ap (λ (k : ℕ). set (sets out at (take i (drop from h))) (at + k) (get_or (drop from h) i 0)) (sym w)
    ∙ sym (sets_append (take i (drop from h)) (get_or (drop from h) i 0 ∷ []) out at)
    ∙ ap (sets out at) (sym (take-suc (drop from h) i 0 (omega arith)) ∙ ap (λ (k : ℕ). take k (drop from h)) (sym y))

-- bytes_by
pub bytes-long : (g : ℕ → ℕ) (n : ℕ) → length (bytes_by g n) ≡ n
unfolding bytes_by
bytes-long g zero = refl
bytes-long g (suc n) = rw length-append (omega (arith, bytes-long g n))

pub bytes-at : (g : ℕ → ℕ) (n i : ℕ) → i < n → get_or (bytes_by g n) i 0 ≡ g i
unfolding bytes_by
bytes-at g zero i h = absurd (not-suc-le-zero h)
bytes-at g (suc n) i h =
    let w = bytes-long g n in
    elim (dec_lt i n) [
      | yes l ↦ get_or-append (bytes_by g n) (g n ∷ []) 0 i (omega arith) ∙ bytes-at g n i l
      | no l ↦ let z : i ≡ n = omega (arith, l) in get_or_at (bytes_by g n) (g n) [] 0 i (w ∙ sym z) ∙ ap g (sym z)
    ]

bytes-none : (g : ℕ → ℕ) → bytes_by g 0 ≡ []
unfolding bytes_by
bytes-none g = refl

bytes-part : (g : ℕ → ℕ) (m k from : ℕ) (s : List ℕ) → ((i : ℕ) → i < k → g (m + i) ≡ get_or s (from + i) 0) → from + k ≤ length s →
    bytes_by g (m + k) ≡ bytes_by g m ++ take k (drop from s)
unfolding bytes_by
bytes-part g m zero from s h l =
    let z : m + 0 ≡ m = omega arith in
    ap (bytes_by g) z ∙ sym (append-nil (bytes_by g m))
bytes-part g m (suc k) from s h l =
    let z : m + suc k ≡ suc (m + k) = omega arith in
    let n = length-drop from s in
    let a = bytes-part g m k from s (λ i q. h i (omega arith)) (omega arith) in
    let b : g (m + k) ≡ get_or (drop from s) k 0 = h k (omega arith) ∙ sym (get_or-drop from s k 0) in
    ap (bytes_by g) z ∙ ap (λ (x : List ℕ). x ++ (g (m + k) ∷ [])) a
    ∙ ap (λ (x : ℕ). (bytes_by g m ++ take k (drop from s)) ++ (x ∷ [])) b
    ∙ append_assoc (bytes_by g m) (take k (drop from s)) (get_or (drop from s) k 0 ∷ [])
    ∙ ap (λ (x : List ℕ). bytes_by g m ++ x) (sym (take-suc (drop from s) k 0 (omega arith)))

-- a piece more
bytes-more : (g : ℕ → ℕ) (m k from : ℕ) (s out o u : List ℕ) → o ≡ sets out 0 (bytes_by g m) → u ≡ sets o m (take k (drop from s)) →
    ((i : ℕ) → i < k → g (m + i) ≡ get_or s (from + i) 0) → from + k ≤ length s → u ≡ sets out 0 (bytes_by g (m + k))
bytes-more g m k from s out o u e f h l =
    let z : m ≡ 0 + length (bytes_by g m) = omega (arith, bytes-long g m) in
    f ∙ ap (λ (x : List ℕ). sets x m (take k (drop from s))) e
    ∙ ap (λ (x : ℕ). sets (sets out 0 (bytes_by g m)) x (take k (drop from s))) z
    ∙ sym (sets_append (bytes_by g m) (take k (drop from s)) out 0) ∙ ap (sets out 0) (sym (bytes-part g m k from s h l))

-- all of n bytes of row r lie in the head s, and those passed are copied to the front of `out`
abbrev pub CopiedTo : List ℕ → List ℕ → List ℕ → ℕ → ℕ → ℕ → List ℕ → ℕ → List ℕ → Type 0
CopiedTo t v s r p n out done o =
    (m : ℕ) → Sourced t v m → r < m → p + n ≤ length_sum t r → ((i : ℕ) → i < n → place_of 8 t v r (p + i) < length s) →
    o ≡ sets out 0 (bytes_of t v s r p done)

module _ (t v s out : List ℕ) (r p n : ℕ) where
  pub copied_none : CopiedTo t v s r p n out 0 out
  copied_none m w h l c = ap (sets out 0) (sym (bytes-none (λ i. get_or s (place_of 8 t v r (p + i)) 0)))

  -- the next piece
  module _ (done : ℕ) (o : List ℕ) (q : Piece) (more : done < n)
      (piece : (m : ℕ) → Sourced t v m → r < m → chained 8 t v r ≡ true → 0 < n - done → p + done + (n - done) ≤ length_sum t r →
      PieceIs (place_of 8 t v r) (p + done) (n - done) q) where
    next_piece : (m : ℕ) → Sourced t v m → r < m → p + n ≤ length_sum t r → PieceIs (place_of 8 t v r) (p + done) (n - done) q
    next_piece m w h l = piece m w h (w.ends r h) (omega arith) (omega arith)

    -- it lies in the head
    next_fits : (m : ℕ) → Sourced t v m → r < m → p + n ≤ length_sum t r → ((i : ℕ) → i < n → place_of 8 t v r (p + i) < length s) →
        q.from + q.size ≤ length s
    next_fits m w h l c =
        let x = next_piece m w h l in
        let b = x.0 in
        let d = x.1 in
        let e = x.2 (q.size - 1) (omega arith) in
        let z : p + (done + (q.size - 1)) ≡ p + done + (q.size - 1) = omega arith in
        let y = ap (place_of 8 t v r) z in
        let k = c (done + (q.size - 1)) (omega arith) in
        omega arith

    pub copied_empty : (u : List ℕ) → q.size ≡ 0 → CopiedTo t v s r p n out n u
    copied_empty u z m w h l c = absurd (omega (arith, (next_piece m w h l).0))

    pub copied_outside : (u : List ℕ) → length s < q.from + q.size → CopiedTo t v s r p n out n u
    copied_outside u z m w h l c = absurd (omega (arith, next_fits m w h l c))

    pub copied_more : (u : List ℕ) → CopiedTo t v s r p n out done o → u ≡ sets o done (take q.size (drop q.from s)) →
        CopiedTo t v s r p n out (done + q.size) u
    copied_more u a b m w h l c =
        let x = next_piece m w h l in
        bytes-more (λ i. get_or s (place_of 8 t v r (p + i)) 0) done q.size q.from s out o u (a m w h l c) b
        (λ i k. let z : p + (done + i) ≡ p + done + i = omega arith in
        ap (λ (j : ℕ). get_or s j 0) (ap (place_of 8 t v r) z ∙ x.2 i k)) (next_fits m w h l c)

  pub copied_all : (done : ℕ) (o : List ℕ) → done ≡ n → CopiedTo t v s r p n out done o → CopiedTo t v s r p n out n o
  copied_all done o e a = subst (λ (k : ℕ). CopiedTo t v s r p n out k o) e a
