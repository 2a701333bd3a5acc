-- What the body of a grid or an overlay says, whichever way it is read. Assumes nothing.
use Prim.Native.Nat.{ℕ, ◌+◌, ◌*◌, ◌≤◌, ◌<◌}
use native.Mathlib.Nat.{mul-le-mul_right}
use native.Mathlib.Omega.{arith}
use native.Mathlib.Decide.{dec_lt}
use mathlib.Core.Path.{◌≡◌, refl, sym, ap, subst, ◌∙◌}
use mathlib.Core.List.{List, []}
use mathlib.Core.Logic.{◌⊎◌, inl, inr}
use Rattle.std.specs.Prelude.{Option}
use lib.ListN.{length, get_or, take, drop, get_or-eq_default}
use lib.Seq.{sets, length-take-le, get_or-take, ext_get_or}
use Rattle.fields.specs.Field.{be_at}
use Rattle.fields.proofs.FieldLaws.{both}
use Rattle.boxes.specs.Answer.{Answer, ok, refuse, ◌>>=◌}
use Rattle.forms.specs.Form.{whole}
use Rattle.pictures.specs.Recipe.{field_bytes, grid_form, iovl_form}
use Rattle.pictures.specs.inner.Told.{told_grid, told_overlay}
use Rattle.pictures.specs.declared.Grid.{Grid}
use Rattle.pictures.specs.declared.Overlay.{Overlay}
use Rattle.pictures.proofs.RefusedLaws.{Refused}
use Rattle.pictures.proofs.GridLaws.{grid-length, grid_wrong}
use Rattle.pictures.proofs.OverlayLaws.{iovl-length, overlay_wrong}
use Rattle.records.proofs.SetsLaws.{sets_in, sets-above}
use Rattle.derived.specs.inner.Told.{grid_in, OverlayIs}
use Rattle.derived.proofs.BodyLaws.{ReadAs}

-- no bytes, and too many, are no body
bytes-few : (flags : ℕ) → (2 ≤ field_bytes flags) × (field_bytes flags ≤ 4)
bytes-few flags = both (λ (w : ℕ). (2 ≤ w) × (w ≤ 4)) _ 4 2 (λ q. (omega arith, omega arith)) (λ q. (omega arith, omega arith))

pub grid-long : (b : List ℕ) → 12 < length b → Refused (whole grid_form 0 b)
grid-long b h =
    let w = bytes-few (be_at b 1 1) in
    let l = w.1 in
    grid-length 0 b (field_bytes (be_at b 1 1)) refl (λ e. omega arith)

overlay-long : (n : ℕ) → n ≤ 2048 → (b : List ℕ) → 16402 < length b → Refused (whole (iovl_form n) 0 b)
overlay-long n few b h =
    let w = bytes-few (be_at b 1 1) in
    let l = w.1 in
    let k = mul-le-mul_right {m = 2 * field_bytes (be_at b 1 1)} {n = 8} n (omega arith) in
    iovl-length 0 b n (field_bytes (be_at b 1 1)) refl (λ e. omega arith)

grid-none : (b : List ℕ) → (b ≡ []) ⊎ (16402 < length b) → Refused (whole grid_form 0 b)
grid-none b (inl e) = let z = ap (λ (x : List ℕ). length x) e in grid-length 0 b (field_bytes (be_at b 1 1)) refl (λ q. omega arith)
grid-none b (inr h) = grid-long b (omega arith)

overlay-none : (n : ℕ) → n ≤ 2048 → (b : List ℕ) → (b ≡ []) ⊎ (16402 < length b) → Refused (whole (iovl_form n) 0 b)
overlay-none n few b (inl e) =
    let z = ap (λ (x : List ℕ). length x) e in iovl-length 0 b n (field_bytes (be_at b 1 1)) refl (λ q. omega arith)
overlay-none n few b (inr h) = overlay-long n few b h

-- of a body m that is read as b
pub grid_as : (m : Answer (List ℕ)) (b : List ℕ) → ReadAs m b → (r : Option Grid) → r ≡ told_grid (whole grid_form 0 b) → r ≡ told_grid (grid_in m)
unfolding ◌>>=◌ told_grid
grid_as (ok x) b e r q = q ∙ ap (λ (s : List ℕ). told_grid (whole grid_form 0 s)) e
grid_as (refuse n p) b e r q = q ∙ grid_wrong _ (grid-none b e)

pub overlay_as : (n : ℕ) → n ≤ 2048 → (m : Answer (List ℕ)) (b : List ℕ) → ReadAs m b → (r : Option Overlay) →
    r ≡ told_overlay b (whole (iovl_form n) 0 b) → OverlayIs m n r
overlay_as n few (ok x) b e r q = q ∙ ap (λ (s : List ℕ). told_overlay s (whole (iovl_form n) 0 s)) e
overlay_as n few (refuse k p) b e r q = q ∙ overlay_wrong b _ (overlay-none n few b e)

-- of a body that there is
pub grid-known : (m : Answer (List ℕ)) (b : List ℕ) → m ≡ ok b → (r : Option Grid) → r ≡ told_grid (whole grid_form 0 b) → r ≡ told_grid (grid_in m)
unfolding ◌>>=◌
grid-known m b e r q = q ∙ sym (ap (λ (x : Answer (List ℕ)). told_grid (grid_in x)) e)

pub overlay-known : (n : ℕ) (m : Answer (List ℕ)) (b : List ℕ) → m ≡ ok b → (r : Option Overlay) →
    r ≡ told_overlay b (whole (iovl_form n) 0 b) → OverlayIs m n r
overlay-known n m b e r q = subst (λ (x : Answer (List ℕ)). OverlayIs x n r) (sym e) q

-- FrontIs: n bytes are copied, all or 18, and zeros stand behind them
pub front-is : (b zeros out : List ℕ) (n : ℕ) → length zeros ≡ 18 → ((i : ℕ) → i < 18 → get_or zeros i 0 ≡ 0) → n ≤ length b → n ≤ 18 →
    (n < length b → n ≡ 18) → out ≡ sets zeros 0 (take n (drop 0 b)) → (i : ℕ) → i < 18 → get_or out i 0 ≡ get_or b i 0
front-is b zeros out n long none l few all e i h =
    let k = length-take-le n b l in
    elim (dec_lt i n) [
      | yes q ↦ let z : 0 + i ≡ i = omega arith in
          ap (λ (x : List ℕ). get_or x i 0) e
          ∙ ap (λ (j : ℕ). get_or (sets zeros 0 (take n b)) j 0) (sym z)
          ∙ sets_in (take n b) zeros 0 i (omega arith) (omega arith) ∙ get_or-take n b i 0 q
      | no q ↦ ap (λ (x : List ℕ). get_or x i 0) e ∙ sets-above (take n b) zeros 0 i (omega (arith, q)) ∙ none i h
          ∙ sym (get_or-eq_default b 0 {n = i} (omega (arith, q, front-end n (length b) i all (omega (arith, q)) h)))
    ]
  where
    front-end : (n m i : ℕ) → (n < m → n ≡ 18) → n ≤ i → i < 18 → m ≤ n
    front-end n m i all l h = elim (dec_lt n m) [ yes q ↦ absurd (omega (arith, all q)) | no q ↦ omega (arith, q) ]

-- and a whole body is the front of it
pub front-whole : (b bytes : List ℕ) (n : ℕ) → length bytes ≡ 18 → n ≡ length b → n ≤ 12 → ((i : ℕ) → i < 18 → get_or bytes i 0 ≡ get_or b i 0) →
    take n bytes ≡ b
front-whole b bytes n long e few same =
    let k = length-take-le n bytes (omega arith) in
    ext_get_or 0 (take n bytes) b (omega arith) (λ i q. get_or-take n bytes i 0 (omega arith) ∙ same i (omega arith))
