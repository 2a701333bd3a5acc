-- Bodies that are joined: how long they are, which bytes they have, and whether all of them lie in the head. Assumes nothing.
use Prim.Native.Nat.{ℕ, ◌+◌, ◌≤◌, ◌<◌}
use native.Mathlib.Omega.{arith}
use mathlib.Core.Path.{◌≡◌, refl, sym, ap, subst, ◌∙◌}
use mathlib.Core.List.{List}
use mathlib.Core.Bool.{Bool, true, false}
use lib.ListN.{length, get_or, take, drop, length-drop}
use lib.Seq.{sets, length-take-le, get_or-take, get_or-drop, ext_get_or}
use lib.Dec.{ltb, leb}
use borrow.Author.Tests.{leb-false, ltb-true, not-true, eqb-false}
use Rattle.fields.specs.Choice.{pick}
use Rattle.fields.proofs.FieldLaws.{both}
use Rattle.boxes.specs.Answer.{Answer, ok, refuse}
use Rattle.boxes.proofs.AnswerLaws.{ok_inj, not-refused}
use Rattle.contents.specs.File.{File}
use Rattle.rules.specs.Joined.{no_extent, location_of, item_at}
use Rattle.rules.specs.Bytes.{length_of, body_of}
use Rattle.rules.proofs.ByteLaws.{body-long}
use Rattle.rules.proofs.PlacedLaws.{extents-each, placed_of}
use Rattle.records.specs.inner.Raw.{capped}
use Rattle.views.specs.inner.View.{id_of}
use Rattle.views.proofs.TableLaws.{row_small}
use Rattle.views.proofs.ViewLaws.{capped_same}
use Rattle.linking.specs.inner.Links.{first_extent, extents, size_at, made_of_items, every, length_sum}
use Rattle.linking.proofs.LinkLaws.{every-at}
use Rattle.linking.proofs.LiftLaws.{length_lift}
use Rattle.joining.specs.inner.Lies.{place_of, RunsAre, Sourced, bytes_by, bytes_of}
use Rattle.joining.proofs.CopyLaws.{bytes-long, bytes-at}
use Rattle.joining.proofs.FileLaws.{sourced, body_lift, body_too_long}
use Rattle.derived.specs.inner.Told.{Followed, RunsFor, HasBody}

-- capped
capped-over : (x : ℕ) → 16402 < capped x → 16402 < x
capped-over x =
    both (λ (c : ℕ). 16402 < c → 16402 < x) (leb x 18446744073709551615) _ _ (λ q h. h)
    (λ q h. let l = leb-false x 18446744073709551615 q in omega arith)

capped-few : (x : ℕ) → capped x ≤ 16402 → capped x ≡ x
capped-few x =
    both (λ (c : ℕ). c ≤ 16402 → c ≡ x) (leb x 18446744073709551615) _ _ (λ q h. refl) (λ q h. absurd (omega arith))

-- a body that is known to be one
known-body : (t : Bool) (x b : List ℕ) → pick t (ok x) (refuse 17 0) ≡ ok b → (t ≡ true) × (x ≡ b)
unfolding pick
known-body true x b e = (refl, ok_inj x b e)
known-body false x b e = not-refused b 17 0 (sym e)

module _ {t rows head : List ℕ} {total : ℕ} {f : File} (w : Followed t rows head total f) (r : ℕ) (h : r < length f.items) where
  abbrev id : ℕ
  id = id_of f r

  its_source : Sourced t rows (length f.items)
  its_source = sourced total head f w.small w.read w.placed w.view rows w.named

  its_body_lem : length_of f id ≤ 16402 → body_of total head f id ≡ pick (every (λ p. ltb (place_of 8 t rows r p) (length head)) (length_of f id))
      (ok (bytes_by (λ p. get_or head (place_of 8 t rows r p) 0) (length_of f id))) (refuse 17 0)
  its_body_lem = body_lift total head f w.small w.read w.placed w.view rows w.named r h

  -- how long it is, as the code tells
  pub size-told : (n : ℕ) → (11280 ≤ length t → r < 256 → first_extent t r + extents t r ≤ 512 → n ≡ capped (length_sum t r)) →
      n ≡ capped (length_of f id)
  size-told n e =
      e w.view.enough (row_small w.view r h) (omega (arith, w.view.extent-count r h, w.view.extent-room r h))
      ∙ ap capped (length_lift w.view r h)

  -- whether it can be read
  pub held-over : (n : ℕ) → n ≡ capped (length_of f id) → 16402 < n → HasBody total head f id false
  held-over n e l = (17, id, body_too_long total head f id (capped-over (length_of f id) (omega arith)))

  abbrev HeldIs : ℕ → List ℕ → Bool → Type 0
  HeldIs n runs b =
      (m : ℕ) (v : List ℕ) → 11280 ≤ length t → Sourced t v m → r < m → n ≡ length_sum t r → n ≤ 16402 →
      ((j : ℕ) → j < extents t r → 0 < size_at t (first_extent t r + j)) →
      (made_of_items t r ≡ true → RunsAre t v (length head) m runs) → b ≡ every (λ p. ltb (place_of 8 t v r p) (length head)) n

  sizes-some : (j : ℕ) → j < extents t r → 0 < size_at t (first_extent t r + j)
  sizes-some j l =
      let k = subst (λ (m : ℕ). j < m) (w.view.extent-count r h) l in
      let g = (placed_of total head f (item_at f r) (w.placed r h)).lengths in
      let z = eqb-false (get_or (location_of f id).extents j no_extent).size 0 (not-true _ (extents-each _ (location_of f id).extents g j k)) in
      omega (arith, z, w.view.extent-size r j h k)

  has_told : (m : Answer (List ℕ)) (b : Bool) (x : List ℕ) → body_of total head f id ≡ pick b (ok x) (refuse 17 0) → HasBody total head f id b
  unfolding pick
  has_told m true x e = λ q. (x, e)
  has_told m false x e = (17, 0, e)

  pub held-told : (n : ℕ) → n ≡ capped (length_of f id) → n ≤ 16402 → (runs : List ℕ) → RunsFor t rows (length head) f runs →
      (b : Bool) → HeldIs n runs b → HasBody total head f id b
  held-told n e l runs k b told =
      let z : n ≡ length_of f id = e ∙ capped-few (length_of f id) (omega arith) in
      let y = told (length f.items) rows w.view.enough its_source h (z ∙ sym (length_lift w.view r h)) l sizes-some (λ m. k r h m) in
      has_told (body_of total head f id) b _
      (its_body_lem (omega arith)
      ∙ ap (λ (a : Bool). pick a (ok (bytes_by (λ p. get_or head (place_of 8 t rows r p) 0) (length_of f id))) (refuse 17 0))
      (ap (every (λ p. ltb (place_of 8 t rows r p) (length head))) (sym z) ∙ sym y))

  -- a body b that there is
  module _ (b : List ℕ) (e : body_of total head f id ≡ ok b) where
    its_length : (length b ≡ length_of f id) × (length b ≤ 16402)
    its_length = body-long total head f id b e

    its_bytes : (every (λ p. ltb (place_of 8 t rows r p) (length head)) (length_of f id) ≡ true)
        × (bytes_by (λ p. get_or head (place_of 8 t rows r p) 0) (length_of f id) ≡ b)
    its_bytes = let l = its_length in known-body _ _ b (sym (its_body_lem (omega arith)) ∙ e)

    pub size-known : (n : ℕ) → n ≡ capped (length_of f id) → n ≡ length b
    size-known n z = let l = its_length in z ∙ capped_same (length_of f id) (omega arith) ∙ sym l.0

    -- n bytes of it from p on, as they are copied
    abbrev CopyIs : ℕ → ℕ → List ℕ → List ℕ → Type 0
    CopyIs p n o out =
        (m : ℕ) → 11280 ≤ length t → 2816 ≤ length rows → n ≤ length o → Sourced t rows m → r < m → p + n ≤ length_sum t r →
        ((i : ℕ) → i < n → place_of 8 t rows r (p + i) < length head) → out ≡ sets o 0 (bytes_of t rows head r p n)

    bytes_same : (p n : ℕ) → p + n ≤ length b → bytes_of t rows head r p n ≡ take n (drop p b)
    bytes_same p n l =
        let k = bytes-long (λ i. get_or head (place_of 8 t rows r (p + i)) 0) n in
        let d = length-drop p b in
        let c = length-take-le n (drop p b) (omega arith) in
        let y = its_length.0 in
        ext_get_or 0 _ _ (omega arith) (λ i q.
        bytes-at (λ i. get_or head (place_of 8 t rows r (p + i)) 0) n i (omega arith)
        ∙ sym (bytes-at (λ p. get_or head (place_of 8 t rows r p) 0) (length_of f id) (p + i) (omega arith))
        ∙ ap (λ (x : List ℕ). get_or x (p + i) 0) its_bytes.1
        ∙ sym (get_or-take n (drop p b) i 0 (omega arith) ∙ get_or-drop p b i 0))

    pub joined-part : (p n : ℕ) → p + n ≤ length b → (o out : List ℕ) → n ≤ length o → CopyIs p n o out → out ≡ sets o 0 (take n (drop p b))
    joined-part p n l o out k told =
        let y = its_length.0 in
        told (length f.items) w.view.enough w.many k its_source h (omega (arith, length_lift w.view r h))
        (λ i q. ltb-true _ _ (every-at _ (length_of f id) its_bytes.0 (p + i) (omega arith)))
        ∙ ap (sets o 0) (bytes_same p n l)
