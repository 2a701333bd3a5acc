-- The body of an item: at its one extent, or joined. Assumes nothing.
--   ReadAs m b    b is read in place of the body m, and says the same of a derivation: it is m, or there is none and b is no body either
use Prim.Native.Nat.{ℕ, zero, suc, ◌+◌, ◌<◌, ◌≤◌}
use native.Mathlib.Decide.{dec_lt}
use native.Mathlib.Omega.{arith}
use mathlib.Core.Path.{◌≡◌, refl, sym, ap, subst, ◌∙◌}
use mathlib.Core.List.{List, [], ◌∷◌}
use mathlib.Core.Bool.{Bool, true, false, ◌&&◌, not}
use mathlib.Core.Logic.{◌⊎◌, inl, inr}
use lib.ListN.{length, get_or, take, drop, length-drop}
use lib.Seq.{take-take, drop-drop, length-take-le}
use lib.Dec.{eqb, leb}
use borrow.Author.Tests.{leb-true, leb-false, le-leb, lt-leb, not-true, eqb-true, eqb-false, eq-eqb, ne_eqb}
use Rattle.fields.specs.Choice.{pick}
use Rattle.fields.proofs.FieldLaws.{both, pick_yes, pick_no}
use Rattle.fields.proofs.TestLaws.{untrue}
use Rattle.boxes.specs.Answer.{Answer, ok, refuse}
use Rattle.boxes.proofs.AnswerLaws.{ok-then, ok-check}
use Rattle.contents.specs.Iloc.{Extent, Location}
use Rattle.contents.specs.File.{File}
use Rattle.rules.specs.inner.Direct.{Store, store_of, body_by, body_in}
use Rattle.rules.specs.Bytes.{sizes_of, length_of, bytes_upto, body_of}
use Rattle.rules.specs.Joined.{no_extent, location_of, item_at}
use Rattle.rules.specs.Places.{Places, file_offset}
use Rattle.rules.specs.Rules.{rule13-30-14}
use Rattle.rules.proofs.ByteLaws.{one-body, within-other}
use Rattle.rules.proofs.PlacedLaws.{extents-each, placed_of}
use Rattle.records.specs.inner.Raw.{capped}
use Rattle.joining.proofs.FileLaws.{body_too_long}
use Rattle.views.specs.inner.View.{TableOf, record_word, id_of}
use Rattle.views.proofs.TableLaws.{row_small}
use Rattle.views.proofs.ViewLaws.{capped_same}
use Rattle.derived.specs.inner.Told.{is_joined, body_or}

-- a part of a front
take-front : (n k m : ℕ) (s : List ℕ) → k + n ≤ m → take n (drop k (take m s)) ≡ take n (drop k s)
take-front n zero m s h = take-take n m s (omega arith)
take-front n (suc k) zero s h = absurd (omega arith)
take-front n (suc k) (suc m) [] h = refl
take-front n (suc k) (suc m) (x ∷ s) h = take-front n k m s (omega arith)

-- capped
capped_large : (x : ℕ) → 18446744073709551616 ≤ x → capped x ≡ 18446744073709551615
capped_large x h = pick_no x 18446744073709551615 (lt-leb x 18446744073709551615 (omega arith))

-- body_by
abbrev body_from : Store → ℕ → Extent → List ℕ
body_from st base e = body_or (pick (leb (base + e.offset + e.size) (length st.known))
    (ok (take e.size (drop (base + e.offset) st.known))) (refuse 17 0))

body-one : (st : Store) (base : ℕ) (es : List Extent) → length es ≡ 1 → body_or (body_by st base es) ≡ body_from st base (get_or es 0 no_extent)
unfolding body_by
body-one st base [] e = absurd (omega arith)
body-one st base (x ∷ []) e = refl
body-one st base (x ∷ y ∷ ys) e = absurd (omega arith)

-- what the head holds at an offset, nothing where it does not hold it
pub record HeldAt (head : List ℕ) (at n : ℕ) (b : List ℕ) : Type 0 where
  pub inside : at + n ≤ length head → b ≡ take n (drop at head)
  pub outside : length head < at + n → b ≡ []

module _ (total : ℕ) (head : List ℕ) (f : File) (pl : Places) (room : pl.idat + length f.idat ≤ length head)
    (part : take (length f.idat) (drop pl.idat head) ≡ f.idat) (small : length head < 18446744073709551616) where
  -- counted from the file's start
  file-body : (base : ℕ) (e : Extent) (b : List ℕ) → (e.size ≡ 0 → ⊥) →
      HeldAt head (capped (0 + (base + e.offset))) e.size b →
      b ≡ body_from (record { size = total; known = head }) base e
  unfolding body_or
  file-body base e b some w =
      both (λ (m : Answer (List ℕ)). b ≡ body_or m) (leb (base + e.offset + e.size) (length head)) _ _
      (λ q.
      let l : base + e.offset + e.size ≤ length head = leb-true _ _ q in
      let i : 0 + (base + e.offset) ≡ base + e.offset = omega arith in
      let c = capped_same (0 + (base + e.offset)) (omega arith) in
      w.inside (omega arith) ∙ rw (c, i))
      (λ q.
      let l : length head < base + e.offset + e.size = leb-false _ _ q in
      w.outside (elim (dec_lt (0 + (base + e.offset)) 18446744073709551616) [
        | yes y ↦ omega (arith, capped_same (0 + (base + e.offset)) y)
        | no y ↦ omega (arith, some, capped_large (0 + (base + e.offset)) (omega (arith, y)))
      ]))

  -- counted from the content of `idat`
  idat-body : (base : ℕ) (e : Extent) (b : List ℕ) → base + e.offset + e.size ≤ length f.idat →
      HeldAt head (capped (pl.idat + (base + e.offset))) e.size b
      → b ≡ body_from (record { size = length f.idat; known = f.idat }) base e
  unfolding body_or
  idat-body base e b l w =
      let c = capped_same (pl.idat + (base + e.offset)) (omega arith) in
      w.inside (omega arith)
      ∙ ap (λ (i : ℕ). take e.size (drop i head)) c
      ∙ ap (take e.size) (sym (drop-drop (base + e.offset) pl.idat head))
      ∙ sym (take-front e.size (base + e.offset) (length f.idat) (drop pl.idat head) l)
      ∙ ap (λ (s : List ℕ). take e.size (drop (base + e.offset) s)) part
      ∙ sym (ap body_or (pick_yes _ (refuse 17 0) (le-leb (base + e.offset + e.size) (length f.idat) l)))

  extent-body : (l : Location) (e : Extent) (b : List ℕ) → (e.size ≡ 0 → ⊥) → l.base + e.offset + e.size ≤ (store_of total head f l.method).size
      → HeldAt head (capped (file_offset pl l e)) e.size b → b ≡ body_from (store_of total head f l.method) l.base e
  unfolding file_offset pick
  extent-body l e b some = by (eqb l.method 1)
    where
      by : (t : Bool) → l.base + e.offset + e.size ≤ (pick {A = Store} t
          (record { size = length f.idat; known = f.idat }) (record { size = total; known = head })).size
          → HeldAt head (capped (pick t pl.idat 0 + (l.base + e.offset))) e.size b
          → b ≡ body_from (pick {A = Store} t (record { size = length f.idat; known = f.idat }) (record { size = total; known = head })) l.base e
      by true h w = idat-body l.base e b h w
      by false h w = file-body l.base e b some w

-- the extents of the item in a row
pub extents_counted : {t head : List ℕ} {pl : Places} {f : File} → TableOf t head pl f → (r : ℕ) →
    r < length f.items → (n : ℕ) → (r < 256 → n ≡ record_word t r 8) → n ≡ length (location_of f (id_of f r)).extents
extents_counted v r h n e = e (row_small v r h) ∙ v.extent-count r h

-- is_joined
pub joined-many : (l : Location) (n : ℕ) → n ≡ length l.extents → (n ≡ 1 → ⊥) → true ≡ is_joined l
joined-many l n e o = rw (ne_eqb (length l.extents) 1 (λ q. o (e ∙ q))) refl

pub joined_made : (l : Location) (n : ℕ) → n ≡ length l.extents → n ≡ 1 → (m : ℕ) → m ≡ l.method → eqb m 2 ≡ is_joined l
joined_made l n e o m q = rw (eq-eqb (length l.extents) 1 (sym e ∙ o), q) (by (eqb l.method 2))
  where
    by : (b : Bool) → b ≡ not (true && not b)
    by true = refl
    by false = refl

pub direct_one : (l : Location) → is_joined l ≡ false → (length l.extents ≡ 1) × (eqb l.method 2 ≡ false)
direct_one l e = by (eqb (length l.extents) 1) refl (eqb l.method 2) refl e
  where
    by : (a : Bool) → eqb (length l.extents) 1 ≡ a → (b : Bool) → eqb l.method 2 ≡ b → not (a && not b) ≡ false →
        (length l.extents ≡ 1) × (eqb l.method 2 ≡ false)
    by true x true y z = untrue (sym z)
    by true x false y z = (eqb-true _ 1 x, y)
    by false x b y z = untrue (sym z)

one-extent_of : (es : List Extent) → length es ≡ 1 → es ≡ get_or es 0 no_extent ∷ []
one-extent_of [] e = absurd (omega arith)
one-extent_of (x ∷ []) e = refl
one-extent_of (x ∷ y ∷ ys) e = absurd (omega arith)

one_size : (es : List Extent) (e : Extent) → es ≡ e ∷ [] → sizes_of es ≡ e.size
unfolding sizes_of
one_size es e z = rw z (omega arith)

none-size : (es : List Extent) → length es ≡ 0 → sizes_of es ≡ 0
unfolding sizes_of
none-size [] e = refl
none-size (x ∷ xs) e = absurd (omega arith)

-- body_of: no extents, no bytes
pub body-none : (total : ℕ) (head : List ℕ) (f : File) (id : ℕ) → length (location_of f id).extents ≡ 0 → body_of total head f id ≡ ok []
unfolding bytes_upto
body-none total head f id z =
    let n = none-size (location_of f id).extents z in
    ok-then _ _ tt (ok-check 17 id _ (le-leb (length_of f id) 16402 (omega arith))) ∙ ap (bytes_upto total head f id) n

-- ReadAs
abbrev pub ReadAs : Answer (List ℕ) → List ℕ → Type 0
ReadAs (ok x) b = b ≡ x
ReadAs (refuse n p) b = (b ≡ []) ⊎ (16402 < length b)

read_or : (m : Answer (List ℕ)) → ReadAs m (body_or m)
unfolding body_or
read_or (ok x) = refl
read_or (refuse n p) = inl refl

-- a part that is too long is no body, held in the head or not
read-long : (s : List ℕ) (at n id : ℕ) → 16402 < n →
    ReadAs (refuse 17 id) (body_or (pick (leb (at + n) (length s)) (ok (take n (drop at s))) (refuse 17 0)))
unfolding body_or
read-long s at n id h =
    both (λ (m : Answer (List ℕ)). ReadAs (refuse 17 id) (body_or m)) (leb (at + n) (length s)) _ _
    (λ q. let l = leb-true (at + n) (length s) q in
    let z = length-take-le n (drop at s) (rw length-drop (omega arith)) in inr (omega arith))
    (λ q. inl refl)

-- body_in, for an item of one extent that 13, 30 and 14 pass
module _ {t head : List ℕ} {pl : Places} {f : File} (v : TableOf t head pl f) (total r : ℕ) (h : r < length f.items)
    (placed : rule13-30-14 total head f (item_at f r) ≡ ok tt) (direct : is_joined (location_of f (id_of f r)) ≡ false) where
  abbrev place : Location
  place = location_of f (id_of f r)

  abbrev store : Store
  store = store_of total head f place.method

  abbrev its : Extent
  its = get_or place.extents 0 no_extent

  its_one : length place.extents ≡ 1
  its_one = (direct_one place direct).0

  its_some : its.size ≡ 0 → ⊥
  its_some = eqb-false _ 0 (not-true _ (extents-each _ place.extents (placed_of total head f (item_at f r) placed).lengths 0 (omega (arith, its_one))))

  its_within : place.base + its.offset + its.size ≤ store.size
  its_within =
      let g = sym (within-other total head f (id_of f r) (direct_one place direct).1) ∙ (placed_of total head f (item_at f r) placed).inside in
      leb-true _ _ (extents-each (λ (e : Extent). leb (place.base + e.offset + e.size) store.size) place.extents g 0 (omega (arith, its_one)))

  pub body-here : length head < 18446744073709551616 → (size offset : ℕ)
      → (0 < length place.extents → (size ≡ its.size) × (offset ≡ capped (file_offset pl place its)))
      → (b : List ℕ) → (offset + size ≤ length head → b ≡ take size (drop offset head)) →
      (length head < offset + size → b ≡ []) → b ≡ body_or (body_in store place)
  body-here small size offset told b inside outside =
      let q = told (omega (arith, its_one)) in
      extent-body total head f pl v.sound.idat-room v.sound.idat-part small place its b its_some its_within
      (rw (← q.0, ← q.1) (record { inside = inside; outside = outside }))
      ∙ sym (body-one store place.base place.extents its_one)

  -- it is the body as document 02 has it, as far as there is one
  pub direct_body : ReadAs (body_of total head f (id_of f r)) (body_or (body_in store place))
  direct_body =
      let z = one-extent_of place.extents its_one in
      let o = (direct_one place direct).1 in
      elim (dec_lt 16402 its.size) [
        | yes l ↦ subst (λ (m : Answer (List ℕ)). ReadAs m (body_or (body_in store place)))
            (sym (body_too_long total head f (id_of f r) (let w = one_size place.extents its z in omega arith)))
            (rw (body-one store place.base place.extents its_one) (read-long store.known (place.base + its.offset) its.size (id_of f r) l))
        | no l ↦ subst (λ (m : Answer (List ℕ)). ReadAs m (body_or (body_in store place)))
            (sym (one-body total head f (id_of f r) its o z (omega (arith, its_some)) (omega (arith, l)))) (read_or (body_in store place))
      ]

  -- so that a body that there is, is the one that is read
  pub direct_read : (b : List ℕ) → body_of total head f (id_of f r) ≡ ok b → body_or (body_in store place) ≡ b
  direct_read b e = subst (λ (m : Answer (List ℕ)). ReadAs m (body_or (body_in store place))) e direct_body

  pub direct_as : (b : List ℕ) → b ≡ body_or (body_in store place) → ReadAs (body_of total head f (id_of f r)) b
  direct_as b e = subst (ReadAs (body_of total head f (id_of f r))) (sym e) direct_body
