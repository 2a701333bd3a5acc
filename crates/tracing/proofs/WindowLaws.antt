-- The layers of an overlay window by window, from the last inputs down; which bytes of its body spell the offsets of a window. Assumes nothing.
use Rattle.std.proofs.Common.{
  ◌≡◌,
  ℕ,
  suc,
  ◌+◌,
  ◌-◌,
  ◌*◌,
  ◌/◌,
  ◌<◌,
  ◌≤◌,
  Bool,
  true,
  false,
  ◌⊎◌,
  List,
  [],
  ◌∷◌,
  ◌++◌,
  length,
  get_or,
  take,
  drop,
  sym,
  refl,
  ap,
  ◌∙◌,
  subst,
  inl,
  inr,
  ⊎_elim,
  mul-le-mul_left,
  mul-suc,
  mul-add,
  arith,
  length-drop,
  length-take-le,
  get_or-drop,
  take_all,
  get_or-take,
  take-add,
}
use lib.Seq.{sets, sets-eq, take-append_seam}
use Rattle.fields.specs.Field.{be_at}
use Rattle.fields.proofs.FieldLaws.{pick_yes, pick_no, be_take, be_drop}
use Rattle.boxes.specs.Answer.{ok}
use Rattle.forms.specs.Form.{whole}
use Rattle.forms.proofs.WholeLaws.{whole-sound}
use Rattle.pictures.specs.declared.Point.{Point}
use Rattle.pictures.specs.Turn.{point}
use Rattle.pictures.specs.Signed.{signed}
use Rattle.pictures.specs.Recipe.{Offset, Overlay, field_bytes, iovl_form}
use Rattle.pictures.specs.Scene.{Scene, picture_at, output_of}
use Rattle.pictures.specs.Trace.{blank, input, along_side, covers, layer_at}
use Rattle.pictures.specs.Trace as Trace
use Rattle.pictures.proofs.RecipeLaws.{iovl-offsets}
use Rattle.pictures.proofs.OverlayLaws.{offset_at, overlay_bytes, overlay-offset}
use Rattle.tracing.specs.inner.Told.{OffsetsIn, told_source}
use Rattle.tracing.specs.declared.Source.{Source}
use Rattle.tracing.specs.declared.Source.TheVariants as source
use Rattle.tracing.proofs.LayerLaws.{Below, rest, rest-is}

-- layer_at: the last part lies on top of the first
layer_append : (s : Scene) (os us : List Offset) (is js : List ℕ) (p : Point) (b : Trace.Source) → length os ≡ length is →
    layer_at s (os ++ us) (is ++ js) p b ≡ layer_at s us js p (layer_at s os is p b)
unfolding layer_at
layer_append s [] us [] js p b e = refl
layer_append s [] us (i ∷ is) js p b e = absurd (omega arith)
layer_append s (o ∷ os) us [] js p b e = absurd (omega arith)
layer_append s (o ∷ os) us (i ∷ is) js p b e = layer_append s os us is js p _ (omega arith)

-- the inputs cover p, whatever lies below, or show what lies below
abbrev Covers : Scene → List Offset → List ℕ → Point → Type 0
Covers s os is p = (i : ℕ) × (q : Point) × ((b : Trace.Source) → layer_at s os is p b ≡ input i q)

abbrev Shows : Scene → List Offset → List ℕ → Point → Type 0
Shows s os is p = (b : Trace.Source) → layer_at s os is p b ≡ b

cover_or_show : (s : Scene) (os : List Offset) (is : List ℕ) (p : Point) → Covers s os is p ⊎ Shows s os is p
unfolding layer_at
cover_or_show s [] is p = inr (λ b. refl)
cover_or_show s (o ∷ os) [] p = inr (λ b. refl)
cover_or_show s (o ∷ os) (i ∷ is) p =
    ⊎_elim (λ c. inl (c.0, c.1, λ b. c.2 _)) (λ h. by h (covers o (output_of (picture_at s i)) p) refl) (cover_or_show s os is p)
  where
    by : Shows s os is p → (c : Bool) → covers o (output_of (picture_at s i)) p ≡ c → Covers s (o ∷ os) (i ∷ is) p ⊎ Shows s (o ∷ os) (i ∷ is) p
    by h true e = inl (i, point (along_side o.right p.x) (along_side o.down p.y), λ b. h _ ∙ pick_yes _ _ e)
    by h false e = inr (λ b. h _ ∙ pick_no _ _ e)

-- the layer of a first part (os, is) and a last part (us, js) is that of the last part, if it covers, else that of the first part
module _ (s : Scene) (os us : List Offset) (is js : List ℕ) (p : Point) (e : length os ≡ length is) where
  pub last-covers : (x : Source) → x ≡ told_source (layer_at s us js p blank) → (x ≡ source.Blank → ⊥) →
      x ≡ told_source (layer_at s (os ++ us) (is ++ js) p blank)
  unfolding told_source
  last-covers x h l = ⊎_elim
      (λ c. h ∙ ap told_source (c.2 blank ∙ sym (layer_append s os us is js p blank e ∙ c.2 _)))
      (λ c. absurd (l (h ∙ ap told_source (c blank))))
      (cover_or_show s us js p)

  pub last-shows : source.Blank ≡ told_source (layer_at s us js p blank) → layer_at s (os ++ us) (is ++ js) p blank ≡ layer_at s os is p blank
  unfolding told_source
  last-shows h = ⊎_elim
      (λ c. let z : ◌≡◌ {A = Source} source.Blank (told_source (input c.0 c.1)) = h ∙ ap told_source (c.2 blank) in absurd (not-blank _ _ z))
      (λ c. layer_append s os us is js p blank e ∙ c _)
      (cover_or_show s us js p)
    where
      not-blank : (i : ℕ) (q : Point) → source.Blank ≡ told_source (input i q) → ⊥
      not-blank i q z = let z : ◌≡◌ {A = ℕ} 0 1 = cc in absurd (omega arith)

-- a window: m inputs from one on, which are the last that are not yet looked at
module _ (s : Scene) (os : List Offset) (inputs : List ℕ) (n : ℕ) (p : Point) (from m end : ℕ) (e : end ≡ from + m)
    (lo : end ≤ length os) (li : end ≤ length inputs) (inv : Below s os inputs n p end) where
  as_long : length (take from os) ≡ length (take from inputs)
  as_long = length-take-le from os (omega arith) ∙ sym (length-take-le from inputs (omega arith))

  in_parts : layer_at s os (take n inputs) p blank
      ≡ layer_at s (take from os ++ take m (drop from os)) (take from inputs ++ take m (drop from inputs)) p blank
  in_parts = inv ∙ ap (λ (k : ℕ). layer_at s (take k os) (take k inputs) p blank) e ∙ rw (take-add from m os, take-add from m inputs)

  pub window_covers : (x : Source) → x ≡ told_source (layer_at s (take m (drop from os)) (take m (drop from inputs)) p blank) →
      (x ≡ source.Blank → ⊥) → x ≡ told_source (layer_at s os (take n inputs) p blank)
  window_covers x h l =
      last-covers s (take from os) (take m (drop from os)) (take from inputs) (take m (drop from inputs)) p as_long x h l
      ∙ sym (ap told_source in_parts)

  pub window_shows : source.Blank ≡ told_source (layer_at s (take m (drop from os)) (take m (drop from inputs)) p blank) → Below s os inputs n p from
  window_shows h =
      in_parts ∙ last-shows s (take from os) (take m (drop from os)) (take from inputs) (take m (drop from inputs)) p as_long h

-- what is copied to the front of a list
front_copied : (o out x : List ℕ) (k : ℕ) → length x ≡ k → k ≤ length o → out ≡ sets o 0 x → take k out ≡ x
front_copied o out x k e l q =
    ap (take k) (q ∙ sets-eq x o 0 (omega arith))
    ∙ ap (λ (i : ℕ). take i (x ++ drop (0 + length x) o)) (sym e)
    ∙ take-append_seam x (drop (0 + length x) o)

-- the body b of an overlay of n inputs, in numbers of w bytes
module _ (b : List ℕ) (n w : ℕ) (v : Overlay) (e : whole (iovl_form n) 0 b ≡ ok v) (ew : w ≡ field_bytes (be_at b 1 1)) where
  pub offsets-many : length v.offsets ≡ n
  offsets-many = iovl-offsets n b v (whole-sound (iovl_form n) 0 b v e)

  offset_said : (k : ℕ) → k < n → (d : Offset) → get_or v.offsets k d ≡ offset_at b w (10 + 2 * w + 2 * w * k)
  offset_said k h d = rw ew (overlay-offset 0 b n v e k h d)

  -- o begins as the bytes of the body do that spell the offsets of a window
  module _ (o : List ℕ) (from m : ℕ) (inside : from + m ≤ n) (q : take (2 * w * m) o ≡ take (2 * w * m) (drop (10 + 2 * w + 2 * w * from) b)) where
    abbrev offset : ℕ → ℕ → Offset
    offset x y = record { right = signed w x; down = signed w y }

    number_same : (at : ℕ) → at + w ≤ 2 * w * m → be_at b (10 + 2 * w + 2 * w * from + at) w ≡ be_at o at w
    number_same at h =
        sym (be_drop b (10 + 2 * w + 2 * w * from) at w)
        ∙ sym (be_take (drop (10 + 2 * w + 2 * w * from) b) (2 * w * m) at w h)
        ∙ ap (λ (l : List ℕ). be_at l at w) (sym q)
        ∙ be_take o (2 * w * m) at w h

    offset-same : (k at : ℕ) → k < m → at ≡ 10 + 2 * w + 2 * w * from + 2 * w * k → offset_at b w at ≡ offset_at o w (2 * w * k)
    offset-same k at h z =
        let i : 2 * w * suc k ≤ 2 * w * m = mul-le-mul_left (2 * w) h in
        let j = mul-suc (2 * w) k in
        let y : at + w ≡ 10 + 2 * w + 2 * w * from + (2 * w * k + w) = omega arith in
        ap (λ (a : ℕ). offset a (be_at b (at + w) w)) (ap (λ (a : ℕ). be_at b a w) z ∙ number_same (2 * w * k) (omega arith))
        ∙ ap (offset (be_at o (2 * w * k) w)) (ap (λ (a : ℕ). be_at b a w) y ∙ number_same (2 * w * k + w) (omega arith))

    pub window_spelled : OffsetsIn o w (take m (drop from v.offsets))
    window_spelled k h d =
        let x = length-take-le m (drop from v.offsets) (rw length-drop (omega (arith, offsets-many))) in
        let z = mul-add (2 * w) from k in
        get_or-take m (drop from v.offsets) k d (omega arith)
        ∙ get_or-drop from v.offsets k d
        ∙ offset_said (from + k) (omega arith) d
        ∙ offset-same k _ (omega arith) (omega arith)

    -- what is told of these inputs by themselves
    pub window_told : (inputs : List ℕ) (s : Scene) (p : Point) (x : Source) →
        ((k : ℕ) → k < from + m → get_or inputs k 0 < length s) →
        (((k : ℕ) → k < m → get_or (rest inputs from) k 0 < length s) → (os : List Offset) → length os ≡ m → OffsetsIn o w os →
        x ≡ told_source (layer_at s os (take m (rest inputs from)) p blank)) →
        x ≡ told_source (layer_at s (take m (drop from v.offsets)) (take m (drop from inputs)) p blank)
    window_told inputs s p x there told =
        told (λ k l. rw (rest-is inputs from, get_or-drop from inputs k 0) (there (from + k) (omega arith))) (take m (drop from v.offsets))
        (length-take-le m (drop from v.offsets) (rw length-drop (omega (arith, offsets-many)))) window_spelled
        ∙ ap (λ (is : List ℕ). told_source (layer_at s (take m (drop from v.offsets)) (take m is) p blank)) (rest-is inputs from)

  -- the bytes of a window lie in the body
  pub window_inside : (from m : ℕ) → from + m ≤ n → 10 + 2 * w + 2 * w * from + 2 * w * m ≤ length b
  window_inside from m l =
      let x : length b ≡ 10 + 2 * w + 2 * w * n = rw ew (overlay_bytes 0 b n v e).0 in
      let y : 2 * w * (from + m) ≤ 2 * w * n = mul-le-mul_left (2 * w) l in
      let z = mul-add (2 * w) from m in
      omega arith

  -- and are those of what they are copied to
  pub window_copied : (o out : List ℕ) (from m : ℕ) → from + m ≤ n → 2 * w * m ≤ length o →
      out ≡ sets o 0 (take (2 * w * m) (drop (10 + 2 * w + 2 * w * from) b)) →
      take (2 * w * m) out ≡ take (2 * w * m) (drop (10 + 2 * w + 2 * w * from) b)
  window_copied o out from m l room q =
      let x = window_inside from m l in
      front_copied o out _ (2 * w * m) (length-take-le (2 * w * m) (drop (10 + 2 * w + 2 * w * from) b) (rw length-drop (omega arith))) room q

  -- all of them, where the body lies in one piece
  pub body_spelled : OffsetsIn (rest b (10 + 2 * w)) w v.offsets
  body_spelled =
      let z : 10 + 2 * w ≡ 10 + 2 * w + 2 * w * 0 = omega arith in
      subst (OffsetsIn (rest b (10 + 2 * w)) w) (take_all n v.offsets (omega (arith, offsets-many)))
      (window_spelled (rest b (10 + 2 * w)) 0 n (omega arith)
      (ap (take (2 * w * n)) (rest-is b (10 + 2 * w) ∙ ap (λ (a : ℕ). drop a b) z)))

-- where the window from `from` to `end` stands, in numbers of w bytes
pub record WindowAt (w from end : ℕ) : Type 0 where
  pub far : 2 * w * from ≤ 16384
  pub room : 2 * w * (end - from) ≤ 512

pub window_at : (w from end : ℕ) → (w ≡ 2) ⊎ (w ≡ 4) → from ≤ end → end ≤ 2048 → 2 * w * end ≤ 2 * w * from + 512 → WindowAt w from end
window_at w from end (inl h) l few e =
    let a : 2 * w * from ≡ 4 * from = rw h in
    let b : 2 * w * end ≡ 4 * end = rw h in
    let c : 2 * w * (end - from) ≡ 4 * (end - from) = rw h in
    record { far = omega arith; room = omega arith }
window_at w from end (inr h) l few e =
    let a : 2 * w * from ≡ 8 * from = rw h in
    let b : 2 * w * end ≡ 8 * end = rw h in
    let c : 2 * w * (end - from) ≡ 8 * (end - from) = rw h in
    record { far = omega arith; room = omega arith }

-- the next window below `end`
pub record WindowBelow (w from end : ℕ) : Type 0 where
  pub below : from < end
  pub room : 2 * w * end ≤ 2 * w * from + 512

pub window_below : (w from end : ℕ) → (w ≡ 2) ⊎ (w ≡ 4) → 0 < end →
    ((end < 512 / (2 * w)) × (from ≡ 0)) ⊎ ((512 / (2 * w) ≤ end) × (from ≡ end - 512 / (2 * w))) → WindowBelow w from end
window_below w from end (inl h) some q =
    let a : 2 * w * from ≡ 4 * from = rw h in
    let b : 2 * w * end ≡ 4 * end = rw h in
    let c : 512 / (2 * w) ≡ 128 = rw h in
    ⊎_elim (λ x. record { below = omega (arith, x.1); room = omega (arith, x.0, x.1) })
    (λ x. record { below = omega (arith, x.1); room = omega (arith, x.0, x.1) }) q
window_below w from end (inr h) some q =
    let a : 2 * w * from ≡ 8 * from = rw h in
    let b : 2 * w * end ≡ 8 * end = rw h in
    let c : 512 / (2 * w) ≡ 64 = rw h in
    ⊎_elim (λ x. record { below = omega (arith, x.1); room = omega (arith, x.0, x.1) })
    (λ x. record { below = omega (arith, x.1); room = omega (arith, x.0, x.1) }) q
