-- The topmost of an overlay's inputs that covers a point, found from the last one down. Assumes nothing.
use Rattle.std.proofs.Common.{
  ◌≡◌,
  ℕ,
  zero,
  suc,
  ◌+◌,
  ◌-◌,
  ◌*◌,
  ◌<◌,
  ◌≤◌,
  true,
  false,
  eqb,
  ltb,
  ◌⊎◌,
  List,
  [],
  ◌∷◌,
  length,
  get_or,
  take,
  drop,
  sym,
  refl,
  ap,
  ◌∙◌,
  subst,
  inl,
  inr,
  arith,
  length-drop,
  length-take-le,
  get_or-drop,
  take_all,
  get_or-take,
  ext_get_or,
  le-ltb,
  lt-ltb,
}
use Rattle.std.specs.Prelude.{Some}
use Rattle.fields.specs.Choice.{pick}
use Rattle.fields.specs.Field.{be_at}
use Rattle.fields.proofs.FieldLaws.{pick_yes, pick_no}
use Rattle.fields.proofs.TestLaws.{both-and, and_none}
use Rattle.boxes.specs.Answer.{ok}
use Rattle.boxes.specs.Types.{iden, grid, iovl, derived, image}
use Rattle.forms.specs.Form.{whole}
use Rattle.contents.specs.Iinf.{Item}
use Rattle.contents.specs.File.{File}
use Rattle.pictures.specs.declared.Point.{Point}
use Rattle.pictures.specs.Turn.{point}
use Rattle.pictures.specs.declared.Overlay as overlays
use Rattle.pictures.specs.Recipe.{Recipe, Layers, Offset, Overlay, field_bytes, iovl_form}
use Rattle.pictures.specs.Scene.{Scene, picture_at, output_of}
use Rattle.pictures.specs.Trace.{blank, input, on_side, along_side, covers, layer_at, source_by, source_of}
use Rattle.pictures.specs.Trace as Trace
use Rattle.pictures.specs.inner.Told.{told_overlay}
use Rattle.pictures.proofs.OverlayLaws.{offset_at, overlay_bytes, told-overlay}
use Rattle.boxes.proofs.AnswerLaws.{ok_inj}
use Rattle.rules.specs.Joined.{targets_of, row_of, item_at, location_of}
use Rattle.rules.specs.Bytes.{body_of}
use Rattle.rules.specs.inner.Direct.{store_of, body_in}
use Rattle.rules.specs.Derivations.{layers_of, its_body, scene_of}
use Rattle.rules.proofs.SceneLaws.{recipe-ok}
use Rattle.views.specs.inner.View.{SizesAre, record_word, id_of}
use Rattle.views.proofs.LookupLaws.{row_listed}
use Rattle.views.proofs.TableLaws.{row_small}
use Rattle.derived.specs.inner.Told.{is_joined, body_or}
use Rattle.derived.proofs.InputLaws.{input-row}
use Rattle.derived.proofs.BodyLaws.{direct_read}
use Rattle.derived.proofs.RecipeLaws.{fed-body}
use Rattle.sizing.proofs.SizesLaws.{scene_many, scene_inputs, scene_input}
use Rattle.rules.proofs.DerivationLaws.{body-read}
use Rattle.pictures.proofs.GridLaws.{two_or_four}
use Rattle.tracing.specs.inner.Told.{Shown, OffsetsIn, told_source}
use Rattle.tracing.specs.declared.Source.{Source}
use Rattle.tracing.specs.declared.Source.TheVariants as source
use Rattle.tracing.proofs.SideLaws.{FarBy}
use Rattle.tracing.proofs.TileLaws.{derived-by}

-- layer_at: the last of the first inputs lies on top
layer_last : (s : Scene) (os : List Offset) (is : List ℕ) (k : ℕ) (p : Point) (b : Trace.Source) (d : Offset) → k < length os → k < length is
    → layer_at s (take (suc k) os) (take (suc k) is) p b ≡ pick
    (covers (get_or os k d) (output_of (picture_at s (get_or is k 0))) p)
    (input (get_or is k 0) (point (along_side (get_or os k d).right p.x) (along_side (get_or os k d).down p.y)))
    (layer_at s (take k os) (take k is) p b)
unfolding layer_at
layer_last s [] is k p b d h l = absurd (omega arith)
layer_last s (o ∷ os) [] k p b d h l = absurd (omega arith)
layer_last s (o ∷ os) (i ∷ is) zero p b d h l = refl
layer_last s (o ∷ os) (i ∷ is) (suc k) p b d h l = layer_last s os is k p _ d (omega arith) (omega arith)

-- where the offset of input k of n stands among their offsets, in numbers of w bytes
pub record OffsetAmong (w k long : ℕ) : Type 0 where
  pub far : 2 * w * k ≤ 16384
  pub room : 2 * w * k + 2 * w ≤ long

pub offset-among : (w k n long : ℕ) → (w ≡ 2) ⊎ (w ≡ 4) → k < n → n ≤ 2048 → 2 * w * n ≤ long → OffsetAmong w k long
offset-among w k n long (inl h) l few e =
    let a : 2 * w * k ≡ 4 * k = rw h in
    let b : 2 * w * n ≡ 4 * n = rw h in
    record { far = omega arith; room = omega arith }
offset-among w k n long (inr h) l few e =
    let a : 2 * w * k ≡ 8 * k = rw h in
    let b : 2 * w * n ≡ 8 * n = rw h in
    record { far = omega arith; room = omega arith }

-- the offsets of n inputs in numbers of w bytes, and what else o has
abbrev pub RoomFor : List ℕ → ℕ → ℕ → Type 0
RoomFor o n w = ((w ≡ 2) ⊎ (w ≡ 4)) × (n ≤ 2048) × (2 * w * n ≤ length o)

-- what lies on top of the first n inputs, whose offsets are os, lies on top of the first k of them
abbrev pub Below : Scene → List Offset → List ℕ → ℕ → Point → ℕ → Type 0
Below s os inputs n p k = layer_at s os (take n inputs) p blank ≡ layer_at s (take k os) (take k inputs) p blank

module _ (s : Scene) (os : List Offset) (inputs : List ℕ) (n : ℕ) (p : Point) where
  pub layers_all : length os ≡ n → Below s os inputs n p n
  layers_all many = rw (take_all n os (omega (arith, many)))

  pub layers_none : (k : ℕ) → k ≡ 0 → Below s os inputs n p k → source.Blank ≡ told_source (layer_at s os (take n inputs) p blank)
  unfolding layer_at told_source
  layers_none k z inv = let e : layer_at s (take k os) (take k inputs) p blank ≡ blank = rw z in sym (ap told_source (inv ∙ e))

-- the first n of a list of rows are inputs of a scene; o spells their offsets os in numbers of w bytes
module _ {t : List ℕ} {s : Scene} (v : SizesAre t s) (inputs o : List ℕ) (n w : ℕ) (room : n ≤ length inputs)
    (there : (k : ℕ) → k < n → get_or inputs k 0 < length s) (os : List Offset) (many : length os ≡ n) (spelled : OffsetsIn o w os) (p : Point) where
  -- input k
  module _ (m k : ℕ) (down : m ≡ suc k) (h : k < n) (inv : Below s os inputs n p m) where
    abbrev i : ℕ
    i = get_or inputs k 0

    abbrev here : Offset
    here = offset_at o w (2 * w * k)

    offset-here : get_or os k here ≡ here
    offset-here = spelled k (omega (arith, many)) here

    layers_next : layer_at s os (take n inputs) p blank ≡ pick (covers here (output_of (picture_at s i)) p)
        (input i (point (along_side here.right p.x) (along_side here.down p.y)))
        (layer_at s (take k os) (take k inputs) p blank)
    layers_next =
        inv
        ∙ ap (λ (m : ℕ). layer_at s (take m os) (take m inputs) p blank) down
        ∙ layer_last s os inputs k p blank here (omega (arith, many)) (omega arith)
        ∙ rw offset-here

    pub input-there : 256 ≤ i → ⊥
    input-there l = omega (arith, there k h, v.few)

    -- x, y: how far p lies from the input's left and upper edge
    module _ (x : ℕ) (fx : FarBy here.right p.x (get_or t (16 * i + 28) 0) x) where
      wide_is : get_or t (16 * i + 28) 0 ≡ (output_of (picture_at s i)).wide
      wide_is = let z : 16 * i + 28 ≡ 16 + 16 * i + 12 = omega arith in ap (λ (a : ℕ). get_or t a 0) z ∙ v.output-wide i (there k h)

      on_x : on_side here.right p.x (output_of (picture_at s i)).wide ≡ ltb x (get_or t (16 * i + 28) 0)
      on_x = rw (← wide_is) fx.0

      pub layers_off_x : get_or t (16 * i + 28) 0 ≤ x → Below s os inputs n p k
      layers_off_x l = layers_next ∙ pick_no _ _ (rw (on_x, le-ltb x _ l))

      module _ (y : ℕ) (fy : FarBy here.down p.y (get_or t (16 * i + 28 + 1) 0) y) where
        high_is : get_or t (16 * i + 28 + 1) 0 ≡ (output_of (picture_at s i)).high
        high_is = let z : 16 * i + 28 + 1 ≡ 16 + 16 * i + 13 = omega arith in ap (λ (a : ℕ). get_or t a 0) z ∙ v.output-high i (there k h)

        on_y : on_side here.down p.y (output_of (picture_at s i)).high ≡ ltb y (get_or t (16 * i + 28 + 1) 0)
        on_y = rw (← high_is) fy.0

        pub layers_off_y : get_or t (16 * i + 28 + 1) 0 ≤ y → Below s os inputs n p k
        layers_off_y l = layers_next ∙ pick_no _ _
            (and_none (on_side here.right p.x (output_of (picture_at s i)).wide) _ (on_y ∙ le-ltb y _ l))

        pub layers_on : x < get_or t (16 * i + 28) 0 → y < get_or t (16 * i + 28 + 1) 0 →
            source.Input (record { 0 = i }) (point x y) ≡ told_source (layer_at s os (take n inputs) p blank)
        unfolding told_source
        layers_on lx ly =
            let z : point (along_side here.right p.x) (along_side here.down p.y) ≡ point x y = rw (fx.1 lx, fy.1 ly) in
            let c = both-and _ _ (on_x ∙ lt-ltb x _ lx) (on_y ∙ lt-ltb y _ ly) in
            sym (ap told_source (layers_next ∙ pick_yes _ _ c ∙ ap (input i) z))

-- a list from `first` on
module _ (rows : List ℕ) (first : ℕ) where
  abbrev pub rest : List ℕ
  rest = take (length rows - first) (drop first rows)

  pub rest-is : rest ≡ drop first rows
  rest-is = take_all (length rows - first) (drop first rows) (rw length-drop (omega arith))

  pub rest-long : (n : ℕ) → first + n ≤ length rows → n ≤ length rest
  rest-long n l = rw (rest-is, length-drop) (omega arith)

-- Shown: an overlay in row r, its inputs being named from `first` on
module _ {t rows head : List ℕ} {total : ℕ} {f : File} (v : Shown t rows head total f) (r : ℕ) (h : r < length f.items)
    (n : ℕ) (c : n ≡ length (targets_of f (id_of f r))) (first : ℕ) (ef : r < 256 → first ≡ record_word t r 5) where
  pub inputs-inside : first + n ≤ 2048
  inputs-inside = omega (arith, ef (row_small v.followed.view r h), v.followed.view.target_room r h, v.followed.view.bounded.few-targets)

  row_said : (k : ℕ) → k < n → get_or (rest rows first) k 0 ≡ row_of (get_or (targets_of f (id_of f r)) k 0) f.items
  row_said k l = input-row v.followed.view r h rows v.resolved k (omega arith) first _ ef
      (ap (λ (x : List ℕ). get_or x k 0) (rest-is rows first) ∙ get_or-drop first rows k 0)

  row-there : (k : ℕ) → k < n → get_or (rest rows first) k 0 < length (scene_of total head f)
  row-there k l = omega (
    arith,
    row_said k l,
    row_listed f.items (get_or (targets_of f (id_of f r)) k 0) (v.followed.view.sound.listed (id_of f r) k (omega arith)),
    scene_many total head f,
  )

  module _ (i : image (item_at f r).type ≡ true) where
    rows_are : take n (rest rows first) ≡ (picture_at (scene_of total head f) r).inputs
    rows_are =
        let l = length-take-le n (rest rows first) (rest-long rows first n (omega (arith, inputs-inside, v.followed.many))) in
        ext_get_or 0 (take n (rest rows first)) (picture_at (scene_of total head f) r).inputs (omega (arith, l, scene_inputs total head f r i))
        (λ k b. get_or-take n (rest rows first) k 0 (omega arith) ∙ row_said k (omega arith) ∙ sym (scene_input total head f r i k (omega arith)))

    pub layers_shown : (p : Point) (o : Overlay) (x : Source) → ((s : Scene) → SizesAre t s →
        ((k : ℕ) → k < n → get_or (rest rows first) k 0 < length s) →
        x ≡ told_source (layer_at s o.offsets (take n (rest rows first)) p blank))
        → x ≡ told_source (layer_at (scene_of total head f) o.offsets (picture_at (scene_of total head f) r).inputs p blank)
    layers_shown p o x g =
        g (scene_of total head f) v.sizes row-there ∙
        ap (λ (is : List ℕ). told_source (layer_at (scene_of total head f) o.offsets is p blank)) rows_are

-- what read_overlay says of the body of an overlay of n inputs, in numbers of w bytes
abbrev pub Body : List ℕ → ℕ → ℕ → Type 0
Body b n w = ((w ≡ 2) ⊎ (w ≡ 4)) × (length b ≡ 10 + 2 * w + 2 * w * n) × (w ≡ field_bytes (be_at b 1 1))

pub overlay_read : (b : List ℕ) (n : ℕ) (r : overlays.Overlay) → Some r ≡ told_overlay b (whole (iovl_form n) 0 b) → Body b n r.bytes
overlay_read b n r e =
    let o = told-overlay b _ r (sym e) in
    let x = overlay_bytes 0 b n o.overlay o.is in
    subst (Body b n) o.bytes (two_or_four (be_at b 1 1), x.0, refl)

-- layers_of
module _ (total : ℕ) (head : List ℕ) (f : File) (item : Item) (r : Recipe) (b : List ℕ) (body : its_body total head f item ≡ ok b) where
  layers_read : layers_of total head f item ≡ ok r → (o : Overlay) ×
      (whole (iovl_form (length (targets_of f item.id))) 0 b ≡ ok o) × (r ≡ Layers o)
  unfolding layers_of
  layers_read m =
      let x = body-read _ _ 17 _ _ Layers r m in
      let e : x.0 ≡ b = ok_inj x.0 b (sym x.1 ∙ body) in
      (x.2, rw (← e) x.3, sym x.5)

-- Shown: an `iovl` item of n inputs
module _ {t rows head : List ℕ} {total : ℕ} {f : File} (v : Shown t rows head total f) (r : ℕ) (h : r < length f.items)
    (e : (item_at f r).type ≡ iovl) (n : ℕ) (c : n ≡ length (targets_of f (id_of f r))) where
  -- it has a body
  layers_body : (b : List ℕ) × (body_of total head f (id_of f r) ≡ ok b)
  layers_body = fed-body total head f (item_at f r) (ap derived e) (v.fed r h)

  layers_kept : (b : List ℕ) → body_of total head f (id_of f r) ≡ ok b →
      (o : Overlay) × (whole (iovl_form n) 0 b ≡ ok o) × ((picture_at (scene_of total head f) r).recipe ≡ Layers o)
  layers_kept b body =
      let x = recipe-ok total head f r (ap image e) (v.fed r h) in
      let m = derived-by total head f (item_at f r) x.0 x.1 (ap derived e) in
      let l = sym (pick_no _ _ (ap (λ (k : ℕ). eqb k iden) e) ∙ pick_no _ _ (ap (λ (k : ℕ). eqb k grid) e)) ∙ m in
      rw (c, x.2) (layers_read total head f (item_at f r) x.0 b body l)

  pub layers_source : (p : Point) (x : Source) → ((b : List ℕ) → body_of total head f (id_of f r) ≡ ok b → (o : Overlay) →
      whole (iovl_form n) 0 b ≡ ok o → x ≡ told_source
      (layer_at (scene_of total head f) o.offsets (picture_at (scene_of total head f) r).inputs p blank)) →
      x ≡ told_source (source_of (scene_of total head f) r p)
  unfolding source_by
  layers_source p x g = let y = layers_body in let k = layers_kept y.0 y.1 in g y.0 y.1 k.0 k.1 ∙ rw k.2

  -- and where it is not joined, that is what is read
  pub layers_direct : is_joined (location_of f (id_of f r)) ≡ false → (b x : List ℕ) → body_of total head f (id_of f r) ≡ ok b →
      x ≡ body_or (body_in (store_of total head f (location_of f (id_of f r)).method) (location_of f (id_of f r))) → (o : Overlay) →
      whole (iovl_form n) 0 b ≡ ok o → whole (iovl_form n) 0 x ≡ ok o
  layers_direct j b x eb ex o eo =
      rw (ex, direct_read v.followed.view total r h (v.followed.placed r h) j b eb) eo
