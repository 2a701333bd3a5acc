-- What the table with its resolved rows says of the scene, and rules 18 and 19 by its words. Assumes nothing.
use Prim.Native.Nat.{ℕ, suc, ◌+◌, ◌*◌, ◌<◌, ◌≤◌}
use native.Mathlib.Omega.{arith}
use mathlib.Core.Path.{◌≡◌, refl, sym, ap, ◌∙◌}
use mathlib.Core.List.{List, [], ◌∷◌, map}
use mathlib.Core.Bool.{Bool, true, false, ◌||◌}
use lib.ListN.{length, get_or, length-map}
use borrow.Author.Tests.{le-leb, lt-leb}
use Rattle.std.specs.Prelude.{Option, Some, None}
use Rattle.fields.specs.Lists.{All, member}
use Rattle.fields.proofs.FieldLaws.{pick_no}
use Rattle.fields.proofs.TestLaws.{untrue}
use Rattle.boxes.specs.Answer.{ok, check}
use Rattle.boxes.specs.Types.{coded, derived, image}
use Rattle.boxes.proofs.AnswerLaws.{bind_ok, then_ok, check-ok}
use Rattle.contents.specs.Iinf.{Item, ids_of}
use Rattle.contents.specs.File.{File}
use Rattle.pictures.specs.Scene.{Picture, Scene, picture_at}
use Rattle.pictures.specs.Depth.{derives_itself, depth}
use Rattle.pictures.proofs.DepthLaws.{shallow_no_loop, itself_derives}
use Rattle.rules.specs.Joined.{targets_of, row_of, item_at}
use Rattle.rules.specs.Places.{Places}
use Rattle.rules.specs.Derivations.{recipe_for, picture_of, scene_of}
use Rattle.rules.specs.Rules.{rule17, rule18, rule19}
use Rattle.rules.proofs.DerivationLaws.{nothing_in_lem, rule-17-ok}
use Rattle.rules.proofs.SceneLaws.{picture-at, inputs-at}
use Rattle.views.specs.inner.View.{TableOf, AllFed, record_word, id_of}
use Rattle.views.specs.inner.Told.{fault_of}
use Rattle.views.proofs.LookupLaws.{row_listed}
use Rattle.depths.specs.inner.Inputs.{InputsAre}
use Rattle.derived.specs.inner.Told.{Resolved}
use Rattle.sizing.specs.inner.Drawn.{Drawn}
use Rattle.fields.proofs.ListLaws.{map_at}

all_map : (P : ℕ → Type 0) (g : ℕ → ℕ) (l : List ℕ) → ((j : ℕ) → j < length l → P (g (get_or l j 0))) → All P (map g l)
all_map P g [] h = tt
all_map P g (x ∷ l) h = (h 0 (omega arith), all_map P g l (λ j k. h (suc j) (omega arith)))

-- the number that a test gives
abbrev pub fault_by : Bool → ℕ → Option ℕ
fault_by true n = Some n
fault_by false n = None

-- image
not-derived : (k : ℕ) → image k ≡ false → derived k ≡ false
not-derived k = no (coded k) (derived k)
  where
    no : (a b : Bool) → (a || b) ≡ false → b ≡ false
    no true b e = untrue (sym e)
    no false b e = e

module _ (total : ℕ) (head : List ℕ) (f : File) where
  abbrev s : Scene
  s = scene_of total head f

  pub scene_long : length s ≡ length f.items
  scene_long = length-map f.items (λ i. picture_of total head f i)

  -- rule 17: an item that is no image has no inputs
  opaque-fed : (i : Item) → rule17 total head f i ≡ ok tt → image i.type ≡ false → targets_of f i.id ≡ []
  unfolding rule17 recipe_for
  opaque-fed i e n =
      let x = bind_ok _ _ tt e in
      let y = rule-17-ok i.id (recipe_for total head f i) x.0 x.1 in
      let z = then_ok _ _ x.0 (sym (pick_no _ _ (not-derived i.type n)) ∙ y) in
      nothing_in_lem (targets_of f i.id) (check-ok 17 _ _ z.0 z.1)

  inputs_of_lem : AllFed total head f → (r : ℕ) → r < length f.items → (picture_at s r).inputs ≡ map (λ t. row_of t f.items) (targets_of f (id_of f r))
  unfolding picture_of
  inputs_of_lem fed r h = by (image (item_at f r).type) refl
    where
      by : (t : Bool) → image (item_at f r).type ≡ t → (picture_at s r).inputs ≡ map (λ t. row_of t f.items) (targets_of f (id_of f r))
      by true e = inputs-at total head f r e
      by false e = ap (λ (p : Picture). p.inputs) (picture-at total head f r ∙ pick_no _ _ e) ∙ rw (opaque-fed (item_at f r) (fed r h) e)

  -- the inputs of a picture are the rows of the item's targets
  module _ (fed : AllFed total head f) (r : ℕ) (h : r < length f.items) where
    inputs-count : length (picture_at s r).inputs ≡ length (targets_of f (id_of f r))
    inputs-count = rw (inputs_of_lem fed r h) (length-map (targets_of f (id_of f r)) (λ t. row_of t f.items))

    input-at : (j : ℕ) → j < length (targets_of f (id_of f r)) → get_or (picture_at s r).inputs j 0 ≡ row_of (get_or (targets_of f (id_of f r)) j 0) f.items
    input-at j l = rw (inputs_of_lem fed r h) (map_at (λ t. row_of t f.items) (targets_of f (id_of f r)) j l)

    inputs-inside : ((j : ℕ) → j < length (targets_of f (id_of f r)) →
        member (get_or (targets_of f (id_of f r)) j 0) (ids_of f.items) ≡ true) →
        All (λ (i : ℕ). i < length s) (picture_at s r).inputs
    inputs-inside listed =
        rw (inputs_of_lem fed r h)
        (all_map (λ (i : ℕ). i < length s) (λ t. row_of t f.items) (targets_of f (id_of f r)) (λ j l. rw scene_long (row_listed f.items _ (listed j l))))

  -- InputsAre
  pub inputs_are : (t rows : List ℕ) (pl : Places) → TableOf t head pl f → Resolved t rows f → AllFed total head f → InputsAre t rows s
  inputs_are t rows pl v resolved fed =
      record {
        few = rw scene_long v.bounded.few-items;
        room = λ r l. let h = rows_in r l in omega (arith, first r, v.target_room r h, inputs-count fed r h, v.bounded.few-targets);
        count = λ r l. let h = rows_in r l in ap (λ (k : ℕ). get_or t k 0) (omega arith) ∙ v.target-count r h ∙ sym (inputs-count fed r h);
        row = λ r j l m. let h = rows_in r l in
            let n : j < length (targets_of f (id_of f r)) = omega (arith, inputs-count fed r h) in
            ap (λ (k : ℕ). get_or rows (k + j) 0) (first r)
            ∙ resolved (record_word t r 5 + j) (omega (arith, v.target_room r h))
            ∙ ap (λ (x : ℕ). row_of x f.items) (v.target r j h n)
            ∙ sym (input-at fed r h j n);
        inside = λ r l. let h = rows_in r l in inputs-inside fed r h (v.sound.listed (id_of f r));
      }
    where
      rows_in : (r : ℕ) → r < length s → r < length f.items
      rows_in r l = omega (arith, scene_long)

      first : (r : ℕ) → get_or t (21 + 16 * r) 0 ≡ record_word t r 5
      first r = ap (λ (k : ℕ). get_or t k 0) (omega arith)

  -- a picture that is at most 16 deep is not derived from itself
  pub shallow_itself : (r : ℕ) → depth s r ≤ 16 → derives_itself s r ≡ false
  shallow_itself r l = by (derives_itself s r) refl
    where
      by : (b : Bool) → derives_itself s r ≡ b → derives_itself s r ≡ false
      by true e = absurd (shallow_no_loop s r l (itself_derives s r e))
      by false e = e

  -- rules 18 and 19, kept
  pub itself_kept : (r : ℕ) (i : Item) → derives_itself s r ≡ false → rule18 s r i ≡ ok tt
  unfolding rule18 check
  itself_kept r i e = rw e

  pub deep_kept : (r : ℕ) (i : Item) → depth s r ≤ 16 → rule19 s r i ≡ ok tt
  unfolding rule19 check
  deep_kept r i l = rw (le-leb (depth s r) 16 l)

  -- rules 18 and 19, by the words
  module _ {t rows : List ℕ} (d : Drawn t rows head total f) (r : ℕ) (h : r < length f.items) where
    pub deep_word : (w : ℕ) → w ≡ record_word t r 14 → w ≡ depth s r
    deep_word w e = e ∙ d.sizes.depths r (rw scene_long h)

    pub itself_shallow : (w : ℕ) → w ≡ record_word t r 14 → w ≤ 16 → None ≡ fault_of (rule18 s r (item_at f r))
    unfolding fault_of
    itself_shallow w e l = ap fault_of (sym (itself_kept r (item_at f r) (shallow_itself r (omega (arith, deep_word w e)))))

    pub itself_told : (b : Bool) → b ≡ derives_itself s r → fault_by b 18 ≡ fault_of (rule18 s r (item_at f r))
    unfolding rule18 check fault_of
    itself_told true e = rw (← e)
    itself_told false e = rw (← e)

    pub deep_shallow : (w : ℕ) → w ≡ record_word t r 14 → w ≤ 16 → None ≡ fault_of (rule19 s r (item_at f r))
    unfolding fault_of
    deep_shallow w e l = ap fault_of (sym (deep_kept r (item_at f r) (omega (arith, deep_word w e))))

    pub deep_over : (w : ℕ) → w ≡ record_word t r 14 → 16 < w → Some 19 ≡ fault_of (rule19 s r (item_at f r))
    unfolding rule19 check fault_of
    deep_over w e l = rw (lt-leb (depth s r) 16 (omega (arith, deep_word w e)))
