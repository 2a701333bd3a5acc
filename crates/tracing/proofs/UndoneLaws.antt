-- Undoing an item's transforms, box by box. Assumes nothing.
--   LeadsBack ts s p r    undoing ts from a pixel p of the output leads to r
use Rattle.std.proofs.Common.{
  ◌≡◌,
  ℕ,
  zero,
  suc,
  ◌+◌,
  ◌<◌,
  ◌≤◌,
  true,
  false,
  List,
  [],
  ◌∷◌,
  map,
  length,
  get_or,
  drop,
  sym,
  refl,
  ap,
  ◌∙◌,
  subst,
  arith,
  length-drop,
  drop_of_length-le,
  get_or-drop,
  drop-drop,
}
use Rattle.fields.proofs.FieldLaws.{pick_yes, pick_no, both}
use Rattle.boxes.specs.Box.{kind_of, body_of}
use Rattle.contents.specs.File.{File}
use Rattle.pictures.specs.declared.Size.{Size}
use Rattle.pictures.specs.declared.Point.{Point}
use Rattle.pictures.specs.declared.Turn.{Turn}
use Rattle.pictures.specs.Turn.{size_after, back, size_through, undone, Inside, Fits, AllFit}
use Rattle.pictures.specs.Decode.{transform, turn_of, turns_of}
use Rattle.pictures.specs.inner.Told.{LongAsAsked, turn_by}
use Rattle.pictures.proofs.TurnLaws.{inside-undone}
use Rattle.rules.specs.Joined.{associations_of, boxes_of, types_of}
use Rattle.rules.specs.Places.{Places}
use Rattle.views.specs.inner.View.{TableOf}
use Rattle.declared.proofs.NamedLaws.{boxes-many, types_many}
use Rattle.declared.proofs.SizeLaws.{boxes-left, kind_said, turn_read}
use Rattle.tracing.specs.inner.Told.{first_transform}

-- turns_of: the box b at the front
module _ (s : Size) (b : List ℕ) (bs : List (List ℕ)) where
  turns_turn : transform (kind_of b) ≡ true → turns_of s (b ∷ bs) ≡ turn_of s b ∷ turns_of (size_after (turn_of s b) s) bs
  unfolding turns_of
  turns_turn e = pick_yes _ _ e

  turns-other : transform (kind_of b) ≡ false → turns_of s (b ∷ bs) ≡ turns_of s bs
  unfolding turns_of
  turns-other e = pick_no _ _ e

-- undone
abbrev pub LeadsBack : List Turn → Size → Point → Point → Type 0
LeadsBack ts s p r = AllFit ts s → Inside (size_through ts s) p → r ≡ undone ts s p

back_none : (s : Size) (p : Point) → LeadsBack [] s p p
unfolding undone
back_none s p fit i = refl

back_turn : (t : Turn) (ts : List Turn) (s : Size) (p q r : Point) → LeadsBack ts (size_after t s) p q →
    (Fits t s → Inside (size_after t s) q → r ≡ back t s q) → LeadsBack (t ∷ ts) s p r
unfolding undone size_through
back_turn t ts s p q r h k fit i =
    let e = h fit.1 i in
    k fit.0 (subst (Inside (size_after t s)) (sym e) (inside-undone ts (size_after t s) p fit.1 i)) ∙ ap (back t s) e

-- past the last box
undone-none : (bs : List (List ℕ)) (j : ℕ) → length bs ≤ j → (s : Size) (p : Point) → LeadsBack (turns_of s (drop j bs)) s p p
unfolding turns_of
undone-none bs j h s p = subst (λ (l : List (List ℕ)). LeadsBack (turns_of s l) s p p) (sym (drop_of_length-le bs h)) (back_none s p)

-- first_transform
first_found : (ks : List ℕ) → first_transform ks < length ks → transform (get_or ks (first_transform ks) 0) ≡ true
unfolding first_transform
first_found [] h = absurd (omega arith)
first_found (k ∷ ks) h =
    both (λ (m : ℕ). m < suc (length ks) → transform (get_or (k ∷ ks) m 0) ≡ true) (transform k) 0 _
    (λ e h. e) (λ e (l : suc (first_transform ks) < suc (length ks)). first_found ks (omega arith)) h

-- turns_of: what stands before the first transform turns nothing
turns-first : (s : Size) (bs : List (List ℕ)) → turns_of s (drop (first_transform (map (λ (b : List ℕ). kind_of b) bs)) bs) ≡ turns_of s bs
unfolding first_transform
turns-first s [] = refl
turns-first s (b ∷ bs) =
    both (λ (m : ℕ). turns_of s (drop m (b ∷ bs)) ≡ turns_of s (b ∷ bs)) _ _ _
    (λ e. refl) (λ e. turns-first s bs ∙ sym (turns-other s b bs e))

drop-map : (j : ℕ) (bs : List (List ℕ)) → drop j (map (λ (b : List ℕ). kind_of b) bs) ≡ map (λ (b : List ℕ). kind_of b) (drop j bs)
drop-map zero bs = refl
drop-map (suc j) [] = refl
drop-map (suc j) (b ∷ bs) = drop-map j bs

-- m is where the first transform from the box with number j on stands
module _ (f : File) (id j m : ℕ) (e : m ≡ j + first_transform (drop j (types_of f id))) where
  pub turns_next : (s : Size) → turns_of s (drop m (boxes_of f id)) ≡ turns_of s (drop j (boxes_of f id))
  turns_next s =
      ap (λ (m : ℕ). turns_of s (drop m (boxes_of f id))) (e ∙ ap (λ (ks : List ℕ). j + first_transform ks) (drop-map j (boxes_of f id)))
      ∙ ap (turns_of s) (sym (drop-drop _ j (boxes_of f id)))
      ∙ turns-first s (drop j (boxes_of f id))

  pub next_some : (s : Size) (p q : Point) → LeadsBack (turns_of s (drop m (boxes_of f id))) s p q → LeadsBack (turns_of s (drop j (boxes_of f id))) s p q
  next_some s p q h = subst (λ (ts : List Turn). LeadsBack ts s p q) (turns_next s) h

  -- n is how many associations there are
  module _ (n : ℕ) (en : n ≡ length (associations_of f id)) where
    pub next_transform : m < n → transform (get_or (types_of f id) m 0) ≡ true
    next_transform h =
        ap (λ (m : ℕ). transform (get_or (types_of f id) m 0)) e
        ∙ ap transform (sym (get_or-drop j (types_of f id) _ 0))
        ∙ first_found (drop j (types_of f id)) (rw length-drop (omega (arith, types_many f id)))

    pub next_none : n ≤ m → (s : Size) (p : Point) → LeadsBack (turns_of s (drop j (boxes_of f id))) s p p
    next_none h s p =
        subst (λ (ts : List Turn). LeadsBack ts s p p) (turns_next s)
        (undone-none (boxes_of f id) m (omega (arith, boxes-many f id)) s p)

-- from the box with number j on, whose type is k; b is the box, c its content, and u what it does
module _ {t head : List ℕ} {pl : Places} {f : File} (v : TableOf t head pl f) (id j : ℕ) (l : j < length (associations_of f id))
    (k : ℕ) (e : k ≡ get_or (types_of f id) j 0) (s : Size) (b c : List ℕ) (eb : b ≡ get_or (boxes_of f id) j []) (ec : c ≡ body_of b)
    (u : Turn) (q : transform k ≡ true) (g : LongAsAsked k c → u ≡ turn_by s k c) where
  pub turns-read : turns_of s (drop j (boxes_of f id)) ≡ u ∷ turns_of (size_after u s) (drop (j + 1) (boxes_of f id))
  turns-read =
      ap (turns_of s) (boxes-left v id j l k e)
      ∙ turns_turn s _ _ (ap transform (sym (kind_said v id j l k e)) ∙ q)
      ∙ ap (λ (t : Turn). t ∷ turns_of (size_after t s) (drop (j + 1) (boxes_of f id))) (sym (turn_read v id j l k e b c eb ec s u q g))

  -- no other transform follows
  pub undone-one : (p r : Point) → LeadsBack (turns_of (size_after u s) (drop (j + 1) (boxes_of f id))) (size_after u s) p p →
      (Fits u s → Inside (size_after u s) p → r ≡ back u s p) → LeadsBack (turns_of s (drop j (boxes_of f id))) s p r
  undone-one p r h w =
      subst (λ (ts : List Turn). LeadsBack ts s p r) (sym turns-read)
      (back_turn u (turns_of (size_after u s) (drop (j + 1) (boxes_of f id))) s p p r h w)
