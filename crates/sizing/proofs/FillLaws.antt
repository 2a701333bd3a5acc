-- Sizes and depths put into the table: the words of one row, and the rows one after the other. Assumes nothing.
--   FilledRows head depths t k u    the table u is t, which is that of a file as it was read, with sizes and depths in the first k rows
use Prim.Native.Nat.{ℕ, ◌+◌, ◌*◌, ◌<◌}
use native.Mathlib.Numerals.{towards_suc}
use native.Mathlib.Omega.{arith}
use mathlib.Core.Path.{◌≡◌, refl, sym, ap, ◌∙◌, subst}
use mathlib.Core.List.{List, ◌++◌}
use mathlib.Core.Bool.{true, false}
use lib.ListN.{length, get_or, set, drop}
use lib.Seq.{sets}
use Rattle.fields.proofs.FieldLaws.{pick_yes, pick_no, both}
use Rattle.boxes.specs.Answer.{ok}
use Rattle.boxes.specs.Types.{image}
use Rattle.contents.specs.File.{File, read_file}
use Rattle.pictures.specs.declared.Size.{Size}
use Rattle.pictures.specs.declared.Turn.{Turn}
use Rattle.pictures.specs.Turn.{size, size_through}
use Rattle.pictures.specs.Decode.{turns_of}
use Rattle.pictures.specs.Scene.{picture_at, output_of}
use Rattle.pictures.specs.Depth.{depth}
use Rattle.rules.specs.Joined.{boxes_of, item_at}
use Rattle.rules.specs.Places.{Places, places_in}
use Rattle.rules.specs.Derivations.{declared_in, scene_of}
use Rattle.rules.specs.Words.{head_words, size_words, file_words}
use Rattle.rules.proofs.SceneLaws.{declared-at, turns_at}
use Rattle.records.specs.inner.Raw.{raw_of}
use Rattle.records.proofs.KeptLaws.{drop-sets}
use Rattle.views.specs.inner.View.{TableOf, Judging, AllPlaced, id_of}
use Rattle.views.proofs.FillLaws.{filled_to, filled_none, filled_next, filled-all, filled-view}
use Rattle.views.proofs.ViewLaws.{read_view, raw-judging}
use Rattle.sizing.specs.inner.Drawn.{sizes_for, sizes_in, ToldBefore}

-- sizes_for: five stores side by side
pub sizes-stored : (t : List ℕ) (a r : ℕ) (s o : Size) (d : ℕ) → a ≡ 16 + 16 * r
    → set (set (set (set (set t (a + 10) s.wide) (a + 10 + 1) s.high) (a + 10 + 2) o.wide) (a + 10 + 3)
    o.high) (a + 10 + 4) d ≡ sets t (26 + 16 * r) (sizes_for s o d)
unfolding sizes_for
sizes-stored t a r s o d e = let q : a + 10 ≡ 26 + 16 * r = omega arith in rw q (simp towards_suc)

-- sizes_in: what is put for an image item, and for an opaque one
module _ (f : File) (r d : ℕ) where
  pub sizes-drawn : (s o : Size) → image (item_at f r).type ≡ true → s ≡ declared_in (boxes_of f (id_of f r)) →
      o ≡ size_through (turns_of s (boxes_of f (id_of f r))) s → sizes_for s o d ≡ sizes_in f r d
  unfolding sizes_in
  sizes-drawn s o i es eo = rw (eo, es) (sym (pick_yes _ _ i))

  pub sizes-opaque : image (item_at f r).type ≡ false → sizes_for (size 0 0) (size 0 0) 0 ≡ sizes_in f r d
  unfolding sizes_in sizes_for
  sizes-opaque i = sym (pick_no _ _ i)

-- five words, none of them past the table
pub sizes-five : (f : File) (r d : ℕ) → length (sizes_in f r d) ≡ 5
unfolding sizes_in sizes_for
sizes-five f r d = both (λ (w : List ℕ). length w ≡ 5) (image (item_at f r).type) _ _ (λ i. refl) (λ i. refl)

pub sizes-past : (t u : List ℕ) (r : ℕ) (s o : Size) (d : ℕ) → r < 256 → u ≡ sets t (26 + 16 * r) (sizes_for s o d) → drop 11280 u ≡ drop 11280 t
unfolding sizes_for
sizes-past t u r s o d h e = ap (drop 11280) e ∙ drop-sets (sizes_for s o d) t (26 + 16 * r) 11280 (omega arith)

-- they are the words of an accepted file
pub sizes-words : (total : ℕ) (head : List ℕ) (f : File) (r d : ℕ) → d ≡ depth (scene_of total head f) r →
    sizes_in f r d ≡ size_words (scene_of total head f) r (item_at f r)
unfolding sizes_in sizes_for size_words output_of
sizes-words total head f r d e =
    let s = scene_of total head f in
    let p = picture_at s r in
    both (λ (w : List ℕ). sizes_in f r d ≡ w) (image (item_at f r).type) _ _
    (λ i.
    sym (sizes-drawn f r d p.declared (output_of p) i (declared-at total head f r i)
    (ap (λ (l : List Turn). size_through l p.declared) (turns_at total head f r i)))
    ∙ ap (sizes_for p.declared (output_of p)) e)
    (λ i. sym (sizes-opaque f r d i))

abbrev pub FilledRows : List ℕ → List ℕ → List ℕ → ℕ → List ℕ → Type 0
FilledRows head depths t k u =
    (total : ℕ) (f : File) (x : List ℕ) → read_file total head ≡ ok f → t ≡ raw_of (head_words total f) (places_in total head) f ++ x
    → ((r : ℕ) → r < length f.items → get_or depths r 0 ≡ depth (scene_of total head f) r) → u ≡ filled_to total head f k ++ x

-- a table as it was read is the file's
pub read_here : (total : ℕ) (head : List ℕ) (f : File) (x t : List ℕ) → read_file total head ≡ ok f →
    t ≡ raw_of (head_words total f) (places_in total head) f ++ x → TableOf t head (places_in total head) f
read_here total head f x t e q = subst (λ (w : List ℕ). TableOf w head (places_in total head) f) (sym q) (read_view total head f x e)

pub judging-here : (total : ℕ) (head : List ℕ) (f : File) (x t : List ℕ) → t ≡ raw_of (head_words total f) (places_in total head) f ++ x → Judging t f
judging-here total head f x t q = subst (λ (w : List ℕ). Judging w f) (sym q) (raw-judging total (places_in total head) f x)

module _ (head depths t : List ℕ) where
  pub filled_begun : FilledRows head depths t 0 t
  filled_begun total f x e q g = q ∙ ap (λ (w : List ℕ). w ++ x) (sym (filled_none total head f))

  module _ (n k : ℕ) (u : List ℕ) (c : n ≡ get_or t 0 0) (h : FilledRows head depths t k u) where
    pub filled_more : (d : ℕ) (v : List ℕ) → k < n → d ≡ get_or depths k 0 →
        ((pl : Places) (f : File) → TableOf t head pl f → Judging t f → ToldBefore u f k)
        → ((pl : Places) (f : File) → TableOf u head pl f → k < length f.items → ToldBefore u f k →
        v ≡ sets u (26 + 16 * k) (sizes_in f k d)) → FilledRows head depths t (k + 1) v
    filled_more d v l p told put total f x e q g =
        let w = read_here total head f x t e q in
        let i : k < length f.items = omega (arith, w.items) in
        let z = h total f x e q g in
        put (places_in total head) f (subst (λ (w : List ℕ). TableOf w head (places_in total head) f) (sym z)
        (filled-view total head f e x k)) i (told (places_in total head) f w (judging-here total head f x t q))
        ∙ ap (λ (w : List ℕ). sets w (26 + 16 * k) (sizes_in f k d)) z
        ∙ ap (sets (filled_to total head f k ++ x) (26 + 16 * k)) (sizes-words total head f k d (p ∙ g k i))
        ∙ filled_next total head f w.bounded x k i

    pub filled-done : k ≡ n → (total : ℕ) (f : File) (x : List ℕ) → total < 18446744073709551616 →
        read_file total head ≡ ok f → AllPlaced total head f → t ≡ raw_of (head_words total f) (places_in total head) f ++ x
        → ((r : ℕ) → r < length f.items → get_or depths r 0 ≡ depth (scene_of total head f) r) → u ≡ file_words total head f ++ x
    filled-done z total f x few e placed q g =
        let w = read_here total head f x t e q in
        h total f x e q g
        ∙ ap (λ (j : ℕ). filled_to total head f j ++ x) (z ∙ c ∙ w.items)
        ∙ ap (λ (l : List ℕ). l ++ x) (filled-all total head f few e placed)
