-- What marks on the rows that a picture needs leave is its sources. Assumes nothing.
use Prim.Native.Nat.{ℕ, suc, ◌+◌, ◌<◌}
use native.Mathlib.Omega.{arith}
use mathlib.Core.Path.{◌≡◌, refl, sym, ap, subst, ◌∙◌}
use mathlib.Core.List.{List, [], ◌∷◌, ◌++◌, append_assoc, append-nil}
use mathlib.Core.Bool.{Bool, true, false, ◌&&◌, ◌||◌}
use mathlib.Core.Logic.{⊎_elim}
use lib.ListN.{length, get_or, length-map}
use lib.Dec.{eqb}
use borrow.Author.Tests.{eqb-true}
use Rattle.fields.specs.Choice.{pick}
use Rattle.fields.proofs.FieldLaws.{both}
use Rattle.fields.proofs.TestLaws.{untrue, or_either}
use Rattle.boxes.specs.Answer.{Answer, ok}
use Rattle.boxes.specs.Types.{iden, grid, iovl, coded, derived, image}
use Rattle.boxes.proofs.AnswerLaws.{bind_ok, then_ok, ok_inj}
use Rattle.contents.specs.Iinf.{Item}
use Rattle.contents.specs.File.{File}
use Rattle.pictures.specs.Recipe.{Recipe, Copy, Tiles, Layers}
use Rattle.pictures.specs.Scene.{Picture, Scene, picture_at, nothing}
use Rattle.pictures.specs.Sources.{is_coded, needs, needed_of, sources}
use Rattle.rules.specs.Joined.{item_at}
use Rattle.rules.specs.Places.{Places}
use Rattle.rules.specs.Derivations.{copy_of, tiles_of, layers_of, recipe_for, picture_of, scene_of}
use Rattle.rules.specs.Rules.{rule17}
use Rattle.rules.proofs.DerivationLaws.{rule-17-ok}
use Rattle.rules.proofs.SceneLaws.{picture-at, opaque-at, recipe-ok}
use Rattle.views.specs.inner.View.{TableOf, AllFed, record_word}
use Rattle.needed.specs.inner.Marked.{marked_of}
use Rattle.needed.proofs.MarkedLaws.{chosen}

and_swap : (a b : Bool) → (a && b) ≡ (b && a)
and_swap true true = refl
and_swap true false = refl
and_swap false true = refl
and_swap false false = refl

not_first : (a b : Bool) → (a || b) ≡ false → a ≡ false
not_first true b e = untrue (sym e)
not_first false b e = refl

-- needed_of: from a row on, after what is marked before it
module _ (t marks : List ℕ) (wanted : ℕ → Bool) where
  -- the picture in row k is chosen where the row is, and has its ID
  pub record Shown (k : ℕ) (p : Picture) : Type 0 where
    pub test : (is_coded p.recipe && wanted k) ≡ chosen t marks k
    pub id : p.id ≡ record_word t k 0

  joined : (xs rest : List ℕ) (x : ℕ) (b : Bool) → xs ++ pick b (x ∷ rest) rest ≡ (xs ++ pick b (x ∷ []) []) ++ rest
  unfolding pick
  joined xs rest x true = sym (append_assoc xs (x ∷ []) rest)
  joined xs rest x false = ap (λ (l : List ℕ). l ++ rest) (sym (append-nil xs))

  needed_first : (k : ℕ) (p : Picture) (ps : List Picture) → Shown k p → marked_of t marks k ++
      needed_of wanted k (p ∷ ps) ≡ marked_of t marks (suc k) ++ needed_of wanted (suc k) ps
  unfolding needed_of marked_of
  needed_first k p ps h = rw (h.test, h.id) (joined (marked_of t marks k) (needed_of wanted (suc k) ps) (record_word t k 0) (chosen t marks k))

  needed_from : (ps : List Picture) (k : ℕ) → ((j : ℕ) → j < length ps → Shown (k + j) (get_or ps j nothing)) →
      marked_of t marks k ++ needed_of wanted k ps ≡ marked_of t marks (k + length ps)
  unfolding needed_of
  needed_from [] k h = let e : k ≡ k + 0 = omega arith in append-nil (marked_of t marks k) ∙ ap (marked_of t marks) e
  needed_from (p ∷ ps) k h =
      let z : k + 0 ≡ k = omega arith in
      let e : suc k + length ps ≡ k + suc (length ps) = omega arith in
      needed_first k p ps (subst (λ (n : ℕ). Shown n p) z (h 0 (omega arith)))
      ∙ needed_from ps (suc k) (λ j l. let f : k + suc j ≡ suc k + j = omega arith in
      subst (λ (n : ℕ). Shown n (get_or ps j nothing)) f (h (suc j) (omega arith)))
      ∙ ap (marked_of t marks) e

  needed_all : (ps : List Picture) → ((j : ℕ) → j < length ps → Shown j (get_or ps j nothing)) → needed_of wanted 0 ps ≡ marked_of t marks (length ps)
  unfolding marked_of
  needed_all ps h =
      let e : 0 + length ps ≡ length ps = omega arith in
      needed_from ps 0 (λ j l. let f : j ≡ 0 + j = omega arith in subst (λ (n : ℕ). Shown n (get_or ps j nothing)) f (h j l)) ∙ ap (marked_of t marks) e

-- a derived type is no coded one
derived-other : (k : ℕ) → derived k ≡ true → coded k ≡ false
derived-other k e =
    ⊎_elim (λ h. ap coded (eqb-true k iden h))
    (λ h. ⊎_elim (λ g. ap coded (eqb-true k grid g)) (λ g. ap coded (eqb-true k iovl g)) (or_either (eqb k grid) (eqb k iovl) h))
    (or_either (eqb k iden) (eqb k grid || eqb k iovl) e)

-- an item that keeps 17 is drawn as a coded picture where its type is coded
module _ (total : ℕ) (head : List ℕ) (f : File) (item : Item) where
  copy-coded : (r : Recipe) → copy_of total head f item ≡ ok r → is_coded r ≡ false
  unfolding copy_of
  copy-coded r e = ap is_coded (sym (ok_inj Copy r (then_ok _ _ r e).2))

  tiles_coded : (r : Recipe) → tiles_of total head f item ≡ ok r → is_coded r ≡ false
  unfolding tiles_of
  tiles_coded r e =
      let y = bind_ok _ _ r (bind_ok _ _ r e).2 in
      ap is_coded (sym (ok_inj (Tiles y.0) r (then_ok _ _ r y.2).2))

  layers_coded : (r : Recipe) → layers_of total head f item ≡ ok r → is_coded r ≡ false
  unfolding layers_of
  layers_coded r e =
      let y = bind_ok _ _ r (bind_ok _ _ r e).2 in
      ap is_coded (sym (ok_inj (Layers y.0) r (then_ok _ _ r y.2).2))

  recipe-coded : (r : Recipe) → recipe_for total head f item ≡ ok r → is_coded r ≡ coded item.type
  unfolding recipe_for
  recipe-coded r =
      both (λ (m : Answer Recipe). m ≡ ok r → is_coded r ≡ coded item.type) _ _ _
      (λ d e. by-type (then_ok _ _ r e).2 ∙ sym (derived-other item.type d))
      (λ d e. ap is_coded (sym (ok_inj _ r (then_ok _ _ r e).2)) ∙ both (λ (x : Recipe). is_coded x ≡ coded item.type) _ _ _ (λ q. sym q) (λ q. sym q))
    where
      by-type : pick (eqb item.type iden) (copy_of total head f item)
          (pick (eqb item.type grid) (tiles_of total head f item) (layers_of total head f item)) ≡ ok r →
          is_coded r ≡ false
      by-type = both (λ (m : Answer Recipe). m ≡ ok r → is_coded r ≡ false) _ _ _ (λ q. copy-coded r)
          (λ q. both (λ (m : Answer Recipe). m ≡ ok r → is_coded r ≡ false) _ _ _ (λ q. tiles_coded r)
          (λ q. layers_coded r))

module _ (total : ℕ) (head : List ℕ) (f : File) where
  abbrev s : Scene
  s = scene_of total head f

  picture-id : (c : ℕ) → (picture_at s c).id ≡ (item_at f c).id
  unfolding picture_of
  picture-id c = ap (λ (p : Picture). p.id) (picture-at total head f c) ∙ both (λ (p : Picture). p.id ≡ (item_at f c).id) _ _ _ (λ e. refl) (λ e. refl)

  picture-coded : (c : ℕ) → rule17 total head f (item_at f c) ≡ ok tt → is_coded (picture_at s c).recipe ≡ coded (item_at f c).type
  picture-coded c k = by (image (item_at f c).type) refl
    where
      by : (b : Bool) → image (item_at f c).type ≡ b → is_coded (picture_at s c).recipe ≡ coded (item_at f c).type
      by true e =
          let x = recipe-ok total head f c e k in
          ap is_coded x.2 ∙ recipe-coded total head f (item_at f c) x.0 (rule-17-ok (item_at f c).id _ x.0 x.1)
      by false e = ap is_coded (opaque-at total head f c e) ∙ sym (not_first (coded (item_at f c).type) (derived (item_at f c).type) e)

-- the rows that a picture needs, marked, leave its sources
pub marked-sources : (t marks head : List ℕ) (total : ℕ) (pl : Places) (f : File) (i : ℕ) → TableOf t head pl f → AllFed total head f
    → ((c : ℕ) → c < length f.items → eqb (get_or marks c 0) 1 ≡ needs (scene_of total head f) i c)
    → marked_of t marks (length f.items) ≡ sources (scene_of total head f) i
marked-sources t marks head total pl f i v fed m =
    let s = scene_of total head f in
    let n : length s ≡ length f.items = length-map f.items (λ (x : Item). picture_of total head f x) in
    ap (marked_of t marks) (sym n) ∙ sym (needed_all t marks (needs s i) s shown)
  where
    shown : (c : ℕ) → c < length (scene_of total head f) → Shown t marks (needs (scene_of total head f) i) c (picture_at (scene_of total head f) c)
    shown c l =
        let h : c < length f.items = rw length-map at l in
        record {
          test = rw (picture-coded total head f c (fed c h), ← m c h, v.type c h) (and_swap (coded (item_at f c).type) (eqb (get_or marks c 0) 1));
          id = picture-id total head f c ∙ sym (v.id c h);
        }
