-- Two files, each with its head, that say the same of every item show the same scene and are judged alike. Assumes nothing.
--   SameBody total head new f g i    the body of item i is the same in both
--   Alike total head new f g         f with head and g with new say the same of every item
use Prim.Native.Nat.{ℕ, zero, suc, ◌+◌}
use mathlib.Core.Path.{◌≡◌, refl, ap, ◌∙◌}
use mathlib.Core.List.{List, [], ◌∷◌, map}
use mathlib.Core.Bool.{Bool, true, false, ◌&&◌, ◌||◌, not}
use lib.ListN.{length}
use lib.Dec.{leb, eqb}
use Rattle.fields.specs.Choice.{pick}
use Rattle.fields.specs.Lists.{All}
use Rattle.fields.proofs.ListLaws.{map-by, all_of, all_more}
use Rattle.boxes.specs.Answer.{Answer, ok, refuse}
use Rattle.contents.specs.Iinf.{Item}
use Rattle.contents.specs.Iloc.{Extent, Location}
use Rattle.contents.specs.File.{File}
use Rattle.pictures.specs.Scene.{Scene}
use Rattle.rules.specs.Joined.{located_at, location_of, associations_of, boxes_of, targets_of}
use Rattle.rules.specs.Bytes.{
  named,
  of_named,
  made_of_items,
  chained,
  sums_past,
  names_past,
  Source,
  known,
  file_source,
  named_source,
  source_of,
  byte_of,
  within,
  body_of,
}
use Rattle.rules.specs.Derivations as D
use Rattle.rules.specs.Derivations.{all_images, recipe_of, picture_of, scene_of}
use Rattle.rules.specs.Rules.{
  in_order,
  essential_known,
  configurations,
  rule12,
  rule13-30-14,
  rule15-29-16,
  rule17,
  rule18,
  rule19,
  by_depth,
  judged,
}
use Rattle.rules.proofs.RuleLaws.{in_order_same}
use Rattle.rules.proofs.ChainLaws.{all_same}

-- what 13, 30 and 14 go by: locations, links, and how long the file's own sources are
of_named-same : (t u : ℕ → Bool) → ((j : ℕ) → t j ≡ u j) → (a : Answer ℕ) → of_named t a ≡ of_named u a
of_named-same t u h (ok j) = h j
of_named-same t u h (refuse n p) = refl

module _ (total : ℕ) (head new : List ℕ) (f g : File) (stored : length g.idat ≡ length f.idat) (e : g.locations ≡ f.locations)
    (l : g.links ≡ f.links) where
  located-same : (id : ℕ) → location_of g id ≡ location_of f id
  located-same id = ap (λ (ls : List Location). located_at ls id) e

  named-same : (id : ℕ) (x : Extent) → named g id x ≡ named f id x
  unfolding named
  named-same id x = rw l

  -- a test of the item that an extent names
  by-named-same : (t u : ℕ → Bool) → ((j : ℕ) → t j ≡ u j) → (id : ℕ) (x : Extent) → of_named t (named g id x) ≡ of_named u (named f id x)
  by-named-same t u h id x = rw (named-same id x) (of_named-same t u h (named f id x))

  pub chained_same : (n id : ℕ) → chained n g id ≡ chained n f id
  unfolding chained
  chained_same zero id = rw (located-same id)
  chained_same (suc n) id =
      rw (located-same id) (ap (λ (b : Bool). not (made_of_items f id) || b)
      (all_same _ _ (location_of f id).extents (by-named-same (λ j. chained n g j) (λ j. chained n f j) (chained_same n) id)))

  pub past_same : (n id : ℕ) → names_past n g id ≡ names_past n f id
  unfolding names_past
  past_same zero id = refl
  past_same (suc n) id =
      rw (located-same id) (ap (λ (b : Bool). made_of_items f id && not b)
      (all_same _ _ (location_of f id).extents (λ x. ap not
      (by-named-same (λ j. sums_past g j || names_past n g j) (λ j. sums_past f j || names_past n f j) (λ j. rw (past_same n j, located-same j)) id x))))

  named-size : (a : Answer ℕ) → (named_source total new g (byte_of total new g 8) a).size ≡ (named_source total head f (byte_of total head f 8) a).size
  unfolding named_source
  named-size (ok j) = rw (located-same j)
  named-size (refuse n p) = refl

  file-size : (id : ℕ) → (file_source total new g id).size ≡ (file_source total head f id).size
  unfolding pick
  file-size id = rw (located-same id) (go (eqb (location_of f id).method 1))
    where
      go : (c : Bool) →
          (pick {A = Source} c (record { size = length g.idat; byte = known g.idat }) (record { size = total; byte = known new })).size
          ≡ (pick {A = Source} c (record { size = length f.idat; byte = known f.idat }) (record { size = total; byte = known head })).size
      go true = stored
      go false = refl

  source_size_lem : (id : ℕ) (x : Extent) →
      (source_of total new g (byte_of total new g 8) id x).size ≡ (source_of total head f (byte_of total head f 8) id x).size
  unfolding source_of pick
  source_size_lem id x =
      rw (named-same id x)
      (ap (λ (c : Bool). (pick c (named_source total new g (byte_of total new g 8) (named f id x)) (file_source total new g id)).size)
      (ap (λ (l : Location). eqb l.method 2) (located-same id)) ∙ go (made_of_items f id))
    where
      go : (c : Bool) →
          (pick c (named_source total new g (byte_of total new g 8) (named f id x)) (file_source total new g id)).size
          ≡ (pick c (named_source total head f (byte_of total head f 8) (named f id x)) (file_source total head f id)).size
      go true = named-size (named f id x)
      go false = file-size id

  within_same : (id : ℕ) → within total new g id ≡ within total head f id
  within_same id =
      rw (located-same id) (all_same _ _ (location_of f id).extents (λ x. ap (leb ((location_of f id).base + x.offset + x.size)) (source_size_lem id x)))

  pub same-13-30-14 : (i : Item) → rule13-30-14 total new g i ≡ rule13-30-14 total head f i
  unfolding rule13-30-14
  same-13-30-14 i = rw (chained_same 8 i.id, past_same 8 i.id, within_same i.id, located-same i.id)

abbrev pub SameBody : ℕ → List ℕ → List ℕ → File → File → Item → Type 0
SameBody total head new f g i = body_of total new g i.id ≡ body_of total head f i.id

pub record Alike (total : ℕ) (head new : List ℕ) (f g : File) : Type 0 where
  pub primary : g.primary ≡ f.primary
  pub items : g.items ≡ f.items
  pub locations : g.locations ≡ f.locations
  pub derivations : g.derivations ≡ f.derivations
  pub links : g.links ≡ f.links
  pub stored : length g.idat ≡ length f.idat
  pub boxes : (id : ℕ) → boxes_of g id ≡ boxes_of f id
  pub known : (id : ℕ) → essential_known g (associations_of g id) ≡ essential_known f (associations_of f id)
  pub configured : (id : ℕ) → configurations g (associations_of g id) ≡ configurations f (associations_of f id)
  pub bodies : All (SameBody total head new f g) f.items

module _ (total : ℕ) (head new : List ℕ) (f g : File) (k : Alike total head new f g) where
  -- recipe_of, picture_of, scene_of
  pub images_same : (ts : List ℕ) → all_images g ts ≡ all_images f ts
  unfolding all_images
  images_same [] = refl
  images_same (t ∷ ts) = rw (images_same ts, k.items)

  pub recipe-same : (i : Item) → SameBody total head new f g i → recipe_of total new g i ≡ recipe_of total head f i
  unfolding D.recipe_for D.copy_of D.tiles_of D.layers_of
  recipe-same i e = rw (images_same (targets_of g i.id), e, k.derivations, k.locations)

  pub picture-same : (i : Item) → SameBody total head new f g i → picture_of total new g i ≡ picture_of total head f i
  unfolding picture_of
  picture-same i e = rw (recipe-same i e, k.boxes i.id, k.derivations, k.items)

  pub scene_same : scene_of total new g ≡ scene_of total head f
  scene_same =
      ap (map (λ (i : Item). picture_of total new g i)) k.items
      ∙ map-by (λ i. picture_of total new g i) (λ i. picture_of total head f i) f.items
      (all_more (SameBody total head new f g) _ picture-same f.items k.bodies)

  -- 12 to 17 of an item
  pub same-12 : rule12 g ≡ rule12 f
  unfolding rule12
  same-12 = rw (k.primary, k.items)

  pub same-15-29-16 : (i : Item) → rule15-29-16 g i ≡ rule15-29-16 f i
  unfolding rule15-29-16
  same-15-29-16 i = rw (k.known i.id, k.configured i.id, k.boxes i.id)

  pub same-17 : (i : Item) → SameBody total head new f g i → rule17 total new g i ≡ rule17 total head f i
  unfolding rule17
  same-17 i e = rw (recipe-same i e)

  -- each rule of all items
  abbrev pub InOrder : (ℕ → Item → Answer (Unit {0})) → (ℕ → Item → Answer (Unit {0})) → Type 0
  InOrder p q = in_order p 0 g.items ≡ in_order q 0 f.items

  pub in_order_lem : (p q : ℕ → Item → Answer (Unit {0})) → All (λ (i : Item). (r : ℕ) → p r i ≡ q r i) f.items → InOrder p q
  in_order_lem p q a = ap (in_order p 0) k.items ∙ in_order_same p q 0 f.items a

  pub all-13-30-14 : InOrder (λ r i. rule13-30-14 total new g i) (λ r i. rule13-30-14 total head f i)
  all-13-30-14 = in_order_lem _ _ (all_of _ (λ i r. same-13-30-14 total head new f g k.stored k.locations k.links i) f.items)

  pub all-15-29-16 : InOrder (λ r i. rule15-29-16 g i) (λ r i. rule15-29-16 f i)
  all-15-29-16 = in_order_lem _ _ (all_of _ (λ i r. same-15-29-16 i) f.items)

  pub all-17 : InOrder (λ r i. rule17 total new g i) (λ r i. rule17 total head f i)
  all-17 = in_order_lem _ _ (all_more (SameBody total head new f g) _ (λ i e r. same-17 i e) f.items k.bodies)

  pub all-18 : InOrder (rule18 (scene_of total new g)) (rule18 (scene_of total head f))
  all-18 = in_order_lem _ _ (all_of _ (λ i r. ap (λ (s : Scene). rule18 s r i) scene_same) f.items)

  pub all-19 : InOrder (rule19 (scene_of total new g)) (rule19 (scene_of total head f))
  all-19 = in_order_lem _ _ (all_of _ (λ i r. ap (λ (s : Scene). rule19 s r i) scene_same) f.items)

  pub all-20 : by_depth (scene_of total new g) g.items 17 0 ≡ by_depth (scene_of total head f) f.items 17 0
  all-20 =
      ap (λ (s : Scene). by_depth s g.items 17 0) scene_same
      ∙ ap (λ (is : List Item). by_depth (scene_of total head f) is 17 0) k.items

  -- judged
  pub judged-same : judged total new g ≡ judged total head f
  unfolding judged
  judged-same = rw (same-12, all-13-30-14, all-15-29-16, all-17, all-18, all-19, all-20)
