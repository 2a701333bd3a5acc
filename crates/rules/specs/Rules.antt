-- Refusals 12 to 20, 29 and 30: document 01, "Refusal numbers" and "Order of reading", on the file's structure. The place is an item's ID.
--   good_primary, .., each a test of one rule on one item;   rule12, .., the refusal by it
--   in_order rule items    the first refusal, in table order
--   judged total head f   12; 13, 30, 14 for each item; 15, 29, 16 for each image item; 17 for each item; 18; 19; 20 by rising depth
use Rattle.std.specs.Prelude.{ℕ, zero, suc, ◌+◌, List, [], ◌∷◌, Bool, true, false, ◌&&◌, ◌||◌, not, leb, eqb}
use Rattle.fields.specs.Choice.{pick}
use Rattle.boxes.specs.Answer.{Answer, ok, check, ◌>>=◌, ◌>>◌}
use Rattle.boxes.specs.Types.{ispe, hvcc, hvc1, known_property, coded, image}
use Rattle.boxes.specs.Box.{kind_of}
use Rattle.contents.specs.Iinf.{Item}
use Rattle.contents.specs.Ipma.{Association}
use Rattle.contents.specs.File.{File}
use Rattle.pictures.specs.Decode.{transform}
use Rattle.pictures.specs.Recipe.{Recipe}
use Rattle.pictures.specs.Scene.{Scene, picture_at, good_sizes}
use Rattle.pictures.specs.Depth.{derives_itself, depth}
use Rattle.rules.specs.Joined.{location_of, associations_of, property_at, types_of, row_of, item_at}
use Rattle.rules.specs.Bytes.{good_method, good_lengths, chained, names_past, within}
use Rattle.rules.specs.Derivations.{nothing_in, recipe_of, scene_of}

-- a rule for each item in table order, which is the order of `iinf`, with its row
unfoldable pub in_order : (ℕ → Item → Answer (Unit {0})) → ℕ → List Item → Answer (Unit {0})
in_order rule r [] = ok tt
in_order rule r (i ∷ is) = rule r i >> in_order rule (suc r) is

-- "primary item unlisted, opaque or hidden" (12). An unlisted item's row is past the last, where the type is that of no image.
abbrev pub good_primary : File → Bool
good_primary f = image (item_at f (row_of f.primary f.items)).type && eqb (item_at f (row_of f.primary f.items)).hidden 0

-- "coded item without extents" (14)
abbrev pub has_bytes : File → Item → Bool
has_bytes f i = not (coded i.type && nothing_in (location_of f i.id).extents)

-- "an essential property of unknown type" (15)
unfoldable pub essential_known : File → List Association → Bool
essential_known f [] = true
essential_known f (a ∷ rest) = (not a.essential || known_property (kind_of (property_at f a.index))) && essential_known f rest

-- of each association to an `hvcC` whether it is marked essential, in order
unfoldable pub configurations : File → List Association → List Bool
configurations f [] = []
configurations f (a ∷ rest) =
    pick (eqb (kind_of (property_at f a.index)) hvcc) (a.essential ∷ configurations f rest) (configurations f rest)

-- exactly one, and that one marked
unfoldable pub one_marked : List Bool → Bool
one_marked [] = false
one_marked (m ∷ []) = m
one_marked (m ∷ (n ∷ ms)) = false

-- Q-5: "An `hvc1` item must have exactly one `hvcC`, marked essential." (29) Associations are counted, as in 16.
abbrev pub configured : File → Item → Bool
configured f i = not (eqb i.type hvc1) || one_marked (configurations f (associations_of f i.id))

unfoldable pub count_of : ℕ → List ℕ → ℕ
count_of k [] = 0
count_of k (x ∷ xs) = pick (eqb x k) 1 0 + count_of k xs

-- "`ispe` after a transform" (16): none behind the first transform
unfoldable pub ispe_before : List ℕ → Bool
ispe_before [] = true
ispe_before (k ∷ ks) = pick (transform k) (eqb (count_of ispe ks) 0) (ispe_before ks)

-- "image item without exactly one `ispe` association"
abbrev pub good_ispe : List ℕ → Bool
good_ispe ks = eqb (count_of ispe ks) 1 && ispe_before ks

unfoldable pub rule12 : File → Answer (Unit {0})
rule12 f = check 12 f.primary (good_primary f)

-- "for each item in table order 13 before 14"; Q-7: "30 .. between 13 and 14 for the item"
unfoldable pub rule13-30-14 : ℕ → List ℕ → File → Item → Answer (Unit {0})
rule13-30-14 total head f i =
    check 13 i.id (good_method (location_of f i.id) && good_lengths (location_of f i.id))
    >> check 30 i.id (chained 8 f i.id)
    >> check 14 i.id (not (names_past 8 f i.id) && (within total head f i.id && has_bytes f i))

-- "then for each image item 15 before 16"; Q-5: "29, checked for each image item between 15 and 16"
unfoldable pub rule15-29-16 : File → Item → Answer (Unit {0})
rule15-29-16 f i =
    pick (image i.type)
    (check 15 i.id (eqb i.protection 0 && essential_known f (associations_of f i.id))
    >> check 29 i.id (configured f i)
    >> check 16 i.id (good_ispe (types_of f i.id)))
    (ok tt)

unfoldable pub rule17 : ℕ → List ℕ → File → Item → Answer (Unit {0})
rule17 total head f i = recipe_of total head f i >>= (λ (r : Recipe). ok tt)

-- "item derived from itself"; "depth over 16"
unfoldable pub rule18 : Scene → ℕ → Item → Answer (Unit {0})
rule18 s r i = check 18 i.id (not (derives_itself s r))

unfoldable pub rule19 : Scene → ℕ → Item → Answer (Unit {0})
rule19 s r i = check 19 i.id (leb (depth s r) 16)

-- "sizes wrong", for the image items of depth d
unfoldable pub rule20 : Scene → ℕ → ℕ → Item → Answer (Unit {0})
rule20 s d r i = pick (image i.type && eqb (depth s r) d) (check 20 i.id (good_sizes s (picture_at s r))) (ok tt)

-- "then 20, by rising depth and table order within a depth": n depths from d on
unfoldable pub by_depth : Scene → List Item → ℕ → ℕ → Answer (Unit {0})
by_depth s is zero d = ok tt
by_depth s is (suc n) d = in_order (rule20 s d) 0 is >> by_depth s is n (suc d)

unfoldable pub judged : ℕ → List ℕ → File → Answer (Unit {0})
judged total head f =
    rule12 f
    >> in_order (λ r i. rule13-30-14 total head f i) 0 f.items
    >> in_order (λ r i. rule15-29-16 f i) 0 f.items
    >> in_order (λ r i. rule17 total head f i) 0 f.items
    >> in_order (rule18 (scene_of total head f)) 0 f.items
    >> in_order (rule19 (scene_of total head f)) 0 f.items
    >> by_depth (scene_of total head f) f.items 17 0
