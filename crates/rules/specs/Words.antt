-- Table words: document 01, "Table words", and document 02, Q-6. The table is the file's spelling in 32-bit words; "Order
-- is file order (items: `iinf`)", until Q-6, from which on "the item records [are] in rising ID order".
--   table_words       how many words the table of a file has
--   words_of total head f     the words of an accepted file; what a call leaves of them is `after`, in Opening.antt
--   file_words total head f   the same as document 01 alone asks for them, all in file order: what Q-6 rearranges
--   by_id items               the items in rising ID order, each with its place in `iinf`
use Rattle.std.specs.Prelude.{ℕ, suc, ◌+◌, ◌-◌, ◌/◌, ◌%◌, List, [], ◌∷◌, ◌++◌, map, length, replicate, leb, eqb}
use Rattle.fields.specs.Choice.{pick}
use Rattle.boxes.specs.Types.{image}
use Rattle.boxes.specs.Box.{kind_of}
use Rattle.contents.specs.Iinf.{Item}
use Rattle.contents.specs.Iloc.{Extent, Location}
use Rattle.contents.specs.Ipma.{Association, IpmaEntry}
use Rattle.contents.specs.Iref.{Reference}
use Rattle.contents.specs.File.{File}
use Rattle.pictures.specs.Scene.{Scene, picture_at, output_of}
use Rattle.pictures.specs.Depth.{depth}
use Rattle.rules.specs.Joined.{location_of, associations_of, targets_of}
use Rattle.rules.specs.Places.{Places, places_in, file_offset}
use Rattle.rules.specs.Derivations.{scene_of}

abbrev pub table_words : ℕ
table_words = 11280

-- one list after another
unfoldable pub join_all : {A : Type 0} → (A → List ℕ) → List A → List ℕ
join_all f [] = []
join_all f (x ∷ xs) = f x ++ join_all f xs

-- "Unused words are 0.": the words of a region of n words
unfoldable pub region : ℕ → List ℕ → List ℕ
region n ws = ws ++ replicate (n - length ws) 0

-- a 64-bit number: high, low
abbrev pub high_low : ℕ → List ℕ
high_low x = x / 4294967296 ∷ x % 4294967296 ∷ []

-- how many records stand before those of an item, in lists of (ID, how many) in file order
pub record Group : Type 0 where
  pub id : ℕ
  pub count : ℕ

unfoldable pub first_in : ℕ → ℕ → List Group → ℕ
first_in id n [] = 0
first_in id n (g ∷ gs) = pick (eqb g.id id) n (first_in id (n + g.count) gs)

-- first and count: "A first index with count 0 is 0."
abbrev pub span : ℕ → List Group → ℕ → List ℕ
span id gs count = pick (eqb count 0) 0 (first_in id 0 gs) ∷ count ∷ []

abbrev pub named_groups : List IpmaEntry → List Group
named_groups ns = map (λ (n : IpmaEntry). record { id = n.id; count = length n.list }) ns

abbrev pub derived_groups : List Reference → List Group
derived_groups ds = map (λ (d : Reference). record { id = d.id; count = length d.targets }) ds

abbrev pub located_groups : List Location → List Group
located_groups ls = map (λ (l : Location). record { id = l.id; count = length l.extents }) ls

unfoldable pub total_of : List Group → ℕ
total_of [] = 0
total_of (g ∷ gs) = g.count + total_of gs

-- "reconstructed width, height, output width, height, depth"; "Opaque items have 0 in the size and depth words."
unfoldable pub size_words : Scene → ℕ → Item → List ℕ
size_words s r i =
    pick (image i.type)
    ((picture_at s r).declared.wide ∷ (picture_at s r).declared.high ∷ (output_of (picture_at s r)).wide ∷ (output_of (picture_at s r)).high ∷ depth s r ∷ [])
    (replicate 5 0)

-- "ID, type, hidden, first association, count, first target, count, first extent, count, method, reconstructed width,
-- height, output width, height, depth", and a sixteenth word
unfoldable pub item_words : ℕ → File → Scene → ℕ → Item → List ℕ
item_words sixteenth f s r i =
    (i.id ∷ i.type ∷ i.hidden ∷ [])
    ++ (span i.id (named_groups f.associations) (length (associations_of f i.id))
    ++ (span i.id (derived_groups f.derivations) (length (targets_of f i.id))
    ++ (span i.id (located_groups f.locations) (length (location_of f i.id).extents)
    ++ (((location_of f i.id).method ∷ []) ++ (size_words s r i ++ (sixteenth ∷ []))))))

-- document 01's records, in the order of `iinf`, the sixteenth word 0
unfoldable pub records_from : File → Scene → ℕ → List Item → List ℕ
records_from f s r [] = []
records_from f s r (i ∷ is) = item_words 0 f s r i ++ records_from f s (suc r) is

-- Q-6: "each item's place in `iinf` (from 0)"
pub record Filed : Type 0 where
  pub item : Item
  pub place : ℕ

unfoldable pub filed_from : ℕ → List Item → List Filed
filed_from k [] = []
filed_from k (i ∷ is) = record { item = i; place = k } ∷ filed_from (suc k) is

-- Q-6: "in rising ID order": an item among such, behind those whose IDs are no larger
unfoldable pub among_by_id : Filed → List Filed → List Filed
among_by_id p [] = p ∷ []
among_by_id p (q ∷ qs) = pick (leb q.item.id p.item.id) (q ∷ among_by_id p qs) (p ∷ q ∷ qs)

-- one after the other, each among those before it
unfoldable pub sorted_behind : List Filed → List Filed → List Filed
sorted_behind ps [] = ps
sorted_behind ps (q ∷ qs) = sorted_behind (among_by_id q ps) qs

abbrev pub by_id : List Item → List Filed
by_id is = sorted_behind [] (filed_from 0 is)

-- Q-6: "Keep the item records in rising ID order, and put each item's place in `iinf` (from 0) in the record's sixteenth word."
abbrev pub records_by_id : File → Scene → List Filed → List ℕ
records_by_id f s ps = join_all (λ (p : Filed). item_words p.place f s p.place p.item) ps

-- "type, offset, size, 0"
unfoldable pub properties_from : ℕ → List (List ℕ) → List ℕ
properties_from at [] = []
properties_from at (b ∷ bs) = (kind_of b ∷ at ∷ length b ∷ 0 ∷ []) ++ properties_from (at + length b) bs

-- "index plus 32,768 if essential"
abbrev pub association_word : Association → ℕ
association_word a = a.index + pick a.essential 32768 0

-- "file offset high, low, length high, low"
abbrev pub extent_words : Places → Location → Extent → List ℕ
extent_words pl l e = high_low (file_offset pl l e) ++ high_low e.size

-- "0 to 15: item, property, association, target and extent counts; primary ID; total high, low; rest 0."
abbrev pub head_words : ℕ → File → List ℕ
head_words total f =
    (length f.items ∷ length f.properties ∷ total_of (named_groups f.associations) ∷
    total_of (derived_groups f.derivations) ∷ total_of (located_groups f.locations) ∷ f.primary ∷ []) ++
    high_low total

-- "From 16, 256 item records of 16 words"; "From 4,112, 256 properties of 4"; "From 5,136, 2,048 associations"; "From
-- 7,184, 2,048 targets, as item IDs"; "From 9,232, 512 extents of 4"
unfoldable pub words_with : List ℕ → ℕ → List ℕ → File → List ℕ
words_with records total head f =
    region 16 (head_words total f)
    ++ (region 4096 records
    ++ (region 1024 (properties_from (places_in total head).properties f.properties)
    ++ (region 2048 (join_all (λ (n : IpmaEntry). map (λ (a : Association). association_word a) n.list) f.associations)
    ++ (region 2048 (join_all (λ (d : Reference). d.targets) f.derivations)
    ++ region 2048 (join_all (λ (l : Location). join_all (λ (e : Extent). extent_words (places_in total head) l e) l.extents) f.locations)))))

abbrev pub file_words : ℕ → List ℕ → File → List ℕ
file_words total head f = words_with (records_from f (scene_of total head f) 0 f.items) total head f

abbrev pub words_of : ℕ → List ℕ → File → List ℕ
words_of total head f = words_with (records_by_id f (scene_of total head f) (by_id f.items)) total head f
