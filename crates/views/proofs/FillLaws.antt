-- Sizes and depths filled in row by row, from the table of a file that was read to that of an accepted one. Assumes nothing.
--   records_to f s k q is        the records of the items in the rows from q on, of which the first k have sizes and depth
--   filled_to total head f k     the table in which the first k records have them
use Prim.Native.Nat.{ℕ, zero, suc, ◌+◌, ◌*◌, ◌<◌}
use native.Mathlib.Nat.{zero-add, add-zero, not-suc-le-zero, le_of_suc-le-suc}
use native.Mathlib.Numerals.{add-one}
use native.Mathlib.Omega.{arith}
use mathlib.Core.Path.{◌≡◌, refl, sym, ap, ◌∙◌}
use mathlib.Core.List.{List, [], ◌∷◌, ◌++◌}
use lib.ListN.{length, get_or, take, drop, length-append, length-map, get_or-append}
use lib.Seq.{sets}
use Rattle.fields.proofs.FieldLaws.{pick_no, both}
use Rattle.boxes.specs.Answer.{ok}
use Rattle.boxes.specs.Types.{image}
use Rattle.contents.specs.Iinf.{Item}
use Rattle.contents.specs.Iloc.{Location}
use Rattle.contents.specs.Iref.{targets_in}
use Rattle.contents.specs.File.{File, read_file}
use Rattle.pictures.specs.Scene.{Picture, Scene, picture_at, output_of}
use Rattle.pictures.specs.Turn.{size_through}
use Rattle.pictures.specs.Depth.{depth, depth_n, depth_by}
use Rattle.rules.specs.Derivations.{picture_of, scene_of}
use Rattle.rules.specs.Joined.{no_extent, no_item, item_at}
use Rattle.rules.specs.Places.{Places, places_in}
use Rattle.rules.specs.Words.{join_all, head_words, properties_from, extent_words, size_words, item_words, records_from, file_words}
use Rattle.rules.proofs.SceneLaws.{picture-at}
use Rattle.records.specs.inner.Raw.{Bounded, named_words, derived_words, place_words, record_of, extent_row, association_rows, target_rows, raw_of}
use Rattle.records.proofs.JoinLaws.{join-same, join-length, join-get_or}
use Rattle.records.proofs.RawLaws.{row_words, row-length, records_joined, targets-length}
use Rattle.records.proofs.SetsLaws.{sets_first, sets-from, sets_over, get_or-from}
use Rattle.records.proofs.BoundLaws.{read_bounds}
use Rattle.views.specs.inner.View.{TableOf, SizesAre, AllPlaced, record_word}
use Rattle.views.proofs.LocatedLaws.{no_location, each-located}
use Rattle.views.proofs.PartLaws.{property_parts}
use Rattle.views.proofs.RegionLaws.{table_by, table_length, target_word, record_sets}
use Rattle.views.proofs.SoundLaws.{read_makes_sure}
use Rattle.views.proofs.SpanLaws.{extents_by}
use Rattle.views.proofs.ViewLaws.{raw_table, row_four, sizes-length, item-length, item-front, words_table, words-spelled, words-sizes}
use Rattle.views.proofs.WordLaws.{Rows, table_with, fill, view}

module _ (f : File) (s : Scene) where
  -- item_words: the sizes and the depth stored over what only judging needs
  pub row-filled : (r : ℕ) (i : Item) → sets (row_words f i) 10 (size_words s r i) ≡ item_words 0 f s r i
  unfolding item_words record_of named_words derived_words place_words
  row-filled r i = sets_over (size_words s r i) (take 10 (row_words f i)) (take 5 (drop 10 (row_words f i))) (0 ∷ []) 10 refl (sym (sizes-length s r i))

  unfoldable pub records_to : ℕ → ℕ → List Item → List ℕ
  records_to zero q is = join_all (row_words f) is
  records_to (suc k) q [] = []
  records_to (suc k) q (i ∷ is) = item_words 0 f s q i ++ records_to k (suc q) is

  to_length : (k q : ℕ) (is : List Item) → length (records_to k q is) ≡ 16 * length is
  unfolding records_to
  to_length zero q is = join-length (row_words f) 16 (row-length f) is
  to_length (suc k) q [] = refl
  to_length (suc k) q (i ∷ is) = rw (length-append, item-length f s q i, to_length k (suc q) is) (omega arith)

  to_word : (k q : ℕ) (is : List Item) (r m : ℕ) → r < length is → m < 10 →
      get_or (records_to k q is) (16 * r + m) 0 ≡ get_or (row_words f (get_or is r no_item)) m 0
  unfolding records_to
  to_word zero q is r m h l = join-get_or (row_words f) 16 (row-length f) no_item is r m h (omega arith)
  to_word (suc k) q [] r m h l = absurd (not-suc-le-zero h)
  to_word (suc k) q (i ∷ is) zero m h l =
      let e : 16 * 0 + m ≡ m = omega arith in
      rw e (get_or-append (item_words 0 f s q i) (records_to k (suc q) is) 0 m (rw (item-length f s q i) (omega arith)) ∙ item-front f s q i m l)
  to_word (suc k) q (i ∷ is) (suc r) m h l =
      get_or-from (item_words 0 f s q i) (records_to k (suc q) is) 16 (16 * r + m) (16 * suc r + m) (item-length f s q i) (omega arith)
      ∙ to_word k (suc q) is r m (le_of_suc-le-suc h) l

  to_all : (q : ℕ) (is : List Item) → records_to (length is) q is ≡ records_from f s q is
  unfolding records_to records_from join_all
  to_all q [] = refl
  to_all q (i ∷ is) = rw (to_all (suc q) is)

  to_next : (k q : ℕ) (is : List Item) → k < length is →
      sets (records_to k q is) (16 * k + 10) (size_words s (q + k) (get_or is k no_item)) ≡ records_to (suc k) q is
  unfolding records_to join_all
  to_next k q [] h = absurd (not-suc-le-zero h)
  to_next zero q (i ∷ is) h =
      let e : 16 * 0 + 10 ≡ 10 = omega arith in
      rw (e, add-zero)
      (sets_first (size_words s q i) (row_words f i) (join_all (row_words f) is) 10 (rw (sizes-length s q i, row-length f i) (omega arith))
      ∙ ap (λ (w : List ℕ). w ++ join_all (row_words f) is) (row-filled q i))
  to_next (suc k) q (i ∷ is) h =
      let e : q + suc k ≡ suc q + k = omega arith in
      rw e
      (sets-from (size_words s (suc q + k) (get_or is k no_item)) (item_words 0 f s q i) (records_to k (suc q) is) 16
      (16 * k + 10) (16 * suc k + 10) (item-length f s q i) (omega arith)
      ∙ ap (λ (w : List ℕ). item_words 0 f s q i ++ w) (to_next k (suc q) is (le_of_suc-le-suc h)))

  to_rows : (k : ℕ) → Rows (records_to k 0 f.items) f
  to_rows k = record { long = to_length k 0 f.items; word = λ r m h l. to_word k 0 f.items r m h l }

-- the five words that say a picture's sizes and its depth d
abbrev sizes_of : Picture → ℕ → List ℕ
sizes_of p d = p.declared.wide ∷ p.declared.high ∷ (output_of p).wide ∷ (output_of p).high ∷ d ∷ []

module _ (total : ℕ) (head : List ℕ) (f : File) where
  abbrev s : Scene
  s = scene_of total head f

  abbrev pl : Places
  pl = places_in total head

  unfoldable pub filled_to : ℕ → List ℕ
  filled_to k = table_with total pl f (records_to f s k 0 f.items) (extent_row pl)

  -- no row yet
  pub filled_none : filled_to 0 ≡ raw_of (head_words total f) pl f
  unfolding filled_to records_to
  filled_none = sym (raw_table total pl f ∙ ap (λ (w : List ℕ). table_with total pl f w (extent_row pl)) (records_joined f))

  -- one row more
  pub filled_next : Bounded f → (x : List ℕ) (k : ℕ) → k < length f.items →
      sets (filled_to k ++ x) (26 + 16 * k) (size_words s k (item_at f k)) ≡ filled_to (k + 1) ++ x
  unfolding filled_to
  filled_next b x k h =
      let vs = size_words s k (item_at f k) in
      let n = sizes-length s k (item_at f k) in
      record_sets _ _ _ _ _ _ x (fill total head pl f (extent_row pl) _ x (row_four pl) b (to_rows f s k)) vs
      (16 * k + 10) (26 + 16 * k) (omega arith) (omega (arith, to_length f s k 0 f.items))
      ∙ ap (λ (w : List ℕ). table_with total pl f w (extent_row pl) ++ x) (rw (add-one k) (rw zero-add at (to_next f s k 0 f.items h)))

  -- the extents of a file whose items keep 13 and 14 are spelled alike
  extents-spelled : total < 18446744073709551616 → read_file total head ≡ ok f → AllPlaced total head f →
      extents_by (extent_row pl) f.locations ≡ extents_by (λ l e. extent_words pl l e) f.locations
  extents-spelled few e placed =
      join-same _ _ no_location f.locations (λ j h. join-same _ _ no_extent (get_or f.locations j no_location).extents (λ m l.
      sym (each-located total head f e
      (λ (l : Location). (m : ℕ) → m < length l.extents → extent_words pl l (get_or l.extents m no_extent) ≡ extent_row pl l (get_or l.extents m no_extent))
      (λ r h m l. words-spelled total head f few e placed r m h l) j h m l)))

  -- all rows
  pub filled-all : total < 18446744073709551616 → read_file total head ≡ ok f → AllPlaced total head f → filled_to (length f.items) ≡ file_words total head f
  unfolding filled_to
  filled-all few e placed =
      ap (λ (w : List ℕ). table_with total pl f w (extent_row pl)) (to_all f s 0 f.items)
      ∙ ap (λ (w : List ℕ). table_by (head_words total f) (records_from f s 0 f.items)
      (properties_from pl.properties f.properties) (association_rows f.associations)
      (target_rows f.derivations) w) (extents-spelled few e placed)
      ∙ sym (words_table total head f)

  -- the table is the file's, however far it is filled
  pub filled-view : read_file total head ≡ ok f → (x : List ℕ) (k : ℕ) → TableOf (filled_to k ++ x) head pl f
  unfolding filled_to
  filled-view e x k =
      let b = read_bounds total head f e in
      view total head pl f (extent_row pl) _ x (row_four pl) b.0 (to_rows f s k) b.1
      (read_makes_sure total head f e) (λ r j h l. refl) (property_parts total head f e)

  -- and as long, with the file's targets
  pub filled-length : Bounded f → (k : ℕ) → length (filled_to k) ≡ 11280
  unfolding filled_to
  filled-length b k = table_length _ _ _ _ _ _ (fill total head pl f (extent_row pl) _ [] (row_four pl) b (to_rows f s k))

  pub filled-target : Bounded f → (x : List ℕ) (k j : ℕ) → j < targets_in f.derivations →
      get_or (filled_to k ++ x) (7184 + j) 0 ≡ get_or (target_rows f.derivations) j 0
  unfolding filled_to
  filled-target b x k j h =
      target_word _ _ _ _ _ _ x (fill total head pl f (extent_row pl) _ x (row_four pl) b (to_rows f s k)) j (7184 + j)
      refl (omega (arith, targets-length f.derivations))

  -- size_words: an opaque item is a picture of no size that is drawn from nothing, so every item has its picture's
  sizes_said : (r : ℕ) → size_words s r (item_at f r) ≡ sizes_of (picture_at s r) (depth s r)
  unfolding size_words picture_of output_of depth_n depth_by size_through
  sizes_said r =
      both (λ (w : List ℕ). w ≡ sizes_of (picture_at s r) (depth s r)) (image (item_at f r).type) _ _
      (λ e. refl)
      (λ e. sym (ap (λ (p : Picture). sizes_of p (depth_by p.inputs (λ j. depth_n 16 s j))) (picture-at total head f r ∙ pick_no _ _ e)))

  -- SizesAre
  pub words-sized : Bounded f → (x : List ℕ) → SizesAre (file_words total head f ++ x) s
  words-sized b x =
      let n = length-map f.items (λ (i : Item). picture_of total head f i) in
      let word : (k : ℕ) → k < 5 → (r : ℕ) → r < length s →
      record_word (file_words total head f ++ x) r (10 + k) ≡ get_or (sizes_of (picture_at s r) (depth s r)) k 0 =
      λ k l r h. words-sizes total head f x b r k (omega arith) l ∙ ap (λ (w : List ℕ). get_or w k 0) (sizes_said r) in
      record {
        few = omega (arith, b.few-items);
        wide = word 0 (omega arith);
        high = word 1 (omega arith);
        output-wide = word 2 (omega arith);
        output-high = word 3 (omega arith);
        depths = word 4 (omega arith);
      }
