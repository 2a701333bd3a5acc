-- The words of a file whose records are laid out in one way or another: how many they are, what they say of a property, and
-- that a call leaves them. Assumes nothing.
use Prim.Native.Nat.{ℕ, ◌+◌, ◌*◌, ◌-◌, ◌<◌, ◌≤◌}
use native.Mathlib.Omega.{arith}
use mathlib.Core.Path.{◌≡◌, refl, sym, ap, ◌∙◌}
use mathlib.Core.List.{List, [], ◌∷◌, ◌++◌}
use lib.ListN.{length, get_or, drop, length-append}
use borrow.Author.Tests.{ne_eqb}
use Rattle.fields.specs.Choice.{pick}
use Rattle.fields.proofs.FieldLaws.{pick_yes}
use Rattle.boxes.specs.Answer.{ok}
use Rattle.boxes.proofs.AnswerLaws.{then_ok, check-ok}
use Rattle.contents.specs.File.{File}
use Rattle.pictures.specs.Scene.{Scene}
use Rattle.rules.specs.Joined.{property_at}
use Rattle.rules.specs.Places.{places_in, property_offset}
use Rattle.rules.specs.Derivations.{scene_of}
use Rattle.rules.specs.Words.{Filed, by_id, head_words, properties_from, extent_words, size_words, item_words, records_by_id, words_with, words_of, table_words}
use Rattle.rules.specs.Opening.{opened, left_by, after_by}
use Rattle.rules.proofs.OrderLaws.{order_length}
use Rattle.records.specs.inner.Raw.{Bounded, association_rows, target_rows}
use Rattle.records.proofs.JoinLaws.{join-length}
use Rattle.records.proofs.RawLaws.{properties-length, associations-length, targets-length}
use Rattle.views.proofs.SpanLaws.{extents_by, extents-by-length}
use Rattle.views.proofs.RegionLaws.{table_by, Fill, table_length, property_word}
use Rattle.views.proofs.TableLaws.{property-some}
use Rattle.views.proofs.WordLaws.{table_with, property-words}
use Rattle.views.proofs.ViewLaws.{sizes-length}

module _ (records : List ℕ) (total : ℕ) (head : List ℕ) (f : File) (few : length records ≤ 4096) (b : Bounded f) where
  layout_table : words_with records total head f ≡ table_with total (places_in total head) f records (λ l e. extent_words (places_in total head) l e)
  unfolding words_with table_by association_rows target_rows
  layout_table = refl

  layout_fill : Fill (head_words total f) records (properties_from (places_in total head).properties f.properties)
      (association_rows f.associations) (target_rows f.derivations) (extents_by (λ l e. extent_words (places_in total head) l e) f.locations)
  layout_fill =
      record {
        in_head = omega arith;
        in_records = few;
        in_properties = omega (arith, properties-length (places_in total head).properties f.properties, b.few-properties);
        in_associations = omega (arith, associations-length f.associations, b.few-associations);
        in_targets = omega (arith, targets-length f.derivations, b.few-targets);
        in_extents = omega (arith, extents-by-length (λ l e. extent_words (places_in total head) l e) (λ l e. refl) f.locations, b.few-extents);
      }

  pub layout_length : length (words_with records total head f) ≡ 11280
  layout_length = ap length layout_table ∙ table_length _ _ _ _ _ _ layout_fill

  -- a property, its index counting from 1, with any words behind the table
  module _ (x : List ℕ) (k : ℕ) (h : k ≤ length f.properties) (some : k ≡ 0 → ⊥) where
    property-at : (i : ℕ) → i < 4 → get_or (words_with records total head f ++ x) (4112 + 4 * (k - 1) + i) 0 ≡
        get_or (properties_from (places_in total head).properties f.properties) (4 * (k - 1) + i) 0
    property-at i l =
        ap (λ (w : List ℕ). get_or (w ++ x) (4112 + 4 * (k - 1) + i) 0) layout_table
        ∙ property_word _ _ _ _ _ _ x layout_fill (4 * (k - 1) + i) (4112 + 4 * (k - 1) + i) (omega arith)
        (omega (arith, properties-length (places_in total head).properties f.properties))

    pub layout_offset : get_or (words_with records total head f ++ x) (4112 + 4 * (k - 1) + 1) 0 ≡ property_offset (places_in total head) f k
    unfolding property_offset pick
    layout_offset =
        property-at 1 (omega arith)
        ∙ (property-words (places_in total head).properties f.properties (k - 1) (omega arith)).offset
        ∙ rw (ne_eqb k 0 some) refl

    pub layout_size : get_or (words_with records total head f ++ x) (4112 + 4 * (k - 1) + 2) 0 ≡ length (property_at f k)
    layout_size =
        property-at 2 (omega arith)
        ∙ (property-words (places_in total head).properties f.properties (k - 1) (omega arith)).size
        ∙ sym (ap length (property-some f k some))

-- records_by_id
pub by-id-few : (f : File) (s : Scene) → Bounded f → length (records_by_id f s (by_id f.items)) ≤ 4096
unfolding item_words
by-id-few f s b =
    let sixteen : (p : Filed) → length (item_words p.place f s p.place p.item) ≡ 16 =
    λ p. omega (arith, length-append (size_words s p.place p.item) (p.place ∷ []), sizes-length s p.place p.item) in
    omega (
      arith,
      join-length (λ (p : Filed). item_words p.place f s p.place p.item) 16 sixteen (by_id f.items),
      order_length f.items,
      b.few-items,
    )

-- words_of
pub words-length : (total : ℕ) (head : List ℕ) (f : File) → Bounded f → length (words_of total head f) ≡ 11280
words-length total head f b = layout_length _ total head f (by-id-few f (scene_of total head f) b) b

-- after_by: what is left of an accepted file
pub layout_left : (words : ℕ → List ℕ → File → List ℕ) (total : ℕ) (head table : List ℕ) (f : File) →
    opened (length table) total head ≡ ok f → after_by words total head table ≡ words total head f ++ drop table_words table
unfolding opened after_by left_by
layout_left words total head table f e =
    let x = then_ok _ _ f e in
    pick_yes _ _ (check-ok 1 0 _ x.0 x.1) ∙ ap (left_by words total head table) x.2
