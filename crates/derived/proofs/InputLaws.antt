-- The inputs of an item. Assumes nothing.
use Prim.Native.Nat.{ℕ, ◌+◌, ◌<◌, ◌≤◌}
use native.Mathlib.Numerals.{add-one}
use native.Mathlib.Omega.{arith}
use mathlib.Core.Path.{◌≡◌, sym, ap, ◌∙◌}
use mathlib.Core.List.{List}
use mathlib.Core.Bool.{Bool, true, false, ◌&&◌}
use lib.ListN.{length, get_or, drop, drop_of_length-le}
use lib.Seq.{drop-cons}
use Rattle.boxes.specs.Types.{image}
use Rattle.contents.specs.File.{File}
use Rattle.rules.specs.Joined.{targets_of, row_of, item_at}
use Rattle.rules.specs.Places.{Places}
use Rattle.rules.specs.Derivations.{all_images}
use Rattle.views.specs.inner.View.{TableOf, record_word, id_of}
use Rattle.views.proofs.LookupLaws.{row_listed}
use Rattle.views.proofs.TableLaws.{row_small, test_read}
use Rattle.derived.specs.inner.Told.{Resolved}

module _ {t head : List ℕ} {pl : Places} {f : File} (v : TableOf t head pl f) where
  -- the inputs of the item in a row
  module _ (r : ℕ) (h : r < length f.items) where
    pub inputs_counted : (n : ℕ) → (r < 256 → n ≡ record_word t r 6) → n ≡ length (targets_of f (id_of f r))
    inputs_counted n e = e (row_small v r h) ∙ v.target-count r h

    pub inputs-few : length (targets_of f (id_of f r)) ≤ 2048
    inputs-few = omega (arith, v.target_room r h, v.bounded.few-targets)

    pub input-row : (rows : List ℕ) → Resolved t rows f → (j : ℕ) → j < length (targets_of f (id_of f r)) →
        (first row : ℕ) → (r < 256 → first ≡ record_word t r 5) → row ≡ get_or rows (first + j) 0
        → row ≡ row_of (get_or (targets_of f (id_of f r)) j 0) f.items
    input-row rows w j l first row e q =
        q
        ∙ ap (λ (a : ℕ). get_or rows (a + j) 0) (e (row_small v r h))
        ∙ w (record_word t r 5 + j) (omega (arith, v.target_room r h))
        ∙ ap (λ (a : ℕ). row_of a f.items) (v.target r j h l)

  -- an input is one of the items: what its type is tested for is tested of the item in its row
  pub input-image : (r j : ℕ) → j < length (targets_of f (id_of f r)) → (row kind : ℕ) (b : Bool) →
      row ≡ row_of (get_or (targets_of f (id_of f r)) j 0) f.items → (row < 256 → kind ≡ record_word t row 1) →
      b ≡ image kind
      → b ≡ image (item_at f (row_of (get_or (targets_of f (id_of f r)) j 0) f.items)).type
  input-image r j l row kind b e q z =
      let m = row_listed f.items (get_or (targets_of f (id_of f r)) j 0) (v.sound.listed (id_of f r) j l) in
      sym (test_read v row (omega arith) image kind b q z) ∙ ap (λ (a : ℕ). image (item_at f a).type) e

-- all_images, input by input
module _ (f : File) (ts : List ℕ) where
  module _ (j : ℕ) (l : j < length ts) (b : Bool) (e : b ≡ image (item_at f (row_of (get_or ts j 0) f.items)).type) where
    images_next : all_images f (drop j ts) ≡ (b && all_images f (drop (j + 1) ts))
    unfolding all_images
    images_next = ap (all_images f) (drop-cons ts j 0 l) ∙ rw (add-one j, e)

    pub images_not : b ≡ false → all_images f ts ≡ all_images f (drop j ts) → false ≡ all_images f ts
    images_not q w = sym (w ∙ images_next ∙ rw q)

    pub images_more : b ≡ true → all_images f ts ≡ all_images f (drop j ts) → all_images f ts ≡ all_images f (drop (j + 1) ts)
    images_more q w = w ∙ images_next ∙ rw q

  pub images_all : (j : ℕ) → length ts < j + 1 → all_images f ts ≡ all_images f (drop j ts) → true ≡ all_images f ts
  unfolding all_images
  images_all j h w = sym (w ∙ ap (all_images f) (drop_of_length-le ts {i = j} (omega arith)))
