-- ToldBefore: what the record before a row says of sizes, once it was filled, and for a row that is alike. Assumes nothing.
--   Says f r ws    the words ws that say the sizes of row r, where they say a width, are what its item's properties say
use Prim.Native.Nat.{ℕ, ◌+◌, ◌*◌, ◌-◌, ◌≤◌, ◌<◌}
use native.Mathlib.Omega.{arith}
use mathlib.Core.Path.{◌≡◌, refl, sym, ap, ◌∙◌, subst}
use mathlib.Core.List.{List}
use Rattle.std.specs.Prelude.{Option, None}
use lib.ListN.{length, get_or}
use lib.Seq.{sets}
use Rattle.fields.proofs.FieldLaws.{pick_yes, both}
use Rattle.fields.proofs.TestLaws.{and_both}
use Rattle.boxes.specs.Types.{image}
use Rattle.contents.specs.File.{File}
use Rattle.pictures.specs.Turn.{size}
use Rattle.rules.specs.Joined.{item_at}
use Rattle.rules.specs.Places.{Places}
use Rattle.rules.specs.Rules.{configured, rule15-29-16}
use Rattle.records.proofs.SetsLaws.{sets_in}
use Rattle.views.specs.inner.View.{TableOf, record_word}
use Rattle.views.specs.inner.Told.{fault_of}
use Rattle.views.proofs.TableLaws.{row_small}
use Rattle.declared.specs.inner.Told.{Alike, are, told_sizes}
use Rattle.declared.specs.declared.Sizes.{Sizes}
use Rattle.sizing.specs.inner.Drawn.{sizes_for, sizes_in, told_properties, ToldBefore}
use Rattle.sizing.proofs.FillLaws.{sizes-five}
use Rattle.sizing.proofs.PropertiesLaws.{properties-read, properties_alike}
use Rattle.sizing.proofs.FaultLaws.{free_good}

-- are, of four words that were read
are_read : (x : Option Sizes) (a b c d w h y z : ℕ) → w ≡ a → h ≡ b → y ≡ c → z ≡ d → x ≡ are (size a b) (size c d) → x ≡ are (size w h) (size y z)
are_read x a b c d w h y z ew eh ey ez e = rw (ew, eh, ey, ez) e

abbrev Says : File → ℕ → List ℕ → Type 0
Says f r ws = (get_or ws 0 0 ≡ 0 → ⊥) → told_properties f r ≡ are (size (get_or ws 0 0) (get_or ws 1 0)) (size (get_or ws 2 0) (get_or ws 3 0))

-- sizes_in: an opaque item has no width, and the properties of an image item that is not refused are good
sizes_say : (f : File) (r d : ℕ) → fault_of (rule15-29-16 f (item_at f r)) ≡ None → Says f r (sizes_in f r d)
unfolding sizes_in sizes_for told_sizes
sizes_say f r d z = both (Says f r) (image (item_at f r).type) _ _
    (λ i n. let g = and_both (configured f (item_at f r)) _ (free_good f (item_at f r) i z) in
    sym (properties-read f r g.0) ∙ pick_yes _ _ g.1) (λ i n. absurd (n refl))

-- before the first row there is none
pub before-none : (t : List ℕ) (f : File) → ToldBefore t f 0
before-none t f k e = absurd (omega arith)

-- row k filled
module _ (f : File) (k d : ℕ) (u w : List ℕ) (long : 11280 ≤ length u) (small : k < 256) (q : w ≡ sets u (26 + 16 * k) (sizes_in f k d)) where
  word_put : (i j : ℕ) → i ≡ 10 + j → j < 5 → record_word w k i ≡ get_or (sizes_in f k d) j 0
  word_put i j e h =
      let at : 16 + 16 * k + i ≡ 26 + 16 * k + j = omega arith in
      ap (λ (l : List ℕ). record_word l k i) q
      ∙ ap (λ (n : ℕ). get_or (sets u (26 + 16 * k) (sizes_in f k d)) n 0) at
      ∙ sets_in (sizes_in f k d) u (26 + 16 * k) j (omega (arith, sizes-five f k d)) (omega (arith, sizes-five f k d))

  pub before_more : fault_of (rule15-29-16 f (item_at f k)) ≡ None → ToldBefore w f (k + 1)
  before_more z i e =
      let same : k ≡ i = omega arith in
      let wide = word_put 10 0 refl (omega arith) in
      subst (λ (r : ℕ). (record_word w r 10 ≡ 0 → ⊥) →
      told_properties f r ≡ are (size (record_word w r 10) (record_word w r 11))
      (size (record_word w r 12) (record_word w r 13))) same
      (λ n.
      are_read (told_properties f k) _ _ _ _ _ _ _ _ wide (word_put 11 1 refl (omega arith))
      (word_put 12 2 refl (omega arith)) (word_put 13 3 refl (omega arith))
      (sizes_say f k d z (λ y. n (wide ∙ y))))

-- row r, whose item is alike to the one before: a, b, c and d are the words of that one's record
pub before_alike : {t head : List ℕ} {pl : Places} {f : File} → TableOf t head pl f → (r : ℕ) → r < length f.items → ToldBefore t f r → 0 < r
    → (a b c d : ℕ) → (r - 1 < 256 → a ≡ record_word t (r - 1) 10) → (r - 1 < 256 → b ≡ record_word t (r - 1) 11) →
    (r - 1 < 256 → c ≡ record_word t (r - 1) 12) → (r - 1 < 256 → d ≡ record_word t (r - 1) 13)
    → (a ≡ 0 → ⊥) → Alike f r (r - 1) → are (size a b) (size c d) ≡ told_properties f r
before_alike {f = f} v r h told p a b c d ea eb ec ed n e =
    let small : r - 1 < 256 = omega (arith, row_small v r h) in
    sym (are_read (told_properties f r) _ _ _ _ a b c d (ea small) (eb small) (ec small) (ed small)
    (properties_alike f r (r - 1) e ∙ told (r - 1) (omega arith) (λ z. n (ea small ∙ z))))
