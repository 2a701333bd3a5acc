-- Where the box of a property stands in the head, by the words of an accepted file. Assumes nothing.
use Prim.Native.Nat.{ℕ, ◌+◌, ◌*◌, ◌-◌, ◌<◌, ◌≤◌}
use native.Mathlib.Omega.{arith}
use mathlib.Core.Path.{◌≡◌, ap, subst, ◌∙◌}
use mathlib.Core.List.{List, ◌++◌}
use lib.ListN.{length, get_or}
use Rattle.contents.specs.File.{File}
use Rattle.rules.specs.Places.{places_in, property_offset}
use Rattle.rules.specs.Words.{file_words}
use Rattle.views.specs.inner.View.{TableOf}
use Rattle.views.specs.Lies.{LiesAt}
use Rattle.views.proofs.ViewLaws.{words-offset}

module _ (total : ℕ) (head x t : List ℕ) (f : File) (w : t ≡ file_words total head f ++ x)
    (v : TableOf t head (places_in total head) f) (k : ℕ) (h : k ≤ length f.properties) (some : k ≡ 0 → ⊥) where
  -- property_offset
  pub part-offset : get_or t (4112 + 4 * (k - 1) + 1) 0 ≡ property_offset (places_in total head) f k
  part-offset =
      let e : k - 1 + 1 ≡ k = omega arith in
      ap (λ (u : List ℕ). get_or u (4112 + 4 * (k - 1) + 1) 0) w
      ∙ words-offset total head f x v.bounded (k - 1) (omega arith)
      ∙ ap (property_offset (places_in total head) f) e

  -- LiesAt
  pub part-stands : (base place : ℕ × ℕ) (at n : ℕ) → at ≡ get_or t (4112 + 4 * (k - 1) + 1) 0 →
      n ≡ get_or t (4112 + 4 * (k - 1) + 2) 0 → (at + n ≤ length head → LiesAt base at place) →
      LiesAt base (property_offset (places_in total head) f k) place
  part-stands base place at n ea en lies =
      let l : k - 1 < length f.properties = omega arith in
      let room = v.property-room (k - 1) l in
      subst (λ (m : ℕ). LiesAt base m place) (ea ∙ part-offset) (lies (omega arith))
