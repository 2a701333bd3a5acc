-- Where a property box lies in the head, by the words of an accepted file. Assumes nothing.
use Prim.Native.Nat.{ℕ, ◌+◌, ◌*◌, ◌-◌, ◌≤◌}
use mathlib.Core.Path.{◌≡◌, ap, ◌∙◌}
use mathlib.Core.List.{List, [], ◌∷◌, ◌++◌}
use lib.ListN.{length, get_or}
use borrow.Author.Tests.{eq-eqb}
use Rattle.fields.proofs.FieldLaws.{pick_yes}
use Rattle.boxes.specs.Answer.{ok}
use Rattle.contents.specs.File.{File}
use Rattle.rules.specs.Places.{Places, places_in, property_offset}
use Rattle.rules.specs.Words.{words_with}
use Rattle.questions.specs.Questions.{part_of}
use Rattle.records.specs.inner.Raw.{Bounded}
use Rattle.views.proofs.TableLaws.{property-none}
use Rattle.views.proofs.LayoutLaws.{layout_offset, layout_size}
use Rattle.out.specs.Out.{out_part}

-- out_part of the property with index k
pub part_none : (pl : Places) (f : File) (k : ℕ) → k ≡ 0 → (0 ∷ 0 ∷ 0 ∷ 0 ∷ 0 ∷ 0 ∷ 0 ∷ 0 ∷ []) ≡ out_part (ok (part_of pl f k))
unfolding out_part part_of property_offset
part_none pl f k e = rw (property-none f k e, pick_yes 0 (pl.properties + _) (eq-eqb k 0 e))

pub part-some : (total : ℕ) (head records x t : List ℕ) (f : File) → t ≡ words_with records total head f ++ x →
    length records ≤ 4096 → Bounded f → (k : ℕ) → k ≤ length f.properties → (k ≡ 0 → ⊥) → (o n : ℕ) →
    o ≡ get_or t (4112 + 4 * (k - 1) + 1) 0 → n ≡ get_or t (4112 + 4 * (k - 1) + 2) 0
    → (0 ∷ 0 ∷ o ∷ n ∷ 0 ∷ 0 ∷ 0 ∷ 0 ∷ []) ≡ out_part (ok (part_of (places_in total head) f k))
unfolding out_part part_of
part-some total head records x t f w few b k h some o n eo en =
    let i = eo ∙ ap (λ (u : List ℕ). get_or u (4112 + 4 * (k - 1) + 1) 0) w ∙ layout_offset records total head f few b x k h some in
    let j = en ∙ ap (λ (u : List ℕ). get_or u (4112 + 4 * (k - 1) + 2) 0) w ∙ layout_size records total head f few b x k h some in
    rw (i, j)
