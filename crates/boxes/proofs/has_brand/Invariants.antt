-- `boxes::has_brand` meets its contract. Assumes nothing.
use Rattle.boxes.proofs.BrandLaws.{words_from}
use Rattle.boxes.specs.Top.{brands}
use Rattle.boxes.specs.Types.{mif1}
use Rattle.fields.specs.Lists.{member}
use mathlib.Core.Path.{◌≡◌}
use Rattle.boxes.proofs.has_brand.Given as goal

abbrev pub invariant-loop-i : goal.invariant-loop-i
invariant-loop-i l = member mif1 (brands l.content) ≡ member mif1 (words_from l.content l.i)
