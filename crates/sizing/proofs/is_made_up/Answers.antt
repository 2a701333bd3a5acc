-- `sizing::is_made_up` meets its contract. Assumes nothing.
use mathlib.Core.Path.{ap, ◌∙◌}
use mathlib.Core.Bool.{not}
use Rattle.boxes.specs.Types.{derived}
use Rattle.views.proofs.TableLaws.{test_read}
use Rattle.sizing.proofs.SizesLaws.{made_plain}
use Rattle.sizing.proofs.is_made_up.Goals as goal

pub returns-then-not-is_derived : goal.returns-then-not-is_derived
returns-then-not-is_derived c =
    λ total f d h i.
    let a = c.args in
    ap not c.if-not-is_derived.true ∙ made_plain d a.row.0 i h (test_read d.followed.view a.row.0 h derived _ _ c.type_of.ensures
    c.is_derived.ensures ∙ c.if-not-is_derived.true)
