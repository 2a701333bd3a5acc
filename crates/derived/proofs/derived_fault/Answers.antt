-- `derived::derived_fault` meets its contract. Assumes nothing.
use mathlib.Core.Path.{◌∙◌}
use Rattle.boxes.specs.Types.{derived}
use Rattle.rules.specs.Joined.{item_at}
use Rattle.views.proofs.TableLaws.{test_read}
use Rattle.derived.proofs.RecipeLaws.{plain-fed, plain_inputs}
use Rattle.derived.proofs.derived_fault.Goals as goal

pub returns-then-input_count-eq0 : goal.returns-then-input_count-eq0
returns-then-input_count-eq0 c =
    λ total f w h v k. plain-fed total _ f (item_at f c.args.row.0)
    (test_read w.view c.args.row.0 h derived _ _ c.type_of.ensures c.is_derived.ensures ∙
    c.if-not-is_derived.true) _ (c.input_count.ensures _ _ f w.view h) c.if-input_count-eq0.true

pub returns-else-input_count-eq0 : goal.returns-else-input_count-eq0
returns-else-input_count-eq0 c =
    λ total f w h v k. plain_inputs total _ f (item_at f c.args.row.0)
    (test_read w.view c.args.row.0 h derived _ _ c.type_of.ensures c.is_derived.ensures ∙
    c.if-not-is_derived.true) _ (c.input_count.ensures _ _ f w.view h) c.if-input_count-eq0.false

pub returns : goal.returns
returns c =
    λ total f w h v k. c.made_fault.ensures total f w h v k
    (test_read w.view c.args.row.0 h derived _ _ c.type_of.ensures c.is_derived.ensures ∙
    c.if-not-is_derived.false)
