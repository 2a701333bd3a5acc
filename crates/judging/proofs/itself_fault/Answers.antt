-- `judging::itself_fault` meets its contract. Assumes nothing.
use native.Mathlib.Omega.{arith}
use mathlib.Core.Path.{sym, ◌∙◌}
use mathlib.Core.Bool.{true, false}
use Rattle.judging.proofs.SceneLaws.{scene_long, inputs_are, itself_shallow, itself_told}
use Rattle.judging.proofs.itself_fault.Goals as goal

pub returns-then-record_word-le16 : goal.returns-then-record_word-le16
returns-then-record_word-le16 c =
    λ total head f d h. itself_shallow total head f d _ h _
    (c.record_word.ensures (omega (arith, d.followed.view.bounded.few-items))) c.if-record_word-le16.true

pub returns-then-n-gt256 : goal.returns-then-n-gt256
returns-then-n-gt256 c =
    λ total head f d h. absurd (omega (
      arith,
      d.followed.view.items,
      c.item_count-n.ensures,
      d.followed.view.bounded.few-items,
    ))

pub derives_itself-requires : goal.derives_itself-requires
derives_itself-requires c = omega arith

pub returns-then-derives_itself : goal.returns-then-derives_itself
returns-then-derives_itself c =
    λ total head f d h. itself_told total head f d _ h true
    (sym c.if-derives_itself.true ∙ c.derives_itself.ensures _
    (scene_long total head f ∙ sym (c.item_count-n.ensures ∙ d.followed.view.items))
    (inputs_are total head f _ _ _ d.followed.view d.resolved d.fed)
    (omega (arith, c.item_count-n.ensures, d.followed.view.items)))

pub returns : goal.returns
returns c =
    λ total head f d h. itself_told total head f d _ h false
    (sym c.if-derives_itself.false ∙ c.derives_itself.ensures _
    (scene_long total head f ∙ sym (c.item_count-n.ensures ∙ d.followed.view.items))
    (inputs_are total head f _ _ _ d.followed.view d.resolved d.fed)
    (omega (arith, c.item_count-n.ensures, d.followed.view.items)))
