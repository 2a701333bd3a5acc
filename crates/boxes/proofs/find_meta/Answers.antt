-- `boxes::find_meta` meets its contract. Assumes nothing.
use Rattle.boxes.proofs.WalkLaws.{first-bad, first_short, first_past, first_thin, first_plain, first-branded, first-room}
use mathlib.Core.Path.{sym, ◌∙◌}
use mathlib.Core.Logic.{⊎_elim}
use native.Mathlib.Omega.{arith}
use borrow.Author.Rules.{rules}
use Rattle.boxes.proofs.find_meta.Goals as goal
use Rattle.boxes.proofs.find_meta.Goals.{else-body-end-via-then-body-end+else-is_branded, else-body-end-via-else-body-end}

pub slice_bounds-is_branded-end : goal.slice_bounds-is_branded-end
slice_bounds-is_branded-end c =
    let a = c.args in
    let r = first-room a.total a.head.now _ _ _ (sym c.top_box_at.ensures ∙ c.in-Whole.is) in
    search rules

pub overflow_sub-total : goal.overflow_sub-total
overflow_sub-total c =
    let a = c.args in
    let r = first-room a.total a.head.now _ _ _ (sym c.top_box_at.ensures ∙ c.in-Whole.is) in
    search rules

pub returns-then-is_branded : goal.returns-then-is_branded
returns-then-is_branded c =
    let a = c.args in
    c.walk_to_meta.ensures ∙ first-branded a.total a.head.now _ _ _
    (sym c.top_box_at.ensures ∙ c.in-Whole.is) c.if-body-end.true
    (sym c.is_branded.ensures ∙ c.if-is_branded.true)

pub returns-else-body-end : goal.returns-else-body-end
returns-else-body-end c =
    let a = c.args in
    let e = sym c.top_box_at.ensures ∙ c.in-Whole.is in
    rw c.refused.ensures (elim c.else-body-end.branch [
      | else-body-end-via-then-body-end+else-is_branded w ↦
          first_plain a.total a.head.now _ _ _ e w.if-body-end.true (sym w.is_branded.ensures ∙ w.if-is_branded.false)
      | else-body-end-via-else-body-end w ↦
          first_thin a.total a.head.now _ _ _ e (omega (arith, w.if-body-end.false))
    ])

pub returns-in-Bad : goal.returns-in-Bad
returns-in-Bad c =
    rw c.refused-in-Bad.ensures (first-bad c.args.total c.args.head.now (sym c.top_box_at.ensures ∙ c.in-Bad.is))

pub returns-in-Short : goal.returns-in-Short
returns-in-Short c =
    let a = c.args in
    rw c.refused-in-Short.ensures (⊎_elim (λ q. first_short a.total a.head.now (sym c.top_box_at.ensures ∙ q))
    (λ q. first_past a.total a.head.now (sym c.top_box_at.ensures ∙ q)) c.in-Short.is)
