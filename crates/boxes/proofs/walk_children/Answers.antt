-- `boxes::walk_children` meets its contract. Assumes nothing.
use Rattle.boxes.proofs.FamilyLaws.{begin, at-bad, at_spare, at-end, further, passed, twice, seated}
use mathlib.Core.Path.{sym, ◌∙◌}
use native.Mathlib.Omega.{arith}
use Rattle.boxes.proofs.walk_children.Goals as goal

pub loop-kind-init : goal.loop-kind-init
loop-kind-init c = begin _ _ _

pub overflow_add-here : goal.overflow_add-here
overflow_add-here c = omega (arith, c.loop-kind.invariant.here)

pub returns-then-old-ne0 : goal.returns-then-old-ne0
returns-then-old-ne0 c =
    let a = c.args in
    let l = c.loop-kind in
    rw c.refused.ensures (twice a.s.now a.place a.base l.spots l.at l.invariant _ _ _
    (sym c.child_at.ensures ∙ c.in-Whole.is) _ c.family_place-j.ensures _ c.if-j-lt7.true c.if-old-ne0.true)

pub loop-kind-smaller-else-old-ne0 : goal.loop-kind-smaller-else-old-ne0
loop-kind-smaller-else-old-ne0 c =
    let a = c.args in
    let l = c.loop-kind in
    let w = further a.s.now a.place a.base l.spots l.at l.invariant _ _ _
    (sym c.child_at.ensures ∙ c.in-Whole.is) in
    omega arith

pub loop-kind-preserved-else-old-ne0 : goal.loop-kind-preserved-else-old-ne0
loop-kind-preserved-else-old-ne0 c =
    let a = c.args in
    let l = c.loop-kind in
    seated a.s.now a.place a.base l.spots l.at l.invariant _ _ _
    (sym c.child_at.ensures ∙ c.in-Whole.is) _ c.family_place-j.ensures _ c.if-j-lt7.true c.if-old-ne0.false

pub loop-kind-smaller : goal.loop-kind-smaller
loop-kind-smaller c =
    let a = c.args in
    let l = c.loop-kind in
    let w = further a.s.now a.place a.base l.spots l.at l.invariant _ _ _
    (sym c.child_at.ensures ∙ c.in-Whole.is) in
    omega arith

pub loop-kind-preserved : goal.loop-kind-preserved
loop-kind-preserved c =
    let a = c.args in
    let l = c.loop-kind in
    passed a.s.now a.place a.base l.spots l.at l.invariant _ _ _
    (sym c.child_at.ensures ∙ c.in-Whole.is) _ c.family_place-j.ensures c.if-j-lt7.false

pub returns-in-Bad : goal.returns-in-Bad
returns-in-Bad c =
    let a = c.args in
    let l = c.loop-kind in
    rw c.refused-in-Bad.ensures (at-bad a.s.now a.place a.base l.spots l.at l.invariant (sym c.child_at.ensures ∙ c.in-Bad.is))

pub returns-in-Spare : goal.returns-in-Spare
returns-in-Spare c =
    let a = c.args in
    let l = c.loop-kind in
    rw c.refused-in-Spare.ensures (at_spare a.s.now a.place a.base l.spots l.at l.invariant (sym c.child_at.ensures ∙ c.in-Spare.is))

pub returns-in-End : goal.returns-in-End
returns-in-End c =
    let a = c.args in
    let l = c.loop-kind in
    at-end a.s.now a.place a.base l.spots l.at l.invariant (sym c.child_at.ensures ∙ c.in-End.is)
