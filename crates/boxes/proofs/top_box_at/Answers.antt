-- `boxes::top_box_at` meets its contract. Assumes nothing.
use Rattle.boxes.proofs.HeaderLaws.{says, says-room, top_short, top_open, top_bad, top_closed}
use mathlib.Core.Path.{sym, ◌∙◌}
use native.Mathlib.Omega.{arith}
use Rattle.boxes.proofs.top_box_at.Goals as goal
use Rattle.boxes.proofs.top_box_at.Goals.{else-h-eq0-via-then-h-eq0+else-h-eq8, else-h-eq0-via-else-h-eq0, then-h-via-then-h, then-h-via-else-h+then-left-h}

pub returns-in_default : goal.returns-in_default
returns-in_default c =
    top_short c.args.head.now c.args.left c.args.at (sym c.header_at.ensures ∙ c.in_default.is)

pub overflow_sub-here : goal.overflow_sub-here
overflow_sub-here c =
    let h = says _ _ _ _ (sym c.header_at.ensures ∙ c.in-Some.is) in
    let r = says-room c.args.head.now c.args.at _ _ _ h in
    omega arith

pub ends-requires : goal.ends-requires
ends-requires c =
    let h = says _ _ _ _ (sym c.header_at.ensures ∙ c.in-Some.is) in
    let r = says-room c.args.head.now c.args.at _ _ _ h in
    (omega arith, omega arith)

pub returns-then-h-eq8 : goal.returns-then-h-eq8
returns-then-h-eq8 c =
    let a = c.args in
    let h = says _ _ _ _ (sym c.header_at.ensures ∙ c.in-Some.is) in
    rw c.ends.ensures (top_open a.head.now a.left a.at _ _ _ h c.if-h-eq8.true c.if-h-eq0.true)

pub returns-then-h : goal.returns-then-h
returns-then-h c =
    let a = c.args in
    let h = says _ _ _ _ (sym c.header_at.ensures ∙ c.in-Some.is) in
    top_bad a.head.now a.left a.at _ _ _ h (λ p q. elim c.else-h-eq0.branch [
      | else-h-eq0-via-then-h-eq0+else-h-eq8 w ↦ absurd (w.if-h-eq8.false p)
      | else-h-eq0-via-else-h-eq0 w ↦ absurd (w.if-h-eq0.false q)
    ]) (λ p q. elim c.then-h.branch [
      | then-h-via-then-h w ↦ absurd (omega (arith, w.if-h.true))
      | then-h-via-else-h+then-left-h w ↦ absurd (omega (arith, w.if-left-h.true))
    ])

pub ends-requires-2 : goal.ends-requires-2
ends-requires-2 c =
    let h = says _ _ _ _ (sym c.header_at.ensures ∙ c.in-Some.is) in
    let r = says-room c.args.head.now c.args.at _ _ _ h in
    (omega arith, omega arith)

pub returns : goal.returns
returns c =
    let a = c.args in
    let h = says _ _ _ _ (sym c.header_at.ensures ∙ c.in-Some.is) in
    rw c.ends-2.ensures (top_closed a.head.now a.left a.at _ _ _ h (λ p q. elim c.else-h-eq0.branch [
      | else-h-eq0-via-then-h-eq0+else-h-eq8 w ↦ absurd (w.if-h-eq8.false p)
      | else-h-eq0-via-else-h-eq0 w ↦ absurd (w.if-h-eq0.false q)
    ]) c.if-h.false c.if-left-h.false)
