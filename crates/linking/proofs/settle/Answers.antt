-- `linking::settle` meets its contract. Assumes nothing.
use native.Mathlib.Omega.{arith}
use mathlib.Core.Logic.{inl, inr}
use Rattle.linking.proofs.ByteLaws.{settled-known, settled_out, settled-over, settled_given}
use Rattle.linking.proofs.settle.Goals as goal
use Rattle.linking.proofs.settle.Goals.{then-some_past, else-some_past}
use mathlib.Core.Bool.{not}
use mathlib.Core.Path.{ap}

pub returns-then-was-ne-NO_LEVEL : goal.returns-then-was-ne-NO_LEVEL
returns-then-was-ne-NO_LEVEL c =
    let a = c.args in
    settled-known a.table.now a.rows.now a.row.0 a.k a.links.now c.requires.1 c.requires.2
    c.if-was-ne-NO_LEVEL.true

pub returns-then-end-gt512 : goal.returns-then-end-gt512
returns-then-end-gt512 c =
    let a = c.args in
    settled_out a.table.now a.rows.now a.row.0 c.held_word-first.result c.held_word.result (c.held_word-first.ensures c.requires.0)
    (c.held_word.ensures c.requires.0) a.k a.links.now c.if-end-gt512.true

pub returns-then-not-all_below : goal.returns-then-not-all_below
returns-then-not-all_below c =
    let a = c.args in
    settled-over a.table.now a.rows.now a.row.0 c.held_word-first.result c.held_word.result (c.held_word-first.ensures c.requires.0)
    (c.held_word.ensures c.requires.0) a.k a.links.now c.all_below.result c.requires.1 c.requires.2
    c.if-was-ne-NO_LEVEL.false c.all_below.ensures (ap not c.if-not-all_below.true)

pub returns : goal.returns
returns c =
    let a = c.args in
    settled_given a.table.now a.rows.now a.row.0 c.held_word-first.result c.held_word.result (c.held_word-first.ensures c.requires.0)
    (c.held_word.ensures c.requires.0) a.k a.links.now c.all_below.result c.some_past.result c.if-some_past.past
    c.requires.1 c.requires.2 (omega (arith, c.requires.0, c.requires.3)) c.if-was-ne-NO_LEVEL.false c.all_below.ensures
    (ap not c.if-not-all_below.false) c.some_past.ensures
    (elim c.if-some_past.branch [ then-some_past w ↦ inl (w.if-some_past.true, w.past-is) | else-some_past w ↦ inr (w.if-some_past.false, w.past-is) ])
