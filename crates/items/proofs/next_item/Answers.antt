-- `items::next_item` meets its contract. Assumes nothing.
use mathlib.Core.Path.{sym}
use lib.ListN.{length}
use Prim.Native.Nat.{◌≤◌, ◌<◌}
use native.Mathlib.Omega.{arith}
use Rattle.std.proofs.lemmas.Result.{err_from_is_err_and}
use Rattle.items.proofs.NextLaws.{next_bad, next_spare, next_none, child_room, next_kind, next_refused, next_is}
use Rattle.items.proofs.next_item.Goals as goal
use Rattle.items.proofs.next_item.Goals.{In-Whole}

-- where the box at hand lies
box_in : (c : In-Whole) → (c.args.at < c.in-Whole.body) × (c.in-Whole.body ≤ c.in-Whole.end) × (c.in-Whole.end ≤ length c.args.s.now)
box_in c = child_room c.args.s.now c.args.at _ _ _ (sym c.in-Whole.ensures)

pub returns-then-kind-ne-INFE : goal.returns-then-kind-ne-INFE
returns-then-kind-ne-INFE c =
    let a = c.args in
    λ before h. next_kind a.s.now a.at a.place a.base before a.filled _ _ _ (sym c.in-Whole.ensures) c.if-kind-ne-INFE.true

pub slice_bounds-read_infe-count : goal.slice_bounds-read_infe-count
slice_bounds-read_infe-count c =
    let r = box_in (goal.at.slice_bounds-read_infe-count c).In-Whole in
    omega arith

pub slice_bounds-read_infe-start : goal.slice_bounds-read_infe-start
slice_bounds-read_infe-start c =
    let r = box_in (goal.at.slice_bounds-read_infe-start c).In-Whole in
    omega arith

pub slice_bounds-read_infe-end : goal.slice_bounds-read_infe-end
slice_bounds-read_infe-end c =
    let r = box_in (goal.at.slice_bounds-read_infe-end c).In-Whole in
    omega arith

pub returns-in_err-info-in-Whole : goal.returns-in_err-info-in-Whole
returns-in_err-info-in-Whole c =
    let a = c.args in
    let p = err_from_is_err_and c.from_residual.result c.from_residual.ensures.1 in
    λ before h. rw (p.1, p.2) (next_refused a.s.now a.at a.place a.base before a.filled _ _ _
    (sym c.in-Whole.ensures) c.if-kind-ne-INFE.false _ (c.in_err-info-in-Whole.ensures before h))

pub returns-in_ok-info-in-Whole : goal.returns-in_ok-info-in-Whole
returns-in_ok-info-in-Whole c =
    let a = c.args in
    λ before h. next_is a.s.now a.at a.place a.base before a.filled _ _ _
    (sym c.in-Whole.ensures) c.if-kind-ne-INFE.false _ (c.in_ok-info-in-Whole.ensures before h)

pub returns-in-Bad : goal.returns-in-Bad
returns-in-Bad c =
    let a = c.args in
    λ before h. next_bad a.s.now a.at a.place a.base before a.filled (sym c.in-Bad.ensures)

pub returns-in-Spare : goal.returns-in-Spare
returns-in-Spare c =
    let a = c.args in
    λ before h. next_spare a.s.now a.at a.place a.base before a.filled (sym c.in-Spare.ensures)

pub returns-in-End : goal.returns-in-End
returns-in-End c =
    let a = c.args in
    λ before h. next_none a.s.now a.at a.place a.base before a.filled (sym c.in-End.ensures)
