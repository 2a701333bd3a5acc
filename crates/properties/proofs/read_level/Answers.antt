-- `properties::read_level` meets its contract. Assumes nothing.
use mathlib.Core.Path.{sym}
use native.Mathlib.Omega.{arith}
use Rattle.properties.proofs.LevelLaws.{level_begin, level_further, level-more, level-bad, level_spare, level-end}
use Rattle.properties.proofs.read_level.Goals as goal

pub loop-kind-init : goal.loop-kind-init
loop-kind-init c = level_begin _ _ _

pub loop-kind-smaller : goal.loop-kind-smaller
loop-kind-smaller c =
    let a = c.args in
    let l = c.loop-kind in
    let w = level_further a.s.now a.place a.base l.l l.at l.invariant _ _ _ (sym c.in-Whole.ensures) in
    omega arith

pub loop-kind-preserved : goal.loop-kind-preserved
loop-kind-preserved c =
    let a = c.args in
    let l = c.loop-kind in
    level-more a.s.now a.place a.base l.l l.at l.invariant _ _ _ (sym c.in-Whole.ensures) _ c.level_with-l.ensures

pub returns-in-Bad : goal.returns-in-Bad
returns-in-Bad c =
    let a = c.args in
    let l = c.loop-kind in
    level-bad a.s.now a.place a.base l.l l.at l.invariant (sym c.in-Bad.ensures)

pub returns-in-Spare : goal.returns-in-Spare
returns-in-Spare c =
    let a = c.args in
    let l = c.loop-kind in
    level_spare a.s.now a.place a.base l.l l.at l.invariant (sym c.in-Spare.ensures)

pub returns-in-End : goal.returns-in-End
returns-in-End c =
    let a = c.args in
    let l = c.loop-kind in
    level-end a.s.now a.place a.base l.l l.at l.invariant (sym c.in-End.ensures)
