-- `properties::read_properties` meets its contract. Assumes nothing.
use mathlib.Core.Path.{sym}
use lib.ListN.{length}
use Prim.Native.Nat.{◌≤◌, ◌<◌}
use native.Mathlib.Omega.{arith}
use Rattle.std.proofs.lemmas.Result.{err_from_is_err_and}
use Rattle.properties.proofs.PropertyLaws.{
  properties_begin,
  properties_further,
  properties-held,
  properties-more,
  properties-bad,
  properties_spare,
  properties-end,
}
use Rattle.properties.proofs.read_properties.Goals as goal
use Rattle.properties.proofs.read_properties.Goals.{In-Whole}

-- where the box at hand lies
box_in : (c : In-Whole) → (c.loop-kind.at < c.in-Whole.body) × (c.in-Whole.body ≤ c.in-Whole.end) × (c.in-Whole.end ≤ length c.args.s.now)
box_in c =
    let a = c.args in
    let l = c.loop-kind in
    properties_further a.s.now a.place a.base a.table.now l.table l.at l.n l.invariant _ _ _ (sym c.in-Whole.ensures)

pub loop-kind-init : goal.loop-kind-init
loop-kind-init c = properties_begin _ _ _ _

pub slice_bounds-add_property-count : goal.slice_bounds-add_property-count
slice_bounds-add_property-count c =
    let w = box_in (goal.at.slice_bounds-add_property-count c).In-Whole in
    omega arith

pub slice_bounds-add_property-start : goal.slice_bounds-add_property-start
slice_bounds-add_property-start c =
    let w = box_in (goal.at.slice_bounds-add_property-start c).In-Whole in
    omega arith

pub slice_bounds-add_property-end : goal.slice_bounds-add_property-end
slice_bounds-add_property-end c =
    let w = box_in (goal.at.slice_bounds-add_property-end c).In-Whole in
    omega arith

pub overflow_sub-end : goal.overflow_sub-end
overflow_sub-end c =
    let w = box_in (goal.at.overflow_sub-end c).In-Whole in
    omega arith

pub add_property-requires : goal.add_property-requires
add_property-requires c =
    let w = box_in (goal.at.add_property-requires c).In-Whole in
    (omega (arith, c.loop-kind.invariant.here), omega arith, c.loop-kind.invariant.few, omega (arith, c.loop-kind.invariant.kept.kept.same_length))

pub returns-in_err-add_property-in-Whole : goal.returns-in_err-add_property-in-Whole
returns-in_err-add_property-in-Whole c =
    let a = c.args in
    let l = c.loop-kind in
    let p = err_from_is_err_and c.from_residual.result c.from_residual.ensures.1 in
    let whole = properties-held a.s.now a.place a.base a.table.now l.table l.at l.n l.invariant
    _ _ _ (sym c.in-Whole.ensures) _ _ c.in_err-add_property-in-Whole.ensures in
    record { value = rw (p.1, p.2) whole.0; properties_left = whole.1 }

pub loop-kind-smaller : goal.loop-kind-smaller
loop-kind-smaller c =
    let w = box_in (goal.at.loop-kind-smaller c).In-Whole in
    omega arith

pub loop-kind-preserved : goal.loop-kind-preserved
loop-kind-preserved c =
    let a = c.args in
    let l = c.loop-kind in
    properties-more a.s.now a.place a.base a.table.now l.table l.at l.n l.invariant
    _ _ _ (sym c.in-Whole.ensures) _ c.in_ok-add_property-in-Whole.ensures

pub returns-in-Bad : goal.returns-in-Bad
returns-in-Bad c =
    let a = c.args in
    let l = c.loop-kind in
    let whole = properties-bad a.s.now a.place a.base a.table.now l.table l.at l.n l.invariant (sym c.in-Bad.ensures) in
    record { value = whole.0; properties_left = whole.1 }

pub returns-in-Spare : goal.returns-in-Spare
returns-in-Spare c =
    let a = c.args in
    let l = c.loop-kind in
    let whole = properties_spare a.s.now a.place a.base a.table.now l.table l.at l.n l.invariant (sym c.in-Spare.ensures) in
    record { value = whole.0; properties_left = whole.1 }

pub returns-in-End : goal.returns-in-End
returns-in-End c =
    let a = c.args in
    let l = c.loop-kind in
    let whole = properties-end a.s.now a.place a.base a.table.now l.table l.at l.n l.invariant (sym c.in-End.ensures) in
    record { value = whole.0; properties_left = whole.1 }
