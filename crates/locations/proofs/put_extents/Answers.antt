-- `locations::put_extents` meets its contract. The loop's invariant: the extents so far are in the table. Assumes nothing.
use mathlib.Core.Path.{◌≡◌}
use Rattle.locations.proofs.PutLaws.{extents_begun, extents-stored}
use native.Mathlib.Omega.{arith}
use Rattle.locations.proofs.put_extents.Goals as goal

pub loop-j-init : goal.loop-j-init
loop-j-init c =
    let a = c.args in
    extents_begun a.w.index a.w.offset a.w.length a.s.now a.at a.start a.used a.table.now

pub loop-j-preserved : goal.loop-j-preserved
loop-j-preserved c =
    let a = c.args in
    extents-stored a.w.index a.w.offset a.w.length a.s.now a.at a.start a.used c.loop-j.j _ _ _ _ a.table.now _ _
    c.loop-j.invariant c.extent_size-each.ensures.is c.be_sized-offset.ensures c.be_sized-size.ensures c.capped_sum.ensures c.put_extent.ensures

pub returns : goal.returns
returns c = let q : c.loop-j.j ≡ c.args.k = omega arith in rw (← q) c.loop-j.invariant
