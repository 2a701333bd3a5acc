-- `locations::put_indices` meets its contract. The loop's invariant: the marks so far are among the rows. Assumes nothing.
use mathlib.Core.Path.{◌≡◌, refl}
use Rattle.locations.proofs.MarkLaws.{marks_begun, marks_stored}
use native.Mathlib.Omega.{arith}
use Rattle.locations.proofs.put_indices.Goals as goal

pub loop-j-init : goal.loop-j-init
loop-j-init c =
    let a = c.args in
    marks_begun a.w.index a.w.offset a.w.length a.s.now a.at a.used a.rows.now

pub loop-j-preserved : goal.loop-j-preserved
loop-j-preserved c =
    let a = c.args in
    marks_stored a.w.index a.w.offset a.w.length a.s.now a.at a.used c.loop-j.j _ _ a.rows.now _ _
    c.loop-j.invariant c.extent_size-each.ensures.is c.index_mark.ensures refl

pub returns : goal.returns
returns c = let q : c.loop-j.j ≡ c.args.k = omega arith in rw (← q) c.loop-j.invariant
