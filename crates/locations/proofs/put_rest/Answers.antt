-- `locations::put_rest` meets its contract: one test of the length stands for all extents. Assumes nothing.
use mathlib.Core.Path.{◌∙◌}
use Rattle.locations.specs.inner.Parts.{extents_by}
use Rattle.locations.proofs.PutLaws.{stored_here}
use Rattle.locations.proofs.MarkLaws.{marked-made, marked_other}
use native.Mathlib.Omega.{arith}
use Rattle.locations.proofs.put_rest.Goals.{then-x-eq2, else-x-eq2}
use Rattle.locations.proofs.put_rest.Goals as goal

pub put_indices-requires : goal.put_indices-requires
put_indices-requires c =
    let p = c.requires in
    let room = rw c.extent_size.ensures.is at c.if-s-at.false in
    (omega (arith, p.0, room), p.1, p.2, p.5)

pub put_extents-requires : goal.put_extents-requires
put_extents-requires c =
    let p = c.requires in
    let room = rw c.extent_size.ensures.is at c.if-s-at.false in
    (omega (arith, p.0, room), p.1, p.2, p.4)

pub returns : goal.returns
returns c =
    let a = c.args in
    let es = extents_by a.w a.s.now a.at a.x.extents in
    let room = rw c.extent_size.ensures.is at c.if-s-at.false in
    rw c.extent_size.ensures.is (record {
      marked_are = elim c.if-x-eq2.branch [
        | then-x-eq2 w ↦ marked-made a.used a.x.method es a.rows.now _ w.if-x-eq2.true (w.rows-is ∙ w.put_indices.ensures)
        | else-x-eq2 w ↦ marked_other a.used a.x.method es a.rows.now _ w.if-x-eq2.false w.rows-is
      ];
      stored_are = stored_here a.w a.s.now a.at a.table.now _ _ a.row.0 a.x a.used a.idat _ c.requires.0
          room c.start_of-start.ensures c.put_extents.ensures c.put_place.ensures;
    })
