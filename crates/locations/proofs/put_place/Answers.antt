-- `locations::put_place` meets its contract: five stores side by side. Assumes nothing.
use lib.Dec.{eqb}
use Rattle.fields.specs.Choice.{pick}
use mathlib.Core.Path.{◌≡◌, sym, ◌∙◌}
use borrow.Author.Tests.{eq-eqb, ne_eqb}
use Rattle.fields.proofs.FieldLaws.{pick_yes, pick_no}
use Rattle.locations.proofs.PutLaws.{five-stored}
use Rattle.locations.proofs.put_place.Goals.{then-k-eq0, else-k-eq0}
use Rattle.locations.proofs.put_place.Goals as goal

pub returns : goal.returns
returns c =
    let a = c.args in
    let e : c.if-k-eq0.table ≡ pick (eqb a.x.extents 0) 0 a.used =
    elim c.if-k-eq0.branch [
      | then-k-eq0 w ↦ w.table-is ∙ sym (pick_yes 0 a.used (eq-eqb a.x.extents 0 w.if-k-eq0.true))
      | else-k-eq0 w ↦ w.table-is ∙ sym (pick_no 0 a.used (ne_eqb a.x.extents 0 w.if-k-eq0.false))
    ] in
    five-stored a.table.now _ _ _ _ a.x.extents a.x.method a.x.reference c.item-a.ensures e
