-- `declared::box_of` meets its contract. Assumes nothing.
use Rattle.views.specs.inner.View.{id_of}
use Rattle.declared.proofs.NamedLaws.{box-named}
use Rattle.declared.proofs.box_of.Goals as goal

pub returns : goal.returns
returns c =
    let a = c.args in
    λ pl f v h l. box-named v (id_of f a.row.0) a.j l _ (c.association_of.ensures a.head.now pl f v h l) _
    c.index_of.ensures _ (c.property_box.ensures.result_value pl f v)
