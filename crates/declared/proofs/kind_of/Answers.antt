-- `declared::kind_of` meets its contract. Assumes nothing.
use Rattle.views.specs.inner.View.{id_of}
use Rattle.declared.proofs.NamedLaws.{kind-named}
use Rattle.declared.proofs.kind_of.Goals as goal

pub returns : goal.returns
returns c =
    let a = c.args in
    λ head pl f v h l. kind-named v (id_of f a.row.0) a.j l _ (c.association_of.ensures head pl f v h l) _
    c.index_of.ensures _ (c.property_type.ensures head pl f v)
