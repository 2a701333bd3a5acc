-- `associations::put_span` meets its contract. Assumes nothing.
use Rattle.associations.proofs.KeepLaws.{two_stores}
use Rattle.associations.proofs.put_span.Goals as goal

pub returns : goal.returns
returns c =
    two_stores c.args.table.now _ _ _ _ c.args.k c.item-a.ensures c.first_of.ensures
