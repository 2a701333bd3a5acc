-- `references::put_span` meets its contract. Assumes nothing.
use Rattle.references.proofs.StoredLaws.{sets_two}
use Rattle.references.proofs.put_span.Goals as goal

pub returns : goal.returns
returns c =
    let a = c.args in
    sets_two a.table.now _ _ a.used a.k c.item-a.ensures
