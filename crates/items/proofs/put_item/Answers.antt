-- `items::put_item` meets its contract. Assumes nothing.
use Rattle.items.specs.inner.Told.{row_put}
use Rattle.items.proofs.put_item.Goals as goal

pub returns : goal.returns
unfolding row_put
returns c = rw c.item-a.ensures
