-- `linking::offset_at` meets its contract. Assumes nothing.
use Rattle.linking.proofs.ByteLaws.{offset_read}
use Rattle.linking.proofs.offset_at.Goals as goal

pub returns : goal.returns
returns c =
    offset_read c.args.table.now c.args.e c.held.result c.held-2.result
    c.held.ensures c.held-2.ensures
