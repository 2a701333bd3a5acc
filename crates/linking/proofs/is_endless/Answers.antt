-- `linking::is_endless` meets its contract. Assumes nothing.
use Rattle.linking.proofs.ByteLaws.{endless_read}
use Rattle.linking.proofs.is_endless.Goals as goal

pub returns : goal.returns
returns c =
    λ t v n w h l. endless_read t v c.level_in.result c.args.row.0 (c.level_in.ensures t v n w h l)
