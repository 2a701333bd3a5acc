-- `linking::names_past` meets its contract. Assumes nothing.
use mathlib.Core.Path.{◌∙◌}
use Rattle.linking.proofs.ByteLaws.{names-read}
use Rattle.linking.proofs.names_past.Goals as goal

pub returns : goal.returns
returns c =
    λ t v n w h l. names-read t v c.link_of.result c.args.row.0
    (c.link_of.ensures ∙ h w c.args.row.0 l)
