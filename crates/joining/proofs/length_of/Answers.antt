-- `joining::length_of` meets its contract. Assumes nothing.
use mathlib.Core.Path.{◌∙◌}
use Rattle.linking.specs.inner.Links.{length_sum}
use Rattle.linking.proofs.ByteLaws.{sum-capped}
use Rattle.joining.proofs.length_of.Goals as goal

pub returns : goal.returns
returns c =
    let a = c.args in
    λ w h l. c.unwrap_or.ensures ∙ sum-capped (length_sum a.table.now a.row.0) c.sum_of.result (c.sum_of.ensures h l)
