-- `declared::property_count` meets its contract. Assumes nothing.
use mathlib.Core.Path.{◌∙◌}
use Rattle.views.proofs.TableLaws.{row_small}
use Rattle.declared.proofs.property_count.Goals as goal

pub returns : goal.returns
returns c =
    let r = c.args.row.0 in
    λ head pl f v h. c.record_word.ensures (row_small v r h) ∙ v.named_count r h
