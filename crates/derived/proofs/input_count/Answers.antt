-- `derived::input_count` meets its contract. Assumes nothing.
use Rattle.derived.proofs.InputLaws.{inputs_counted}
use Rattle.derived.proofs.input_count.Goals as goal

pub returns : goal.returns
returns c = λ head pl f v h. inputs_counted v c.args.row.0 h _ c.record_word.ensures
