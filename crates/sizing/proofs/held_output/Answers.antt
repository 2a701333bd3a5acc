-- `sizing::held_output` meets its contract: two words of the record. Assumes nothing.
use Rattle.sizing.proofs.SizesLaws.{output-read}
use Rattle.sizing.proofs.held_output.Goals as goal

pub returns : goal.returns
returns c =
    λ s w h. output-read w c.args.row.0 h _ _ c.held_word.ensures
    c.held_word-2.ensures
