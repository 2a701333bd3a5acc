-- `sizing::declared_in` meets its contract: two words of the record. Assumes nothing.
use Rattle.sizing.proofs.SizesLaws.{declared-read}
use Rattle.sizing.proofs.declared_in.Goals as goal

pub returns : goal.returns
returns c =
    λ s w h. declared-read w c.args.row.0 h _ _ c.record_word.ensures
    c.record_word-2.ensures
