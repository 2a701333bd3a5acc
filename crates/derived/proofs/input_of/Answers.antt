-- `derived::input_of` meets its contract. Assumes nothing.
use native.Mathlib.Omega.{arith}
use Rattle.derived.proofs.InputLaws.{inputs-few, input-row}
use Rattle.derived.proofs.input_of.Goals as goal

pub returns-then-j-lt2048 : goal.returns-then-j-lt2048
returns-then-j-lt2048 c =
    let a = c.args in
    λ head pl f v w h l. input-row v a.row.0 h a.rows.now w a.j l _ _ c.record_word-first.ensures
    c.word.ensures

pub returns : goal.returns
returns c =
    λ head pl f v w h l. absurd (omega (arith, inputs-few v c.args.row.0 h))
