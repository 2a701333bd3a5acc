-- `asked::size_in` meets its contract. Assumes nothing.
use Prim.Native.Nat.{◌<◌}
use native.Mathlib.Omega.{arith}
use mathlib.Core.Path.{sym, ◌∙◌}
use lib.ListN.{length, length-map}
use Rattle.std.proofs.lemmas.Result.{err_from_is_err_and}
use Rattle.boxes.specs.Answer.{◌>>=◌}
use Rattle.boxes.proofs.ToldLaws.{told-refused}
use Rattle.rules.specs.Derivations.{scene_of}
use Rattle.questions.specs.Questions.{size_in}
use Rattle.asked.specs.Told.{told_sized}
use Rattle.asked.specs.inner.Told.{row_at}
use Rattle.asked.proofs.PicturedLaws.{row_told, picture-listed}
use Rattle.asked.proofs.size_in.Goals as goal

pub returns-in_err-row : goal.returns-in_err-row
unfolding told_sized size_in ◌>>=◌
returns-in_err-row c =
    let p = err_from_is_err_and c.from_residual.result c.from_residual.ensures.1 in
    λ total head pl f v z. rw (p.1, p.2, told-refused row_at _ _ (sym (c.in_err-row.ensures head pl f v)))

pub returns : goal.returns
unfolding told_sized size_in ◌>>=◌
returns c =
    λ total head pl f v z.
    let e = row_told _ _ (c.in_ok-row.ensures head pl f v) in
    let l = picture-listed f _ _ e in
    let k : c.in_ok-row.row.0 < 256 = omega (arith, l, v.bounded.few-items) in
    let h : c.in_ok-row.row.0 < length (scene_of total head f) = rw length-map l in
    rw (
      e,
      c.record_word.ensures k ∙ z.wide _ h,
      c.record_word-2.ensures k ∙ z.high _ h,
      c.record_word-3.ensures k ∙ z.output-wide _ h,
      c.record_word-4.ensures k ∙ z.output-high _ h,
      c.record_word-5.ensures k ∙ z.depths _ h,
    )
