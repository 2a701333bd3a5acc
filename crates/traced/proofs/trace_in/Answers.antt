-- `traced::trace_in` meets its contract. Assumes nothing.
use mathlib.Core.Path.{sym}
use Rattle.std.proofs.lemmas.Result.{err_from_is_err_and}
use Rattle.boxes.specs.Answer.{◌>>=◌}
use Rattle.boxes.proofs.ToldLaws.{told-refused}
use Rattle.questions.specs.Questions.{trace_in}
use Rattle.asked.specs.inner.Told.{row_at}
use Rattle.asked.proofs.PicturedLaws.{row_told}
use Rattle.traced.specs.Told.{told_traced}
use Rattle.traced.proofs.trace_in.Goals as goal

pub returns-in_err-row : goal.returns-in_err-row
unfolding told_traced trace_in ◌>>=◌
returns-in_err-row c =
    let p = err_from_is_err_and c.from_residual.result c.from_residual.ensures.1 in
    λ total f w. rw (p.1, p.2, told-refused row_at _ _ (sym (c.in_err-row.ensures _ _ f w.followed.view)))

pub returns : goal.returns
returns c = λ total f w. c.trace_at.ensures total f w (row_told _ _ (c.in_ok-row.ensures _ _ f w.followed.view))
