-- `still::trace` meets its contract. Assumes nothing.
use Rattle.std.proofs.Common.{sym, refl, ◌∙◌, arith}
use Rattle.boxes.proofs.ToldLaws.{told-ok, told-refused}
use Rattle.contents.specs.File.{File}
use Rattle.questions.specs.Questions as Q
use Rattle.traced.specs.Told.{told_traced}
use Rattle.still.proofs.QuestionLaws.{file-shown}
use Rattle.still.proofs.OpenedLaws.{off, on}
use Rattle.still.proofs.ArrangedLaws.{order_given}
use Rattle.still.proofs.trace.Goals as goal
use Rattle.still.proofs.trace.Goals.{in-Err, in-Ok}

pub returns : goal.returns
unfolding Q.trace told_traced
returns c =
    let a = c.args in
    let o = c.open_rows-o.ensures in
    let few = c.ranges.total.fits in (
      elim c.match-o.branch [
        | in-Err w ↦ w.answer-is ∙ off told_traced _ _ _ _ (told-refused (λ (f : File). tt) _ _ (sym o.opened_given.0 ∙ w.in-Err.is))
        | in-Ok w ↦
            let k = told-ok (λ (f : File). tt) _ _ (sym o.opened_given.0 ∙ w.in-Ok.is) in
            w.answer-is ∙ w.trace_in-answer.ensures _ k.0
            (file-shown a.total a.head.now a.table.now few k.0 k.1 _ o.opened_given.1 _ _ refl (omega arith)
            (λ e. (rw w.in-Ok.is at o.resolved k.0 e).0)) ∙
            on told_traced _ _ k.0 k.1
      ],
      c.arrange.ensures a.total a.head.now a.table.now o.opened_given.1
          (order_given a.total a.head.now a.table.now _ _ _ o.opened_given.0 o.resolved),
    )
