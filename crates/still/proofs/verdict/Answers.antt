-- `still::verdict` meets its contract. Assumes nothing.
use Rattle.std.proofs.Common.{sym, ◌∙◌}
use Rattle.boxes.proofs.ToldLaws.{told-ok, told-refused}
use Rattle.contents.specs.File.{File}
use Rattle.questions.specs.Questions as Q
use Rattle.asked.specs.Told.{told_verdict}
use Rattle.opening.proofs.FileLaws.{file-view}
use Rattle.still.proofs.OpenedLaws.{off, on}
use Rattle.still.proofs.ArrangedLaws.{order_given}
use Rattle.still.proofs.verdict.Goals as goal
use Rattle.still.proofs.verdict.Goals.{in-Err, in-Ok}

pub returns : goal.returns
unfolding Q.verdict told_verdict
returns c =
    let a = c.args in
    let o = c.open_rows-o.ensures in
    let few = c.ranges.total.fits in (
      elim c.match-o.branch [
        | in-Err w ↦ w.answer-is ∙ off told_verdict _ _ _ _ (told-refused (λ (f : File). tt) _ _ (sym o.opened_given.0 ∙ w.in-Err.is))
        | in-Ok w ↦
            let k = told-ok (λ (f : File). tt) _ _ (sym o.opened_given.0 ∙ w.in-Ok.is) in
            w.answer-is ∙ w.verdict_in-answer.ensures _ _ k.0
            (file-view a.total a.head.now a.table.now few k.0 k.1 _ o.opened_given.1) ∙
            on told_verdict _ _ k.0 k.1
      ],
      c.arrange.ensures a.total a.head.now a.table.now o.opened_given.1
          (order_given a.total a.head.now a.table.now _ _ _ o.opened_given.0 o.resolved),
    )
