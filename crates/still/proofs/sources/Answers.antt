-- `still::sources` meets its contract. Assumes nothing.
use Rattle.std.proofs.Common.{ℕ, List, sym, refl, ◌∙◌, arith}
use Rattle.boxes.proofs.ToldLaws.{told-ok, told-refused}
use Rattle.contents.specs.File.{File}
use Rattle.questions.specs.Questions as Q
use Rattle.boxes.specs.Answer.{Answer}
use Rattle.questions.specs.Questions.{list_after}
use Rattle.sourced.specs.Told.{told_listed}
use Rattle.still.proofs.QuestionLaws.{file-shown}
use Rattle.still.proofs.OpenedLaws.{off, on}
use Rattle.still.proofs.ArrangedLaws.{order_given}
use Rattle.still.proofs.sources.Goals as goal
use Rattle.still.proofs.sources.Goals.{in-Err, in-Ok}

pub returns : goal.returns
unfolding Q.sources told_listed list_after
returns c =
    let a = c.args in
    let o = c.open_rows-o.ensures in
    let few = c.ranges.total.fits in
    let arranged = c.arrange.ensures a.total a.head.now a.table.now o.opened_given.1
    (order_given a.total a.head.now a.table.now _ _ _ o.opened_given.0 o.resolved) in
    let left : Answer (List ℕ) → List ℕ = λ m. list_after m a.list.now in
    elim c.match-o.branch [
      | in-Err w ↦
          let e = told-refused (λ (f : File). tt) _ _ (sym o.opened_given.0 ∙ w.in-Err.is) in
          (w.answer-is ∙ off told_listed _ _ _ _ e, (w.list-is ∙ off left _ _ _ _ e, arranged))
      | in-Ok w ↦
          let k = told-ok (λ (f : File). tt) _ _ (sym o.opened_given.0 ∙ w.in-Ok.is) in
          let s = w.sources_in-answer.ensures _ _ k.0
          (file-shown a.total a.head.now a.table.now few k.0 k.1 _ o.opened_given.1 _ _ refl (omega arith)
          (λ e. (rw w.in-Ok.is at o.resolved k.0 e).0)) in
          (w.answer-is ∙ s.0 ∙ on told_listed _ _ k.0 k.1, (w.list-is ∙ s.1 ∙ on left _ _ k.0 k.1, arranged))
    ]
