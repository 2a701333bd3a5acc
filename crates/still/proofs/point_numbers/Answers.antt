-- `still::point_numbers` meets its contract. Assumes nothing.
use Rattle.std.proofs.Common.{ℕ, List, length, sym, refl, ap, ◌∙◌, arith}
use Rattle.boxes.proofs.ToldLaws.{told-ok, told-refused}
use Rattle.contents.specs.File.{File}
use Rattle.boxes.specs.Answer.{Answer, ◌>>=◌}
use Rattle.questions.specs.Questions as Q
use Rattle.rules.specs.Derivations.{scene_of}
use Rattle.seam.specs.Points.{points_in, points, told_points_filled}
use Rattle.seam.specs.Numbers.{numbers_after}
use Rattle.still.proofs.QuestionLaws.{file-shown}
use Rattle.still.proofs.OpenedLaws.{off, on}
use Rattle.still.proofs.ArrangedLaws.{order_given}
use Rattle.still.proofs.point_numbers.Goals as goal
use Rattle.still.proofs.point_numbers.Goals.{in-Err, in-Ok}

pub returns : goal.returns
unfolding points Q.trace ◌>>=◌ told_points_filled numbers_after
returns c =
    let a = c.args in
    let o = c.open_rows-o.ensures in
    let few = c.ranges.total.fits in
    let arranged = c.arrange.ensures a.total a.head.now a.table.now o.opened_given.1
    (order_given a.total a.head.now a.table.now _ _ _ o.opened_given.0 o.resolved) in
    let left : Answer File → List (List ℕ) = λ o. numbers_after (o >>= (λ f. points_in f a.id.0 (length a.points.now)))
    (λ p. o >>= (λ f. Q.trace_in (scene_of a.total a.head.now f) f a.id.0 p)) a.points.now in
    elim c.match-o.branch [
      | in-Err w ↦
          let e = told-refused (λ (f : File). tt) _ _ (sym o.opened_given.0 ∙ w.in-Err.is) in
          (w.answer-is ∙ off told_points_filled _ _ _ _ e, (w.points-is ∙ sym (ap left e), arranged))
      | in-Ok w ↦
          let k = told-ok (λ (f : File). tt) _ _ (sym o.opened_given.0 ∙ w.in-Ok.is) in
          let s = w.numbers_in-answer.ensures _ k.0
          (file-shown a.total a.head.now a.table.now few k.0 k.1 _ o.opened_given.1 _ _ refl (omega arith)
          (λ e. (rw w.in-Ok.is at o.resolved k.0 e).0)) in
          (w.answer-is ∙ s.0 ∙ on told_points_filled _ _ k.0 k.1, (w.points-is ∙ s.1 ∙ sym (ap left k.1), arranged))
    ]
