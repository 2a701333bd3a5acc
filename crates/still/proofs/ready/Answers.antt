-- `still::ready` meets its contract. Assumes nothing.
use Rattle.std.proofs.Common.{◌≡◌, ℕ, inl, inr, sym, refl, subst, ◌∙◌, arith}
use Rattle.std.proofs.lemmas.Result.{err_from_is_err_and}
use Rattle.boxes.specs.Answer.{ok}
use Rattle.boxes.proofs.ToldLaws.{told-ok, told-refused}
use Rattle.contents.specs.File.{File}
use Rattle.rules.specs.Opening.{opened}
use Rattle.seam.specs.Points.{points, told_points_filled}
use Rattle.still.proofs.QuestionLaws.{file-shown}
use Rattle.still.proofs.PointsLaws.{none_filled}
use Rattle.still.proofs.OpenedLaws.{off, on}
use Rattle.still.proofs.ArrangedLaws.{order_given}
use Rattle.still.proofs.ready.Goals as goal

pub returns-in_err-open_rows : goal.returns-in_err-open_rows
unfolding points told_points_filled
returns-in_err-open_rows c =
    let a = c.args in
    let o = c.in_err-open_rows.ensures in
    let p = err_from_is_err_and c.from_residual.result c.from_residual.ensures.1 in
    rw (p.1, p.2) (record {
      value = (
        off told_points_filled _ _ _ _ (told-refused (λ (f : File). tt) _ _ (sym o.opened_given.0)),
        (o.opened_given.1, inl (none_filled _)),
      );
      order_given = order_given a.total a.head.now a.table.now (λ f. Unit {0}) _ _ o.opened_given.0 o.resolved;
    })

pub returns : goal.returns
unfolding points told_points_filled
returns c =
    let a = c.args in
    let o = c.in_ok-open_rows.ensures in
    let k = told-ok (λ (f : File). tt) _ _ (sym o.opened_given.0) in
    let shown = file-shown a.total a.head.now a.table.now c.ranges.total.fits k.0 k.1 _ o.opened_given.1 _ _ refl (omega arith)
    (λ e. (o.resolved k.0 e).0) in record {
      value = (
        c.points_in.ensures _ _ k.0 shown.followed.view ∙ on told_points_filled _ _ k.0 k.1,
        (
          o.opened_given.1,
          inr (record {
            file = k.0;
            opens = subst (λ (n : ℕ). opened n a.total a.head.now ≡ ok k.0) (sym c.open_rows.auto.table) k.1;
            shown = shown;
          }),
        ),
      );
      order_given = order_given a.total a.head.now a.table.now _ _ _ o.opened_given.0 o.resolved;
    }
