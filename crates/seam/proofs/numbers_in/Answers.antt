-- `seam::numbers_in` meets its contract. Assumes nothing.
use native.Mathlib.Omega.{arith}
use mathlib.Core.Path.{sym, ◌∙◌}
use Rattle.std.proofs.lemmas.Result.{err_from_is_err_and}
use Rattle.boxes.proofs.ToldLaws.{told-refused}
use Rattle.asked.specs.inner.Told.{row_at}
use Rattle.asked.proofs.PicturedLaws.{row_told}
use lib.ListN.{length}
use Rattle.seam.proofs.PointsLaws.{points_off, points-over, points-all}
use Rattle.seam.proofs.NumbersLaws.{numbers_kept, numbers_put}
use Rattle.seam.proofs.numbers_in.Goals as goal

pub returns-in_err-row : goal.returns-in_err-row
returns-in_err-row c =
    let a = c.args in
    let p = err_from_is_err_and c.from_residual.result c.from_residual.ensures.1 in
    λ total f w.
    let q = points_off f a.id.0 (length a.points.now) _ (told-refused row_at _ _ (sym (c.in_err-row.ensures _ _ f w.followed.view))) in
    rw (p.1, p.2) (q, numbers_kept _ a.points.now _ _ q)

pub returns-then-count-gt512 : goal.returns-then-count-gt512
returns-then-count-gt512 c =
    let a = c.args in
    λ total f w.
    let q = points-over f a.id.0 (length a.points.now) _
    (row_told _ _ (c.in_ok-row.ensures _ _ f w.followed.view)) (omega (arith, c.if-count-gt512.true)) _
    c.refusal.ensures.0 c.refusal.ensures.1 in
    (q, numbers_kept _ a.points.now _ _ q)

pub returns : goal.returns
returns c =
    let a = c.args in
    λ total f w.
    let e = row_told _ _ (c.in_ok-row.ensures _ _ f w.followed.view) in
    let q = points-all f a.id.0 (length a.points.now) _ e (omega (arith, c.if-count-gt512.false)) in
    (q, c.answer_numbers.ensures total f w e ∙ numbers_put _ a.points.now _ _ q)
