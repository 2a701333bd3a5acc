-- `seam::points_in` meets its contract. Assumes nothing.
use native.Mathlib.Omega.{arith}
use mathlib.Core.Path.{sym}
use Rattle.std.proofs.lemmas.Result.{err_from_is_err_and}
use Rattle.boxes.proofs.ToldLaws.{told-refused}
use Rattle.asked.specs.inner.Told.{row_at}
use Rattle.asked.proofs.PicturedLaws.{row_told}
use Rattle.seam.proofs.PointsLaws.{points_off, points-over, points-all}
use Rattle.seam.proofs.points_in.Goals as goal

pub returns-in_err-picture_row : goal.returns-in_err-picture_row
returns-in_err-picture_row c =
    let p = err_from_is_err_and c.from_residual.result c.from_residual.ensures.1 in
    λ head pl f v. rw (p.1, p.2) (points_off f _ _ _ (told-refused row_at _ _ (sym (c.in_err-picture_row.ensures head pl f v))))

pub returns-then-n-gt512 : goal.returns-then-n-gt512
returns-then-n-gt512 c =
    let a = c.args in
    λ head pl f v. points-over f a.id.0 a.n _ (row_told _ _ (c.in_ok-picture_row.ensures head pl f v))
    (omega (arith, c.if-n-gt512.true)) _ c.refusal.ensures.0 c.refusal.ensures.1

pub returns : goal.returns
returns c =
    λ head pl f v. points-all f _ _ _ (row_told _ _ (c.in_ok-picture_row.ensures head pl f v)) c.if-n-gt512.false
