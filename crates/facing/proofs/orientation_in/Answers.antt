-- `facing::orientation_in` meets its contract. Assumes nothing.
use mathlib.Core.Path.{sym}
use Rattle.std.proofs.lemmas.Result.{err_from_is_err_and}
use Rattle.boxes.specs.Answer.{◌>>=◌}
use Rattle.boxes.proofs.ToldLaws.{told-refused}
use Rattle.asked.specs.inner.Told.{row_at}
use Rattle.asked.proofs.PicturedLaws.{row_told, picture-listed}
use Rattle.facing.specs.Orientation.{orientation_in}
use Rattle.facing.specs.Told.{told_oriented}
use Rattle.facing.proofs.OrientedLaws.{oriented}
use Rattle.facing.proofs.orientation_in.Goals as goal

pub returns-in_err-row : goal.returns-in_err-row
unfolding told_oriented orientation_in ◌>>=◌
returns-in_err-row c =
    let p = err_from_is_err_and c.from_residual.result c.from_residual.ensures.1 in
    λ total pl f v. rw (p.1, p.2, told-refused row_at _ _ (sym (c.in_err-row.ensures c.args.head.now pl f v)))

pub returns : goal.returns
returns c =
    let a = c.args in
    λ total pl f v.
    let e = row_told _ _ (c.in_ok-row.ensures a.head.now pl f v) in
    rw c.ok_or.ensures.value (oriented total a.head.now f a.id.0 _ e _
    (c.orientation_of.ensures pl f v (picture-listed f _ _ e)) _ c.refusal.ensures.0 c.refusal.ensures.1)
