-- `bodied::body_in` meets its contract. Assumes nothing.
use mathlib.Core.Path.{sym}
use Rattle.std.proofs.lemmas.Result.{err_from_is_err_and}
use Rattle.boxes.proofs.ToldLaws.{told-refused}
use Rattle.asked.specs.inner.Told.{row_at}
use Rattle.asked.proofs.PicturedLaws.{row_told}
use Rattle.bodied.proofs.BodyLaws.{body_off, body-on}
use Rattle.bodied.proofs.body_in.Goals as goal

pub returns-in_err-row : goal.returns-in_err-row
returns-in_err-row c =
    let a = c.args in
    let p = err_from_is_err_and c.from_residual.result c.from_residual.ensures.1 in
    λ total f w fed room.
    rw (p.1, p.2) (body_off w a.buffer.now a.id.0 _ (told-refused row_at _ _ (sym (c.in_err-row.ensures _ _ f w.view))))

pub returns : goal.returns
returns c =
    let a = c.args in
    λ total f w fed room. body-on w a.buffer.now a.id.0 _ (row_told _ _ (c.in_ok-row.ensures _ _ f w.view)) _ _
    (c.put_body.ensures total f w fed room)
