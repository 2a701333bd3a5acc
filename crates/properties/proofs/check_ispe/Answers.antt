-- `properties::check_ispe` meets its contract. Assumes nothing.
use mathlib.Core.Path.{sym, ap, ◌∙◌}
use Rattle.std.proofs.lemmas.Result.{err_from_is_err_and}
use Rattle.boxes.specs.Told.{told}
use Rattle.boxes.proofs.ToldLaws.{told-refused}
use Rattle.contents.specs.Full.{upto}
use Rattle.contents.specs.inner.Told.{full_of}
use Rattle.contents.proofs.FullLaws.{full-here}
use Rattle.properties.proofs.CheckLaws.{ispe_gone, ispe-here}
use Rattle.properties.proofs.check_ispe.Goals as goal

pub returns-in_err-read_full : goal.returns-in_err-read_full
unfolding told
returns-in_err-read_full c =
    let a = c.args in
    let p = err_from_is_err_and c.from_residual.result c.from_residual.ensures.1 in
    rw (p.1, p.2) (sym (ap (told (λ u. u)) (ispe_gone a.place a.s.now _ _ (told-refused full_of _ _ (sym c.in_err-read_full.ensures)))))

pub returns : goal.returns
returns c =
    let a = c.args in
    c.has_length.ensures ∙ sym (ap (told (λ u. u)) (ispe-here a.place a.s.now _
    (full-here (upto 0) a.place a.s.now _ (sym c.in_ok-read_full.ensures))))
