-- `contents::read_hdlr` meets its contract. Assumes nothing.
use mathlib.Core.Path.{sym, ap, ◌∙◌}
use Rattle.std.proofs.lemmas.Result.{err_from_is_err_and}
use Rattle.boxes.specs.Told.{told}
use Rattle.boxes.proofs.ToldLaws.{told-refused}
use Rattle.contents.specs.Full.{upto}
use Rattle.contents.specs.inner.Told.{full_of}
use Rattle.contents.proofs.FullLaws.{full-here, hdlr_gone, hdlr-short, hdlr-pict, hdlr-other}
use Rattle.contents.proofs.read_hdlr.Goals as goal

pub returns-in_err-read_full : goal.returns-in_err-read_full
unfolding told
returns-in_err-read_full c =
    let a = c.args in
    let p = err_from_is_err_and c.from_residual.result c.from_residual.ensures.1 in
    rw (p.1, p.2) (sym (ap (told (λ u. u)) (hdlr_gone a.place a.s.now _ _ (told-refused full_of _ _ (sym c.in_err-read_full.ensures)))))

pub returns-then-s-lt12 : goal.returns-then-s-lt12
unfolding told
returns-then-s-lt12 c =
    let a = c.args in
    sym (ap (told (λ u. u)) (hdlr-short a.place a.s.now _ (full-here (upto 0) a.place a.s.now _ (sym c.in_ok-read_full.ensures)) c.if-s-lt12.true))

pub returns-then-be32-ne-PICT : goal.returns-then-be32-ne-PICT
unfolding told
returns-then-be32-ne-PICT c =
    let a = c.args in
    sym (ap (told (λ u. u)) (hdlr-other a.place a.s.now _ (full-here (upto 0) a.place a.s.now _ (sym c.in_ok-read_full.ensures))
    c.if-s-lt12.false (λ e. c.if-be32-ne-PICT.true (c.be32.ensures ∙ e))))

pub returns : goal.returns
unfolding told
returns c =
    let a = c.args in
    sym (ap (told (λ u. u)) (hdlr-pict a.place a.s.now _ (full-here (upto 0) a.place a.s.now _ (sym c.in_ok-read_full.ensures))
    c.if-s-lt12.false (sym c.be32.ensures ∙ c.if-be32-ne-PICT.false)))
