-- `contents::read_pitm` meets its contract. Assumes nothing.
use mathlib.Core.Path.{sym, ap}
use borrow.Author.Tests.{eq-eqb, ne_eqb}
use Rattle.std.proofs.lemmas.Result.{err_from_is_err_and}
use Rattle.fields.proofs.FieldLaws.{pick_yes, pick_no}
use Rattle.boxes.specs.Told.{told}
use Rattle.boxes.proofs.ToldLaws.{told-refused}
use Rattle.contents.specs.Full.{upto}
use Rattle.contents.specs.inner.Told.{full_of, item_id}
use Rattle.contents.proofs.FullLaws.{full-here, pitm_gone, pitm-is, pitm-not}
use Rattle.contents.proofs.read_pitm.Goals as goal

pub returns-in_err-h : goal.returns-in_err-h
unfolding told
returns-in_err-h c =
    let a = c.args in
    let p = err_from_is_err_and c.from_residual.result c.from_residual.ensures.1 in
    rw (p.1, p.2) (sym (ap (told item_id) (pitm_gone a.place a.s.now _ _ (told-refused full_of _ _ (sym c.in_err-h.ensures)))))

pub returns-then-s-eq6 : goal.returns-then-s-eq6
unfolding told
returns-then-s-eq6 c =
    let a = c.args in
    rw c.be16.ensures (sym (ap (told item_id) (pitm-is a.place a.s.now _
    (full-here (upto 1) a.place a.s.now _ (sym c.in_ok-h.ensures)) 2
    (pick_yes _ _ (eq-eqb _ _ c.if-h-eq0.true)) c.if-s-eq6.true)))

pub returns-then-h-eq0 : goal.returns-then-h-eq0
unfolding told
returns-then-h-eq0 c =
    let a = c.args in
    sym (ap (told item_id) (pitm-not a.place a.s.now _
    (full-here (upto 1) a.place a.s.now _ (sym c.in_ok-h.ensures)) 2
    (pick_yes _ _ (eq-eqb _ _ c.if-h-eq0.true)) c.if-s-eq6.false))

pub returns-then-s-eq8 : goal.returns-then-s-eq8
unfolding told
returns-then-s-eq8 c =
    let a = c.args in
    rw c.be32.ensures (sym (ap (told item_id) (pitm-is a.place a.s.now _
    (full-here (upto 1) a.place a.s.now _ (sym c.in_ok-h.ensures)) 4
    (pick_no _ _ (ne_eqb _ _ c.if-h-eq0.false)) c.if-s-eq8.true)))

pub returns : goal.returns
unfolding told
returns c =
    let a = c.args in
    sym (ap (told item_id) (pitm-not a.place a.s.now _
    (full-here (upto 1) a.place a.s.now _ (sym c.in_ok-h.ensures)) 4
    (pick_no _ _ (ne_eqb _ _ c.if-h-eq0.false)) c.if-s-eq8.false))
