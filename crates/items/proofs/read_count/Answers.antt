-- `items::read_count` meets its contract. Assumes nothing.
use mathlib.Core.Path.{refl, sym}
use mathlib.Core.Logic.{inl, inr}
use borrow.Author.Tests.{eq-eqb, ne_eqb}
use Rattle.std.proofs.lemmas.Result.{err_from_is_err_and}
use Rattle.fields.proofs.FieldLaws.{pick_yes, pick_no}
use Rattle.boxes.proofs.ToldLaws.{told-refused}
use Rattle.contents.specs.Full.{upto}
use Rattle.contents.specs.inner.Told.{full_of}
use Rattle.contents.proofs.FullLaws.{full-here}
use Rattle.items.proofs.FieldLaws.{count_gone}
use Rattle.items.proofs.read_count.Goals as goal

pub returns-in_err-h : goal.returns-in_err-h
returns-in_err-h c =
    let a = c.args in
    let p = err_from_is_err_and c.from_residual.result c.from_residual.ensures.1 in
    rw (p.1, p.2) (count_gone a.place a.s.now _ _ (told-refused full_of _ _ (sym c.in_err-h.ensures)))

pub count_of-requires : goal.count_of-requires
count_of-requires c =
    let a = c.args in
    ((full-here (upto 1) a.place a.s.now _ (sym c.in_ok-h.ensures)).room, inl refl)

pub returns-then-h-eq0 : goal.returns-then-h-eq0
returns-then-h-eq0 c =
    let a = c.args in
    c.count_of.ensures _ (full-here (upto 1) a.place a.s.now _ (sym c.in_ok-h.ensures)).read (pick_yes _ _ (eq-eqb _ _ c.if-h-eq0.true))

pub count_of-requires-2 : goal.count_of-requires-2
count_of-requires-2 c =
    let a = c.args in
    ((full-here (upto 1) a.place a.s.now _ (sym c.in_ok-h.ensures)).room, inr refl)

pub returns : goal.returns
returns c =
    let a = c.args in
    c.count_of-2.ensures _ (full-here (upto 1) a.place a.s.now _ (sym c.in_ok-h.ensures)).read (pick_no _ _ (ne_eqb _ _ c.if-h-eq0.false))
