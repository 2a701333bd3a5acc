-- `items::read_infe` meets its contract. Assumes nothing.
use mathlib.Core.Path.{refl, sym}
use mathlib.Core.Logic.{inl, inr}
use borrow.Author.Tests.{eq-eqb, ne_eqb}
use Rattle.std.proofs.lemmas.Result.{err_from_is_err_and}
use Rattle.fields.proofs.FieldLaws.{pick_yes, pick_no}
use Rattle.boxes.proofs.ToldLaws.{told-refused}
use Rattle.contents.specs.Full.{between}
use Rattle.contents.specs.inner.Told.{full_of}
use Rattle.contents.proofs.FullLaws.{full-here}
use Rattle.items.proofs.FieldLaws.{infe_gone}
use Rattle.items.proofs.read_infe.Goals as goal

pub returns-in_err-h : goal.returns-in_err-h
returns-in_err-h c =
    let a = c.args in
    let p = err_from_is_err_and c.from_residual.result c.from_residual.ensures.1 in
    λ before k. rw (p.1, p.2) (infe_gone before a.place a.s.now _ _ (told-refused full_of _ _ (sym c.in_err-h.ensures)))

pub read_info-requires : goal.read_info-requires
read_info-requires c =
    let a = c.args in
    ((full-here (between 2 3) a.place a.s.now _ (sym c.in_ok-h.ensures)).room, inl refl, c.requires)

pub returns-then-h-eq2 : goal.returns-then-h-eq2
returns-then-h-eq2 c =
    let a = c.args in
    c.read_info.ensures _ (full-here (between 2 3) a.place a.s.now _ (sym c.in_ok-h.ensures)).read (pick_yes _ _ (eq-eqb _ _ c.if-h-eq2.true))

pub read_info-requires-2 : goal.read_info-requires-2
read_info-requires-2 c =
    let a = c.args in
    ((full-here (between 2 3) a.place a.s.now _ (sym c.in_ok-h.ensures)).room, inr refl, c.requires)

pub returns : goal.returns
returns c =
    let a = c.args in
    c.read_info-2.ensures _ (full-here (between 2 3) a.place a.s.now _ (sym c.in_ok-h.ensures)).read (pick_no _ _ (ne_eqb _ _ c.if-h-eq2.false))
