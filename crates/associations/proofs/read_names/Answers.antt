-- `associations::read_names` meets its contract. Assumes nothing.
use mathlib.Core.Path.{sym}
use borrow.Author.Tests.{eq-eqb, ne_eqb}
use Rattle.std.proofs.lemmas.Result.{err_from_is_err_and}
use Rattle.fields.proofs.FieldLaws.{pick_yes, pick_no}
use Rattle.associations.proofs.NameLaws.{read_short, read-many, read_gone, read_entries}
use Rattle.associations.proofs.read_names.Goals as goal

pub returns-in_err-h : goal.returns-in_err-h
returns-in_err-h c =
    let a = c.args in
    let p = err_from_is_err_and c.from_residual.result c.from_residual.ensures.1 in
    let z = read_gone a.table.now a.n a.most a.place a.s.now _ c.in_err-h.ensures in
    record { value = rw (p.1, p.2) z.0; names_left = z.1 }

pub returns-then-s-lt8 : goal.returns-then-s-lt8
returns-then-s-lt8 c =
    let a = c.args in
    let z = read_short a.table.now a.n a.most a.place a.s.now _ c.in_ok-h.ensures c.if-s-lt8.true in
    record { value = z.0; names_left = z.1 }

pub returns-then-count-gt256 : goal.returns-then-count-gt256
returns-then-count-gt256 c =
    let a = c.args in
    let z = read-many a.table.now a.n a.most a.place a.s.now _ c.in_ok-h.ensures
    c.if-s-lt8.false _ c.be32-count.ensures c.if-count-gt256.true in
    record { value = z.0; names_left = z.1 }

pub returns-then-h-eq1 : goal.returns-then-h-eq1
returns-then-h-eq1 c =
    let a = c.args in
    let z = read_entries a.table.now a.n a.most a.place a.s.now _ c.in_ok-h.ensures
    c.if-s-lt8.false _ c.be32-count.ensures c.if-count-gt256.false 2
    (sym (pick_yes _ _ (eq-eqb _ _ c.if-h-eq1.true))) _ _ (c.put_names.ensures.value, c.put_names.ensures.names_left) in
    record { value = z.0; names_left = z.1 }

pub returns : goal.returns
returns c =
    let a = c.args in
    let z = read_entries a.table.now a.n a.most a.place a.s.now _ c.in_ok-h.ensures
    c.if-s-lt8.false _ c.be32-count.ensures c.if-count-gt256.false 1
    (sym (pick_no _ _ (ne_eqb _ _ c.if-h-eq1.false))) _ _ (c.put_names-2.ensures.value, c.put_names-2.ensures.names_left) in
    record { value = z.0; names_left = z.1 }
