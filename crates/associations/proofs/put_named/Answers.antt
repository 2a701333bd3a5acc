-- `associations::put_named` meets its contract. Assumes nothing.
use Rattle.std.proofs.lemmas.Result.{err_from_is_err_and}
use Rattle.associations.proofs.EntryLaws.{entry_short, entry_low, entry_unlisted, entry_refused, entry_put, id-width}
use native.Mathlib.Omega.{arith}
use Rattle.associations.proofs.put_named.Goals as goal

pub returns-then-s-at : goal.returns-then-s-at
returns-then-s-at c =
    let a = c.args in
    λ before total last. entry_short a.table.now a.n a.f.most a.f.version a.f.word a.place
    a.s.now a.at a.above a.used c.id_bytes-w.result c.id_bytes-w.ensures
    c.requires.0 before total last c.if-s-at.true

pub be_id-id-requires : goal.be_id-id-requires
be_id-id-requires c =
    (omega (arith, c.requires.0, c.if-s-at.false), id-width c.args.f.version _ c.id_bytes-w.ensures)

pub returns-then-id-above : goal.returns-then-id-above
returns-then-id-above c =
    let a = c.args in
    λ before total last. entry_low a.table.now a.n a.f.most a.f.version a.f.word a.place
    a.s.now a.at a.above a.used c.id_bytes-w.result c.id_bytes-w.ensures c.requires.0 before
    total last c.if-s-at.false c.be_id-id.result c.be_id-id.ensures c.if-id-above.true

pub returns-in_default : goal.returns-in_default
returns-in_default c =
    let a = c.args in
    λ before total last. entry_unlisted a.table.now a.n a.f.most a.f.version a.f.word a.place
    a.s.now a.at a.above a.used c.id_bytes-w.result c.id_bytes-w.ensures c.requires.0 before
    total last c.if-s-at.false c.be_id-id.result c.be_id-id.ensures c.if-id-above.false c.in_default.ensures

pub returns-in_err-p : goal.returns-in_err-p
returns-in_err-p c =
    let a = c.args in
    let p = err_from_is_err_and c.from_residual.result c.from_residual.ensures.1 in
    λ before total last. rw (p.1, p.2) (entry_refused a.table.now a.n a.f.most a.f.version a.f.word a.place
    a.s.now a.at a.above a.used c.id_bytes-w.result c.id_bytes-w.ensures c.requires.0 before
    total last c.if-s-at.false c.be_id-id.result c.be_id-id.ensures c.if-id-above.false _
    c.in-Some.ensures _ _ c.in_err-p.ensures)

pub returns : goal.returns
returns c =
    let a = c.args in
    λ before total last. entry_put a.table.now a.n a.f.most a.f.version a.f.word a.place
    a.s.now a.at a.above a.used c.id_bytes-w.result c.id_bytes-w.ensures c.requires.0 before
    total last c.if-s-at.false c.be_id-id.result c.be_id-id.ensures c.if-id-above.false _
    c.in-Some.ensures _ _ c.in_ok-p.ensures
