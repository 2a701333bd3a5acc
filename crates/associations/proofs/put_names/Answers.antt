-- `associations::put_names` meets its contract. Assumes nothing.
use Rattle.std.proofs.lemmas.Result.{err_from_is_err_and}
use Rattle.associations.proofs.NameLaws.{names_begin, names-refused, names_more, names-left, names-done}
use native.Mathlib.Omega.{arith}
use Rattle.associations.proofs.put_names.Goals as goal

pub loop-i-init : goal.loop-i-init
loop-i-init c =
    let a = c.args in
    names_begin a.s.now a.from a.count a.f.most a.f.version a.f.word a.place a.n
    a.table.now c.requires.0

pub returns-in_err-t : goal.returns-in_err-t
returns-in_err-t c =
    let a = c.args in
    let l = c.loop-i in
    let p = err_from_is_err_and c.from_residual.result c.from_residual.ensures.1 in
    let z = names-refused a.s.now a.from a.count a.f.most a.f.version a.f.word a.place a.n
    a.table.now l.table l.at l.used l.above l.i l.invariant c.loop-i-test.true c.requires.2 _ _
    (c.in_err-t.ensures l.invariant.entries l.invariant.total l.invariant.last) in
    record { value = rw (p.1, p.2) z.0; names_left = z.1 }

pub overflow_add-used : goal.overflow_add-used
overflow_add-used c =
    let l = c.loop-i in
    let b = c.in_ok-t.ensures l.invariant.entries l.invariant.total l.invariant.last in
    omega (arith, b.fits)

pub overflow_add-hope : goal.overflow_add-hope
overflow_add-hope c =
    let l = c.loop-i in
    let b = c.in_ok-t.ensures l.invariant.entries l.invariant.total l.invariant.last in
    omega (arith, b.found.0)

pub loop-i-preserved : goal.loop-i-preserved
loop-i-preserved c =
    let a = c.args in
    let l = c.loop-i in
    names_more a.s.now a.from a.count a.f.most a.f.version a.f.word a.place a.n
    a.table.now l.table l.at l.used l.above l.i l.invariant c.loop-i-test.true c.requires.2 _ _
    (c.in_ok-t.ensures l.invariant.entries l.invariant.total l.invariant.last)

pub returns-then-at-s : goal.returns-then-at-s
returns-then-at-s c =
    let a = c.args in
    let l = c.loop-i in
    let z = names-left a.s.now a.from a.count a.f.most a.f.version a.f.word a.place a.n
    a.table.now l.table l.at l.used l.above l.i l.invariant c.loop-i-test.false
    c.if-at-s.true in
    record { value = z.0; names_left = z.1 }

pub returns : goal.returns
returns c =
    let a = c.args in
    let l = c.loop-i in
    let z = names-done a.s.now a.from a.count a.f.most a.f.version a.f.word a.place a.n
    a.table.now l.table l.at l.used l.above l.i l.invariant c.loop-i-test.false
    c.if-at-s.false in
    record { value = z.0; names_left = z.1 }
