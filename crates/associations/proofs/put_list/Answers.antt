-- `associations::put_list` meets its contract. Assumes nothing.
use Rattle.std.proofs.lemmas.Result.{err_from_is_err_and}
use Rattle.associations.proofs.KeepLaws.{kept_self}
use Rattle.associations.proofs.EntryLaws.{count-short, count-many, list-refused, list_put}
use Rattle.associations.proofs.put_list.Goals as goal

pub returns-then-s-at-lt1 : goal.returns-then-s-at-lt1
returns-then-s-at-lt1 c =
    let a = c.args in (
      count-short a.used a.f.most a.f.word a.place a.s.now a.at c.requires.0 c.if-s-at-lt1.true,
      kept_self _,
    )

pub returns-then-used-k-gt2048 : goal.returns-then-used-k-gt2048
returns-then-used-k-gt2048 c =
    let a = c.args in (
      count-many a.used a.f.most a.f.word a.place a.s.now a.at c.if-s-at-lt1.false
          c.be8-k.result c.be8-k.ensures c.if-used-k-gt2048.true,
      kept_self _,
    )

pub returns-in_err-end : goal.returns-in_err-end
returns-in_err-end c =
    let a = c.args in
    let p = err_from_is_err_and c.from_residual.result c.from_residual.ensures.1 in
    rw (p.1, p.2) (list-refused a.used a.f.most a.f.word a.place a.s.now a.at c.if-s-at-lt1.false c.be8-k.result
    c.be8-k.ensures c.if-used-k-gt2048.false a.row.0 a.table.now _ _ c.in_err-end.ensures)

pub returns : goal.returns
returns c =
    let a = c.args in
    list_put a.used a.f.most a.f.word a.place a.s.now a.at c.if-s-at-lt1.false c.be8-k.result
    c.be8-k.ensures c.if-used-k-gt2048.false a.row.0 a.table.now _ _ c.in_ok-end.ensures _ c.put_span.ensures
