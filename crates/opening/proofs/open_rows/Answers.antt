-- `opening::open_rows` meets its contract. Assumes nothing.
use native.Mathlib.Omega.{arith}
use mathlib.Core.Path.{sym, ◌∙◌}
use lib.ListN.{drop}
use Rattle.judging.proofs.JudgedLaws.{handed}
use Rattle.opening.proofs.OpenedLaws.{on-refused, read_off, read-on, read_behind, judged_off, judged-on, judged_rowed}
use Rattle.opening.proofs.open_rows.Goals as goal

pub judge-requires : goal.judge-requires
judge-requires c =
    let a = c.args in
    let k = read-on a.total a.head.now a.table.now _ _ (sym c.in_ok-d.ensures.value) c.read_file.ensures.table_after in
    ((k.1.0, drop 11280 a.table.now, k.1.1), c.in_ok-d.ensures.by_index.0, omega (arith, c.requires, c.read_file.auto.rows))

pub returns-in_err-d : goal.returns-in_err-d
returns-in_err-d c =
    let a = c.args in
    let g = handed c.from_residual.result _ c.from_residual.ensures.1 in
    let o = read_off a.total a.head.now a.table.now _ (sym c.in_err-d.ensures.value) in
    record { opened_given = (g ∙ o.0, c.read_file.ensures.table_after ∙ o.1); resolved = λ f e. on-refused _ _ _ g }

pub returns-in-Err : goal.returns-in-Err
returns-in-Err c =
    let a = c.args in
    let r = c.read_file.ensures in
    let k = read-on a.total a.head.now a.table.now _ _ (sym c.in_ok-d.ensures.value) r.table_after in
    let j = c.judge.ensures.judged_by k.1.0 (drop 11280 a.table.now) k.1.1 (r.named_in k.1.0 k.0 k.1.1.read) in
    let behind = c.judge.ensures.table_unchanged ∙ read_behind a.total a.head.now a.table.now _ _ _ k.1.0 k.1.1 in
    let o = judged_off a.total a.head.now a.table.now k.0 k.1.0 k.1.1.read _ (sym c.in-Err.is ∙ j.answer) _ _ c.clear.ensures behind
    (omega (arith, k.0, c.judge.auto.table, c.read_file.auto.table)) in
    record { opened_given = o; resolved = λ f e. tt }

pub returns : goal.returns
returns c =
    let a = c.args in
    let r = c.read_file.ensures in
    let k = read-on a.total a.head.now a.table.now _ _ (sym c.in_ok-d.ensures.value) r.table_after in
    let named = r.named_in k.1.0 k.0 k.1.1.read in
    let j = c.judge.ensures.judged_by k.1.0 (drop 11280 a.table.now) k.1.1 named in
    let good = sym c.in_default.is ∙ j.answer in
    let rowed = judged_rowed a.total a.head.now (omega (arith, c.ranges.total)) _ k.1.0 _ _ _ c.read_file.new.rows k.1.1
    c.in_ok-d.ensures.by_index (omega (arith, c.requires, c.read_file.auto.rows)) named good j.left in
    record { opened_given = judged-on a.total a.head.now a.table.now k.0 k.1.0 k.1.1.read good _ j.left; resolved = rowed }
