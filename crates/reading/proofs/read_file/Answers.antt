-- `reading::read_file` meets its contract. Assumes nothing.
use native.Mathlib.Omega.{arith}
use mathlib.Core.Path.{sym, ◌∙◌}
use lib.ListN.{drop}
use Rattle.reading.proofs.TopStage.{clear_is, clear_room, table_short, head_long, head_short, head_refused, head_read}
use Rattle.reading.proofs.MetaLaws.{read-long, read_short}
use Rattle.reading.proofs.NamedLaws.{no_file}
use Rattle.reading.proofs.read_file.Goals as goal

pub returns-then-table-lt-WORDS : goal.returns-then-table-lt-WORDS
returns-then-table-lt-WORDS c =
    let a = c.args in
    let p = table_short a.total a.head.now a.table.now c.if-table-lt-WORDS.true in
    record { value = p.0; table_after = p.1; by_index = tt; named_in = λ f l e. absurd (omega (arith, c.if-table-lt-WORDS.true)) }

pub returns-then-head-gt65536 : goal.returns-then-head-gt65536
returns-then-head-gt65536 c =
    let a = c.args in
    let p = head_long a.total a.head.now a.table.now c.if-table-lt-WORDS.false _ c.clear.ensures c.if-head-gt65536.true in
    record {
      value = p.0;
      table_after = p.1;
      by_index = tt;
      named_in = λ f l. no_file _ _ _ (read-long a.total a.head.now c.if-head-gt65536.true) f;
    }

pub returns-then-total-head : goal.returns-then-total-head
returns-then-total-head c =
    let a = c.args in
    let p = head_short a.total a.head.now a.table.now c.if-table-lt-WORDS.false _ c.clear.ensures c.if-head-gt65536.false c.if-total-head.true in
    record {
      value = p.0;
      table_after = p.1;
      by_index = tt;
      named_in = λ f l. no_file _ _ _ (read_short a.total a.head.now c.if-head-gt65536.false c.if-total-head.true) f;
    }

pub read_head-r-requires : goal.read_head-r-requires
read_head-r-requires c =
    let a = c.args in (
      c.if-head-gt65536.false,
      c.if-total-head.false,
      clear_room a.table.now c.if-table-lt-WORDS.false _ c.clear.ensures,
      c.requires,
      (drop 11280 a.table.now, c.clear.ensures ∙ clear_is a.table.now c.if-table-lt-WORDS.false),
    )

pub returns-then-is_err-clause-value : goal.returns-then-is_err-clause-value
returns-then-is_err-clause-value c =
    let a = c.args in
    let l = c.if-table-lt-WORDS.false in
    let r = c.read_head-r.ensures in
    (head_refused a.total a.head.now a.table.now l _ _ _ _ c.clear.ensures r.kept (r.by_index (drop 11280 a.table.now)
    (c.clear.ensures ∙ clear_is a.table.now l)) (sym c.is_err.ensures.value ∙ c.if-is_err.true) c.clear-then-is_err.ensures).0

pub returns-then-is_err-clause-table_after : goal.returns-then-is_err-clause-table_after
returns-then-is_err-clause-table_after c =
    let a = c.args in
    let l = c.if-table-lt-WORDS.false in
    let r = c.read_head-r.ensures in
    (head_refused a.total a.head.now a.table.now l _ _ _ _ c.clear.ensures r.kept (r.by_index (drop 11280 a.table.now)
    (c.clear.ensures ∙ clear_is a.table.now l)) (sym c.is_err.ensures.value ∙ c.if-is_err.true) c.clear-then-is_err.ensures).1

pub returns-else-is_err-clause-value : goal.returns-else-is_err-clause-value
returns-else-is_err-clause-value c =
    let a = c.args in
    let l = c.if-table-lt-WORDS.false in
    let r = c.read_head-r.ensures in
    (head_read a.total a.head.now a.table.now l _ _ (r.by_index (drop 11280 a.table.now)
    (c.clear.ensures ∙ clear_is a.table.now l)) (sym c.is_err.ensures.value ∙ c.if-is_err.false)).0

pub returns-else-is_err-clause-table_after : goal.returns-else-is_err-clause-table_after
returns-else-is_err-clause-table_after c =
    let a = c.args in
    let l = c.if-table-lt-WORDS.false in
    let r = c.read_head-r.ensures in
    (head_read a.total a.head.now a.table.now l _ _ (r.by_index (drop 11280 a.table.now)
    (c.clear.ensures ∙ clear_is a.table.now l)) (sym c.is_err.ensures.value ∙ c.if-is_err.false)).1
