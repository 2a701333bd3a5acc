-- `joining::copy_bytes` meets its contract. The loop's invariant: the bytes passed are copied. The measure is what is left of them.
-- Assumes nothing.
use native.Mathlib.Omega.{arith}
use mathlib.Core.Path.{refl, ◌∙◌}
use Rattle.joining.proofs.CopyLaws.{copied_none, copied_empty, copied_outside, copied_more, copied_all}
use Rattle.joining.proofs.copy_bytes.Goals as goal
use Rattle.joining.proofs.copy_bytes.Goals.{
  then-table-lt-WORDS-via-then-table-lt-WORDS,
  then-table-lt-WORDS-via-else-table-lt-WORDS+then-rows-lt2816,
  then-table-lt-WORDS-via-else-table-lt-WORDS+else-rows-lt2816+then-out-n,
  then-size-eq0-via-then-size-eq0,
  then-size-eq0-via-else-size-eq0+then-head-from,
  then-size-eq0-via-else-size-eq0+else-head-from+then-head-from-2,
}

pub returns-then-table-lt-WORDS : goal.returns-then-table-lt-WORDS
returns-then-table-lt-WORDS c = record {
  out_len_unchanged = refl;
  by_index = λ m a b d. absurd (elim c.then-table-lt-WORDS.branch [
    | then-table-lt-WORDS-via-then-table-lt-WORDS w ↦ omega arith
    | then-table-lt-WORDS-via-else-table-lt-WORDS+then-rows-lt2816 w ↦ omega arith
    | then-table-lt-WORDS-via-else-table-lt-WORDS+else-rows-lt2816+then-out-n w ↦ omega arith
  ]);
}

pub loop-done-init : goal.loop-done-init
loop-done-init c =
    let a = c.args in (
      omega arith,
      refl,
      copied_none a.table.now a.rows.now a.head.now a.out.now a.row.0 a.p
          a.n,
    )

pub returns-then-size-eq0 : goal.returns-then-size-eq0
returns-then-size-eq0 c =
    let a = c.args in
    let q = c.loop-done in
    record {
      out_len_unchanged = q.invariant.1;
      by_index = λ m x y z. elim c.then-size-eq0.branch [
        | then-size-eq0-via-then-size-eq0 w ↦ copied_empty a.table.now a.rows.now a.head.now a.out.now a.row.0 a.p
            a.n q.done q.out c.piece_at-q.result c.loop-done-test.true c.piece_at-q.ensures.by_index q.out w.if-size-eq0.true m
        | then-size-eq0-via-else-size-eq0+then-head-from w ↦ copied_outside a.table.now a.rows.now a.head.now a.out.now a.row.0 a.p
            a.n q.done q.out c.piece_at-q.result c.loop-done-test.true c.piece_at-q.ensures.by_index q.out (omega arith) m
        | then-size-eq0-via-else-size-eq0+else-head-from+then-head-from-2 w ↦ copied_outside a.table.now a.rows.now a.head.now a.out.now a.row.0 a.p
            a.n q.done q.out c.piece_at-q.result c.loop-done-test.true c.piece_at-q.ensures.by_index q.out (omega arith) m
      ];
    }

pub loop-done-preserved : goal.loop-done-preserved
loop-done-preserved c =
    let a = c.args in
    let q = c.loop-done in (
      omega (arith, c.piece_at-q.ensures.size_le_n, c.loop-done-test.true),
      c.copy_part.auto.out ∙ q.invariant.1,
      copied_more a.table.now a.rows.now a.head.now a.out.now a.row.0 a.p a.n q.done
          q.out c.piece_at-q.result c.loop-done-test.true c.piece_at-q.ensures.by_index c.copy_part.new.out q.invariant.2 c.copy_part.ensures,
    )

pub returns : goal.returns
returns c =
    let a = c.args in
    let q = c.loop-done in record {
      out_len_unchanged = q.invariant.1;
      by_index = λ m x y z. copied_all a.table.now a.rows.now a.head.now a.out.now a.row.0 a.p
          a.n q.done q.out (omega (arith, c.loop-done-test.false, q.invariant.0)) q.invariant.2 m;
    }
