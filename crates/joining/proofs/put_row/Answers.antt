-- `joining::put_row` meets its contract. Assumes nothing.
use Prim.Native.Nat.{◌+◌}
use native.Mathlib.Omega.{arith}
use mathlib.Core.Path.{refl, ◌∙◌}
use lib.ListN.{length-set}
use Rattle.joining.proofs.RunLaws.{joined-low}
use Rattle.joining.proofs.RowLaws.{row-none, row_more, row-all, row_other}
use Rattle.joining.proofs.put_row.Goals as goal

pub returns-then-past-gt512 : goal.returns-then-past-gt512
returns-then-past-gt512 c =
    let a = c.args in record {
      by_index = λ m w rl known. absurd (omega (
        arith,
        c.if-past-gt512.true,
        w.links.room a.row.0 rl,
        c.held_word-first.ensures (omega (arith, rl, w.links.few)),
        c.held_word.ensures (omega (arith, rl, w.links.few)),
      ));
      e_unchanged = λ h e o. refl;
      runs_len = c.requires.2;
    }

pub loop-e-init : goal.loop-e-init
loop-e-init c =
    let a = c.args in (
      c.requires.2,
      omega arith,
      row-none a.table.now a.rows.now a.end a.row.0
          c.held_word-first.result (c.held_word-first.result + c.held_word.result) c.held_word-first.ensures
          (λ h. omega (arith, c.held_word-first.ensures h, c.held_word.ensures h)) a.runs.now
          (omega (arith, c.ranges)),
    )

pub overflow_cast-runs : goal.overflow_cast-runs
overflow_cast-runs c =
    omega (arith, c.joined_run-behind.ensures, joined-low c.run_in-here.result c.size_at.result c.loop-e.behind 16403 c.run_in-here.ensures.upper_bound)

pub loop-e-preserved : goal.loop-e-preserved
loop-e-preserved c =
    let a = c.args in
    let q = c.loop-e in (
      length-set q.runs _ c.joined_run-behind.result ∙ q.invariant.0,
      omega (arith, c.joined_run-behind.ensures, joined-low c.run_in-here.result c.size_at.result q.behind 16403 c.run_in-here.ensures.upper_bound),
      row_more a.table.now a.rows.now a.end a.row.0 c.held_word-first.result (c.held_word-first.result + c.held_word.result) c.held_word-first.ensures
          (λ h. omega (arith, c.held_word-first.ensures h, c.held_word.ensures h)) q.e q.behind a.runs.now q.runs q.invariant.2
          c.run_in-here.result c.size_at.result c.joined_run-behind.result c.loop-e-test.true (omega arith)
          (omega (arith, c.if-past-gt512.false)) q.invariant.0 c.size_at.ensures
          c.run_in-here.ensures.by_index c.joined_run-behind.ensures,
    )

pub returns : goal.returns
returns c =
    let a = c.args in
    let q = c.loop-e in record {
      by_index = row-all a.table.now a.rows.now a.end a.row.0 c.held_word-first.result (c.held_word-first.result + c.held_word.result) c.held_word-first.ensures
          (λ h. omega (arith, c.held_word-first.ensures h, c.held_word.ensures h)) q.e q.behind a.runs.now q.runs q.invariant.2
          c.loop-e-test.false;
      e_unchanged = row_other a.table.now a.rows.now a.end a.row.0 c.held_word-first.result
          (c.held_word-first.result + c.held_word.result) c.held_word-first.ensures
          (λ h. omega (arith, c.held_word-first.ensures h, c.held_word.ensures h)) q.e q.behind
          a.runs.now q.runs q.invariant.2;
      runs_len = q.invariant.0;
    }
