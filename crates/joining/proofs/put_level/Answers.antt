-- `joining::put_level` meets its contract. Assumes nothing.
use Prim.Native.Nat.{ℕ, ◌+◌}
use mathlib.Core.Path.{sym, ap, subst, ◌∙◌}
use mathlib.Core.List.{List}
use lib.ListN.{length}
use Rattle.joining.proofs.RowLaws.{LevelRuns, level-put, level-not, level-end}
use Rattle.joining.proofs.put_level.Goals as goal
use Rattle.joining.proofs.put_level.Goals.{then-level_in-level, else-level_in-level}

pub loop-r-preserved : goal.loop-r-preserved
loop-r-preserved c =
    let a = c.args in
    let q = c.loop-r in
    elim c.if-level_in-level.branch [
      | then-level_in-level w ↦ (
        ap (λ (x : List ℕ). length x) w.runs-is ∙ w.put_row.ensures.runs_len,
        subst (λ (x : List ℕ). LevelRuns a.table.now a.rows.now a.end a.n a.level (q.r + 1)
            a.links.now a.runs.now x) (sym w.runs-is) (level-put a.table.now a.rows.now a.end a.n
            a.level a.links.now q.r c.level_in.result a.runs.now q.runs c.loop-r-test.true q.invariant.1 c.level_in.ensures _
            w.if-level_in-level.true w.put_row.ensures.by_index w.put_row.ensures.e_unchanged),
      )
      | else-level_in-level w ↦ (
        ap (λ (x : List ℕ). length x) w.runs-is ∙ q.invariant.0,
        subst (λ (x : List ℕ). LevelRuns a.table.now a.rows.now a.end a.n a.level (q.r + 1)
            a.links.now a.runs.now x) (sym w.runs-is) (level-not a.table.now a.rows.now a.end a.n
            a.level a.links.now q.r c.level_in.result a.runs.now q.runs c.loop-r-test.true q.invariant.1 c.level_in.ensures
            w.if-level_in-level.false),
      )
    ]

pub returns : goal.returns
returns c =
    let a = c.args in
    let q = c.loop-r in record {
      runs_to = level-end a.table.now a.rows.now a.end a.n a.level a.links.now q.r a.runs.now q.runs
          c.loop-r-test.false q.invariant.1;
      runs_len = q.invariant.0;
    }
