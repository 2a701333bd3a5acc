-- `needed::count_sources` meets its contract. The loop's invariant: the sources of the rows passed are counted. Assumes nothing.
use native.Mathlib.Omega.{arith}
use Rattle.needed.proofs.MarkedLaws.{marked-few, count_none, count-take, count_pass}
use Rattle.needed.proofs.count_sources.Goals.{then-is_source, else-is_source}
use Rattle.needed.proofs.count_sources.Goals as goal

pub loop-k-init : goal.loop-k-init
loop-k-init c = let a = c.args in count_none a.table.now a.marks.now

pub overflow_add-count : goal.overflow_add-count
overflow_add-count c =
    let a = c.args in
    let q = c.loop-k in
    omega (arith, marked-few a.table.now a.marks.now q.k)

pub loop-k-preserved : goal.loop-k-preserved
loop-k-preserved c =
    let a = c.args in
    let q = c.loop-k in
    elim c.if-is_source.branch [
      | then-is_source w ↦ count-take a.table.now a.marks.now q.k c.row_at.result.0 c.is_source.result c.row_at.ensures
          (omega arith) c.is_source.ensures q.count c.if-is_source.count q.invariant w.if-is_source.true w.count-is
      | else-is_source w ↦ count_pass a.table.now a.marks.now q.k c.row_at.result.0 c.is_source.result c.row_at.ensures (omega arith)
          c.is_source.ensures q.count c.if-is_source.count q.invariant w.if-is_source.false w.count-is
    ]
