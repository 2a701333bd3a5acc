-- `sourced::sources_in` meets its contract. Assumes nothing.
use Prim.Native.Nat.{◌≤◌}
use native.Mathlib.Omega.{arith}
use mathlib.Core.Path.{sym}
use lib.ListN.{length}
use Rattle.std.proofs.lemmas.Result.{err_from_is_err_and}
use Rattle.boxes.proofs.ToldLaws.{told-refused}
use Rattle.needed.specs.inner.Marked.{marked_of}
use Rattle.asked.specs.inner.Told.{row_at}
use Rattle.asked.proofs.PicturedLaws.{row_told}
use Rattle.sourced.proofs.SourcesLaws.{sources_off, sources-over, sources-fit}
use Rattle.sourced.proofs.sources_in.Goals as goal

pub returns-in_err-row : goal.returns-in_err-row
returns-in_err-row c =
    let a = c.args in
    let p = err_from_is_err_and c.from_residual.result c.from_residual.ensures.1 in
    λ total head f w.
    rw (p.1, p.2) (sources_off w a.id.0 (length a.list.now) a.list.now _
    (told-refused row_at _ _ (sym (c.in_err-row.ensures _ _ f w.followed.view))))

pub returns-then-n-gt256 : goal.returns-then-n-gt256
returns-then-n-gt256 c =
    λ total head f w. absurd (omega (
      arith,
      w.followed.view.items,
      c.item_count-n.ensures,
      w.followed.view.bounded.few-items,
    ))

pub returns-then-list-count : goal.returns-then-list-count
returns-then-list-count c =
    λ total head f w.
    let a = c.args in
    let q = row_told _ _ (c.in_ok-row.ensures _ _ f w.followed.view) in
    sources-over w a.id.0 (length a.list.now) a.list.now _ q
    c.item_count-n.result c.needed_of-marks.result c.item_count-n.ensures
    c.needed_of-marks.ensures (omega (arith, c.if-list-count.true, c.count_sources-count.ensures)) _
    c.refusal.ensures.0 c.refusal.ensures.1

pub returns : goal.returns
returns c =
    λ total head f w.
    let a = c.args in
    let q = row_told _ _ (c.in_ok-row.ensures _ _ f w.followed.view) in
    let n : length (marked_of a.table.now c.needed_of-marks.result c.item_count-n.result) ≤ length a.list.now
    = omega (arith, c.if-list-count.false, c.count_sources-count.ensures) in
    sources-fit w a.id.0 (length a.list.now) a.list.now _ q
    c.item_count-n.result c.needed_of-marks.result c.item_count-n.ensures
    c.needed_of-marks.ensures n _ _ c.count_sources-count.ensures (c.put_sources.ensures n)
