-- `still::index_read` meets its contract. Assumes nothing.
use Rattle.std.proofs.Common.{sym, ◌∙◌}
use Rattle.std.proofs.lemmas.Result.{err_from_is_err_and}
use Rattle.boxes.proofs.ToldLaws.{told-ok, told-refused}
use Rattle.contents.specs.File.{File}
use Rattle.asked.specs.Told.{told_asked}
use Rattle.opening.proofs.FileLaws.{file-view}
use Rattle.still.specs.Told.{index_of}
use Rattle.still.proofs.OpenedLaws.{off, on}
use Rattle.still.proofs.ArrangedLaws.{order_given}
use Rattle.still.proofs.index_read.Goals as goal

pub returns-in_err-open_rows : goal.returns-in_err-open_rows
unfolding index_of told_asked
returns-in_err-open_rows c =
    let a = c.args in
    let o = c.in_err-open_rows.ensures in
    let p = err_from_is_err_and c.from_residual.result c.from_residual.ensures.1 in record {
      asked_read = (
        p.1 ∙ rw p.2 (off told_asked _ _ _ _ (told-refused (λ (f : File). tt) _ _ (sym o.opened_given.0))),
        o.opened_given.1,
      );
      order_given = order_given a.total a.head.now a.table.now (λ f. Unit {0}) _ _ o.opened_given.0 o.resolved;
    }

pub returns : goal.returns
unfolding index_of told_asked
returns c =
    let a = c.args in
    let o = c.in_ok-open_rows.ensures in
    let k = told-ok (λ (f : File). tt) _ _ (sym o.opened_given.0) in record {
      asked_read = (
        c.property_index.ensures _ _ k.0
            (file-view a.total a.head.now a.table.now c.ranges.total.fits k.0 k.1 _ o.opened_given.1) ∙
            on told_asked _ _ k.0 k.1,
        o.opened_given.1,
      );
      order_given = order_given a.total a.head.now a.table.now _ _ _ o.opened_given.0 o.resolved;
    }
