-- `locations::put_entries` meets its contract. The loop's invariant is `So`: the entries so far are read and in the
-- table, and their marks among the rows. Assumes nothing.
use mathlib.Core.Path.{sym, ap, ◌∙◌}
use Rattle.std.proofs.lemmas.Result.{err_from_is_err_and}
use Rattle.boxes.specs.Told.{told}
use Rattle.contents.specs.Iloc.{extents_in}
use Rattle.locations.proofs.LoopLaws.{so_start, so_refused, so_again, so_left, so_done, marks_refused, marks_read}
use Rattle.locations.proofs.put_entries.Goals as goal

pub loop-i-init : goal.loop-i-init
loop-i-init c =
    let a = c.args in
    so_start a.s.now a.from a.count a.w a.place a.n a.idat a.table.now a.rows.now c.requires.0
    c.requires.5

pub put_entry-requires : goal.put_entry-requires
put_entry-requires c =
    let p = c.requires in
    let h = c.loop-i.invariant in
    (h.room, p.1, h.few, p.2, rw h.kept.same_length p.3, rw h.long p.4)

pub returns-in_err-t : goal.returns-in_err-t
unfolding told
returns-in_err-t c =
    let a = c.args in
    let l = c.loop-i in
    let p = err_from_is_err_and c.from_residual.result c.from_residual.ensures.1 in
    let w = so_refused a.s.now a.from a.count a.w a.place a.n a.idat a.table.now a.rows.now
    l.table _ l.rows _ l.at l.used l._i l.invariant c.loop-i-test.true _ c.in_err-t.ensures in
    record {
      rows_len_unchanged = c.put_entry.auto.rows ∙ l.invariant.long;
      named_rows = marks_refused _ _ _ _ w.0;
      value = rw (p.1, p.2) (sym (ap (told extents_in) w.0));
      entries_left = w.1;
    }

pub loop-i-preserved : goal.loop-i-preserved
loop-i-preserved c =
    let p = c.requires in
    let a = c.args in
    let l = c.loop-i in
    so_again a.s.now a.from a.count a.w a.place a.n a.idat a.table.now a.rows.now l.table _
    l.rows _ l.at l.used l._i l.invariant c.loop-i-test.true p.2 p.3 p.4 p.5.distinct _ _ _ c.in_ok-t.ensures

pub returns-then-at-s : goal.returns-then-at-s
unfolding told
returns-then-at-s c =
    let a = c.args in
    let l = c.loop-i in
    let z = so_left a.s.now a.from a.count a.w a.place a.n a.idat a.table.now a.rows.now
    l.table l.rows l.at l.used l._i l.invariant c.loop-i-test.false c.if-at-s.true in
    record { rows_len_unchanged = l.invariant.long; named_rows = marks_refused _ l.rows _ _ z.0; value = sym (ap (told extents_in) z.0); entries_left = z.1 }

pub returns : goal.returns
unfolding told
returns c =
    let a = c.args in
    let l = c.loop-i in
    let z = so_done a.s.now a.from a.count a.w a.place a.n a.idat a.table.now a.rows.now
    l.table l.rows l.at l.used l._i l.invariant c.loop-i-test.false c.if-at-s.false in
    record {
      rows_len_unchanged = l.invariant.long;
      named_rows =
          marks_read _ l.rows l.invariant.ls z.0 l.invariant.named;
      value =
          rw l.invariant.located.count (sym (ap (told extents_in) z.0));
      entries_left = z.1;
    }
