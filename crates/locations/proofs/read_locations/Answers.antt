-- `locations::read_locations` meets its contract. Assumes nothing.
use mathlib.Core.Path.{refl, sym, ap}
use Rattle.std.proofs.lemmas.Result.{err_from_is_err_and}
use Rattle.boxes.specs.Told.{told}
use Rattle.boxes.proofs.ToldLaws.{told-refused}
use Rattle.contents.specs.Full.{upto}
use Rattle.contents.specs.Iloc.{extents_in}
use Rattle.contents.specs.inner.Told.{full_of}
use Rattle.contents.proofs.FullLaws.{full-here}
use Rattle.records.specs.inner.Rows.{ids_in}
use Rattle.locations.proofs.SizeLaws.{iloc_gone, iloc-sizes_gone, iloc_entries, four_wide}
use Rattle.locations.proofs.LoopLaws.{left-whole, left_gone, marks_refused, marks_whole}
use native.Mathlib.Omega.{arith}
use Rattle.locations.proofs.read_locations.Goals as goal

pub returns-in_err-h : goal.returns-in_err-h
unfolding told
returns-in_err-h c =
    let a = c.args in
    let p = err_from_is_err_and c.from_residual.result c.from_residual.ensures.1 in
    let e = iloc_gone (ids_in a.table.now a.n) a.place a.s.now _ _ (told-refused full_of _ _ (sym c.in_err-h.ensures)) in
    record {
      rows_len_unchanged = refl;
      named_rows = marks_refused _ a.rows.now _ _ e;
      value = rw (p.1, p.2) (sym (ap (told extents_in) e));
      locations_left = left_gone a.s.now a.place a.n a.idat a.table.now _ _ e;
    }

pub read_sizes-requires : goal.read_sizes-requires
read_sizes-requires c =
    let a = c.args in
    (full-here (upto 2) a.place a.s.now _ (sym c.in_ok-h.ensures)).room

pub returns-in_err-z : goal.returns-in_err-z
unfolding told
returns-in_err-z c =
    let a = c.args in
    let p = err_from_is_err_and c.from_residual-in_err-z.result c.from_residual-in_err-z.ensures.1 in
    let f = full-here (upto 2) a.place a.s.now _ (sym c.in_ok-h.ensures) in
    let e = iloc-sizes_gone (ids_in a.table.now a.n) a.place a.s.now _ f _ _ c.in_err-z.ensures in
    record {
      rows_len_unchanged = refl;
      named_rows = marks_refused _ a.rows.now _ _ e;
      value = rw (p.1, p.2) (sym (ap (told extents_in) e));
      locations_left = left_gone a.s.now a.place a.n a.idat a.table.now _ _ e;
    }

pub put_entries-requires : goal.put_entries-requires
put_entries-requires c =
    let z = c.in_ok-z.ensures in
    let pre = c.requires in
    (omega (arith, z.room, c.if-w-eq2.true), z.sized, pre.2, pre.0, pre.1, pre.3)

pub returns-then-w-eq2 : goal.returns-then-w-eq2
returns-then-w-eq2 c =
    let a = c.args in
    let f = full-here (upto 2) a.place a.s.now _ (sym c.in_ok-h.ensures) in
    let e = iloc_entries (ids_in a.table.now a.n) a.place a.s.now _ f _ _ c.in_ok-z.ensures 8
    (omega (arith, c.if-w-eq2.true)) in
    record {
      rows_len_unchanged = c.put_entries.ensures.rows_len_unchanged;
      named_rows =
          marks_whole _ _ c.put_entries.new.rows e c.put_entries.ensures.named_rows;
      value = rw e c.put_entries.ensures.value;
      locations_left =
          left-whole _ a.s.now a.place a.n a.idat a.table.now _ e c.put_entries.ensures.entries_left;
    }

pub put_entries-requires-2 : goal.put_entries-requires-2
put_entries-requires-2 c =
    let z = c.in_ok-z.ensures in
    let pre = c.requires in
    (omega (arith, z.room, four_wide _ z.sized c.if-w-eq2.false), z.sized, pre.2, pre.0, pre.1, pre.3)

pub returns : goal.returns
returns c =
    let a = c.args in
    let f = full-here (upto 2) a.place a.s.now _ (sym c.in_ok-h.ensures) in
    let e = iloc_entries (ids_in a.table.now a.n) a.place a.s.now _ f _ _ c.in_ok-z.ensures 10
    (omega (arith, four_wide _ c.in_ok-z.ensures.sized c.if-w-eq2.false)) in
    record {
      rows_len_unchanged = c.put_entries-2.ensures.rows_len_unchanged;
      named_rows =
          marks_whole _ _ c.put_entries-2.new.rows e c.put_entries-2.ensures.named_rows;
      value = rw e c.put_entries-2.ensures.value;
      locations_left =
          left-whole _ a.s.now a.place a.n a.idat a.table.now _ e c.put_entries-2.ensures.entries_left;
    }
