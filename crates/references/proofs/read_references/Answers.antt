-- `references::read_references` meets its contract. Assumes nothing.
use mathlib.Core.Path.{refl, sym, ◌∙◌}
use mathlib.Core.Logic.{inl, inr}
use borrow.Author.Tests.{eq-eqb, ne_eqb}
use Rattle.std.proofs.lemmas.Result.{err_from_is_err_and}
use Rattle.fields.proofs.FieldLaws.{pick_yes, pick_no}
use Rattle.boxes.proofs.ToldLaws.{told-refused}
use Rattle.contents.specs.Full.{upto}
use Rattle.contents.specs.inner.Told.{full_of}
use Rattle.contents.proofs.FullLaws.{full-here}
use Rattle.references.proofs.IrefLaws.{tells_gone, tells_by}
use Rattle.references.proofs.NameLaws.{cleared_mark, cleared-past}
use Rattle.references.proofs.RowedLaws.{no_targets}
use native.Mathlib.Omega.{arith}
use Rattle.references.proofs.read_references.Goals as goal

pub put_references-requires : goal.put_references-requires
put_references-requires c =
    let a = c.args in
    let p = c.requires in record {
      in_bounds = (
        p.in_bounds.0,
        omega (arith, c.clear_marks.auto.rows, p.in_bounds.1),
        p.in_bounds.2,
        p.in_bounds.3,
        (full-here (upto 1) a.place a.s.now _ (sym c.in_ok-h.ensures)).room,
        inl refl,
      );
      distinct = (
        p.distinct.0,
        p.distinct.1,
        λ k h. cleared_mark a.rows.now _ 256 refl c.clear_marks.ensures p.in_bounds.1
            k (omega (arith, p.in_bounds.2)),
      );
    }

pub returns-then-h-eq0 : goal.returns-then-h-eq0
returns-then-h-eq0 c =
    let a = c.args in
    let x = tells_by a.s.now a.place a.base a.n a.table.now a.rows.now _
    (full-here (upto 1) a.place a.s.now _ (sym c.in_ok-h.ensures)) 2
    (pick_yes _ _ (eq-eqb _ _ c.if-h-eq0.true)) _
    (cleared-past a.rows.now _ 256 refl c.clear_marks.ensures) _ _ _ c.put_references.ensures.value
    c.put_references.ensures.children_left in
    record {
      value = x.0;
      references_left = x.1;
      by_index = c.put_references.ensures.by_index;
      rows_len_unchanged =
          c.put_references.auto.rows ∙ c.clear_marks.auto.rows;
      named_rows = x.2;
    }

pub put_references-requires-2 : goal.put_references-requires-2
put_references-requires-2 c =
    let a = c.args in
    let p = c.requires in record {
      in_bounds = (
        p.in_bounds.0,
        omega (arith, c.clear_marks.auto.rows, p.in_bounds.1),
        p.in_bounds.2,
        p.in_bounds.3,
        (full-here (upto 1) a.place a.s.now _ (sym c.in_ok-h.ensures)).room,
        inr refl,
      );
      distinct = (
        p.distinct.0,
        p.distinct.1,
        λ k h. cleared_mark a.rows.now _ 256 refl c.clear_marks.ensures p.in_bounds.1
            k (omega (arith, p.in_bounds.2)),
      );
    }

pub returns-in_err-h : goal.returns-in_err-h
returns-in_err-h c =
    let a = c.args in
    let r = err_from_is_err_and c.from_residual.result c.from_residual.ensures.1 in
    let x = tells_gone a.s.now a.place a.base a.n a.table.now a.rows.now _
    (told-refused full_of _ _ (sym c.in_err-h.ensures)) in
    record { value = rw (r.1, r.2) x.0; references_left = x.1; by_index = λ m e. no_targets _ m (sym r.1 ∙ e); rows_len_unchanged = refl; named_rows = x.2 }

pub returns : goal.returns
returns c =
    let a = c.args in
    let x = tells_by a.s.now a.place a.base a.n a.table.now a.rows.now _
    (full-here (upto 1) a.place a.s.now _ (sym c.in_ok-h.ensures)) 4
    (pick_no _ _ (ne_eqb _ _ c.if-h-eq0.false)) _
    (cleared-past a.rows.now _ 256 refl c.clear_marks.ensures) _ _ _ c.put_references-2.ensures.value
    c.put_references-2.ensures.children_left in
    record {
      value = x.0;
      references_left = x.1;
      by_index = c.put_references-2.ensures.by_index;
      rows_len_unchanged = c.put_references-2.auto.rows ∙ c.clear_marks.auto.rows;
      named_rows = x.2;
    }
