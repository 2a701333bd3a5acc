-- `sizing::fill_row` meets its contract: one law a way out. Assumes nothing.
use mathlib.Core.Path.{refl, sym}
use Rattle.std.specs.Prelude.{Some, None}
use Rattle.std.proofs.lemmas.Option.{none-some}
use Rattle.sizing.proofs.PropertiesLaws.{said}
use Rattle.sizing.proofs.FillLaws.{sizes-drawn, sizes-opaque, sizes-past}
use Rattle.sizing.proofs.FaultLaws.{row_no_image, row-image, row-opaque, row-protected, row_wrong, row-declared}
use Rattle.sizing.proofs.fill_row.Goals as goal

pub returns-then-not-is_image : goal.returns-then-not-is_image
returns-then-not-is_image c =
    let a = c.args in
    let small = c.requires in
    record {
      value = λ pl f v h g told. row-opaque v a.row.0 h c.type_of.result c.type_of.ensures c.is_image.result
          c.is_image.ensures c.if-not-is_image.true;
      table_after = λ pl f v h told z. rw (← sizes-opaque f a.row.0 a.depth
          (row_no_image v a.row.0 h c.type_of.result c.type_of.ensures c.is_image.result c.is_image.ensures
          c.if-not-is_image.true)) c.put_sizes.ensures;
      table_unchanged = λ n. absurd (n refl);
      table_unchanged_2 = sizes-past a.table.now _ a.row.0 _ _ _ small.1 c.put_sizes.ensures;
    }

pub returns-then-record_word-ne0 : goal.returns-then-record_word-ne0
returns-then-record_word-ne0 c =
    let a = c.args in
    record {
      value = λ pl f v h g told. row-protected v a.row.0 h c.type_of.result c.type_of.ensures c.is_image.result
          c.is_image.ensures c.if-not-is_image.false
          g c.record_word.result c.record_word.ensures c.if-record_word-ne0.true;
      table_after = λ pl f v h told z. absurd (none-some _ (sym z));
      table_unchanged = λ n. refl;
      table_unchanged_2 = refl;
    }

pub returns-in_default : goal.returns-in_default
returns-in_default c =
    let a = c.args in
    record {
      value = λ pl f v h g told. row_wrong v a.row.0 h c.type_of.result c.type_of.ensures c.is_image.result c.is_image.ensures c.if-not-is_image.false g
          c.record_word.result c.record_word.ensures c.if-record_word-ne0.false c.properties_fault.result (c.properties_fault.ensures a.head.now pl f v h)
          (said f a.row.0 None (c.in_default.ensures pl f v h told));
      table_after = λ pl f v h told z. absurd (none-some _ (sym z));
      table_unchanged = λ z. refl;
      table_unchanged_2 = refl;
    }

pub returns : goal.returns
returns c =
    let a = c.args in
    let small = c.requires in
    record {
      value = λ pl f v h g told. row-declared v a.row.0 h c.type_of.result c.type_of.ensures c.is_image.result
          c.is_image.ensures c.if-not-is_image.false g c.record_word.result
          c.record_word.ensures c.if-record_word-ne0.false (said f a.row.0 (Some c.in-Some.s) (c.in-Some.ensures pl f v h told)).0;
      table_after = λ pl f v h told z. let q = said f a.row.0 (Some c.in-Some.s) (c.in-Some.ensures pl f v h told) in
          rw (← sizes-drawn f a.row.0 a.depth _ _
          (row-image v a.row.0 h c.type_of.result c.type_of.ensures c.is_image.result c.is_image.ensures
          c.if-not-is_image.false) q.1 q.2) c.put_sizes-2.ensures;
      table_unchanged = λ n. absurd (n refl);
      table_unchanged_2 = sizes-past a.table.now _ a.row.0 _ _ _ small.1 c.put_sizes-2.ensures;
    }
