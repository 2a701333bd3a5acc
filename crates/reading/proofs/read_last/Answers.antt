-- `reading::read_last` meets its contract. Assumes nothing.
use native.Mathlib.Omega.{arith}
use mathlib.Core.Path.{refl, sym}
use Rattle.rules.specs.Places.{places_at}
use Rattle.records.proofs.KeptLaws.{kept_on}
use Rattle.reading.specs.inner.Parts.{kids}
use Rattle.reading.proofs.ChainLaws.{ids-distinct, none-derived}
use Rattle.reading.proofs.LastLaws.{iref-within, part-fits, head_kept, counts_few, last_none, last-none-named, last_gone, last-few, last-read, last-named}
use Rattle.reading.proofs.StageLaws.{handed, after-handed, on-handed}
use Rattle.reading.proofs.NamedLaws.{none-named}
use Rattle.reading.proofs.RowedLaws.{none_rowed, head_rowed}
use Rattle.reading.proofs.read_last.Goals as goal

pub put_head-requires : goal.put_head-requires
put_head-requires c =
    let a = c.args in
    let p = c.requires in
    let h = counts_few a.s.now a.at a.c p.4.0 p.4.1 a.table.now p.4.2 in
    (p.2, h.0, h.1, h.2, h.3, h.4)

pub found_idat-requires : goal.found_idat-requires
found_idat-requires c =
    (c.args.s.now, c.requires.0, c.requires.1)

pub returns-then-r-eq0 : goal.returns-then-r-eq0
returns-then-r-eq0 c =
    let a = c.args in
    let p = c.requires in
    record {
      after = λ f x l. last_none a.s.now a.at a.total a.primary.0 _ p.0 a.c f x _ l c.if-r-eq0.true _ c.put_head.ensures _
          (c.found_idat.ensures _ p.0);
      kept = head_kept _ _ _ _ _ _ _ _ _ _ c.put_head.ensures;
      by_index = head_rowed a.table.now _ a.rows.now _ _ _ _ _ _ _ _ c.put_head.ensures p.2
          (none_rowed a.c.items a.c.targets a.table.now a.rows.now p.4.2.targets);
      named_of = λ f x l n. last-none-named a.s.now a.at a.total a.primary.0 _ p.0 a.c f x _ l c.if-r-eq0.true a.rows.now n;
    }

pub overflow_add-place : goal.overflow_add-place
overflow_add-place c =
    let h = iref-within c.args.s.now c.args.at _ c.requires.0 c.requires.1 c.if-r-eq0.false in
    omega arith

pub overflow_add-base : goal.overflow_add-base
overflow_add-base c =
    let h = iref-within c.args.s.now c.args.at _ c.requires.0 c.requires.1 c.if-r-eq0.false in
    omega arith

pub slice_bounds-read_references-count : goal.slice_bounds-read_references-count
slice_bounds-read_references-count c =
    let h = iref-within c.args.s.now c.args.at _ c.requires.0 c.requires.1 c.if-r-eq0.false in
    omega arith

pub slice_bounds-read_references-start : goal.slice_bounds-read_references-start
slice_bounds-read_references-start c =
    let h = iref-within c.args.s.now c.args.at _ c.requires.0 c.requires.1 c.if-r-eq0.false in
    omega arith

pub slice_bounds-read_references-end : goal.slice_bounds-read_references-end
slice_bounds-read_references-end c =
    let h = iref-within c.args.s.now c.args.at _ c.requires.0 c.requires.1 c.if-r-eq0.false in
    omega arith

pub read_references-requires : goal.read_references-requires
read_references-requires c =
    let a = c.args in
    let p = c.requires in
    let h = iref-within a.s.now a.at _ p.0 p.1 c.if-r-eq0.false in
    let k = counts_few a.s.now a.at a.c p.4.0 p.4.1 a.table.now p.4.2 in
    let b = p.4.2.before in
    record {
      in_bounds = (p.2, p.3, k.0, part-fits a.s.now a.at _ p.1 h);
      distinct = (
        ids-distinct a.s.now a.at a.c.items p.4.0 p.4.1 a.table.now b,
        none-derived a.s.now a.at a.c.items p.4.0 p.4.1 a.table.now b p.4.2.none,
      );
    }

pub put_head-requires-2 : goal.put_head-requires-2
put_head-requires-2 c =
    let a = c.args in
    let p = c.requires in
    let h = counts_few a.s.now a.at a.c p.4.0 p.4.1 a.table.now p.4.2 in
    let k = last-few a.s.now a.at a.total a.primary.0 _ p.0 a.c p.4.0 p.4.1 _ p.4.2 c.if-r-eq0.false _ refl _
    (sym c.in_ok-targets.ensures.value) in
    (omega (arith, c.read_references.ensures.references_left.kept.same_length, p.2), h.0, h.1, h.2, k, h.4)

pub found_idat-requires-2 : goal.found_idat-requires-2
found_idat-requires-2 c =
    (c.args.s.now, c.requires.0, c.requires.1)

pub returns-in_err-targets : goal.returns-in_err-targets
returns-in_err-targets c =
    let a = c.args in
    let g = handed c.from_residual.result _ c.from_residual.ensures.1 in
    record {
      after = λ f x l. after-handed _ _ _ _ _ _ x _ g (last_gone a.s.now a.at a.total a.primary.0 _ c.requires.0 a.c f x _ l
          c.if-r-eq0.false _ refl _ (sym c.in_err-targets.ensures.value));
      kept = c.read_references.ensures.references_left.kept;
      by_index = on-handed _ _ _ g;
      named_of = λ f x l n. none-named _ _ _ _ (last_gone a.s.now a.at a.total a.primary.0 _ c.requires.0 a.c f x _ l
          c.if-r-eq0.false _ refl _ (sym c.in_err-targets.ensures.value));
    }

pub returns : goal.returns
returns c =
    let a = c.args in
    let p = c.requires in
    let t = c.read_references.ensures in
    let q = sym c.in_ok-targets.ensures.value in
    record {
      after = λ f x l. last-read a.s.now a.at a.total a.primary.0 _ p.0 a.c f x _ l c.if-r-eq0.false _ refl _ q _ _ t.references_left
          c.put_head-2.ensures _ (c.found_idat-2.ensures _ p.0);
      kept = kept_on _ _ _ t.references_left.kept (head_kept _ _ _ _ _ _ _ _ _ _ c.put_head-2.ensures);
      by_index = head_rowed c.read_references.new.table _ c.read_references.new.rows _ _ _ _ _ _ _ _ c.put_head-2.ensures
          (omega (arith, t.references_left.kept.same_length, p.2)) (t.by_index _ c.in_ok-targets.was);
      named_of = λ f x l n. last-named a.s.now a.at a.total a.primary.0 _ p.0 a.c f x _ l c.if-r-eq0.false _ refl _ q
          c.read_references.new.rows (λ refs g. t.named_rows (places_at a.at (kids a.s.now)) f x refs l.before.ready l.none l.no_links
          g l.before.is n);
    }
