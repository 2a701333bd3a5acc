-- `reading::read_iprp` meets its contract. Assumes nothing.
use native.Mathlib.Omega.{arith}
use mathlib.Core.Path.{refl, sym}
use Rattle.records.proofs.KeptLaws.{kept_on}
use Rattle.reading.proofs.StageLaws.{handed, after-handed, on-handed, after_same}
use Rattle.reading.proofs.LastLaws.{part_room}
use Rattle.reading.proofs.NextLaws.{iprp-within, iprp_gone, iprp-on}
use Rattle.reading.proofs.NamedLaws.{same-named, none-named}
use Rattle.reading.proofs.read_iprp.Goals as goal

pub overflow_add-place : goal.overflow_add-place
overflow_add-place c =
    let h = iprp-within c.args.s.now c.args.at _ c.requires.0 c.requires.1 in
    omega arith

pub overflow_add-base : goal.overflow_add-base
overflow_add-base c =
    let h = iprp-within c.args.s.now c.args.at _ c.requires.0 c.requires.1 in
    omega arith

pub slice_bounds-read_iprp_content-count : goal.slice_bounds-read_iprp_content-count
slice_bounds-read_iprp_content-count c =
    let h = iprp-within c.args.s.now c.args.at _ c.requires.0 c.requires.1 in
    omega arith

pub slice_bounds-read_iprp_content-start : goal.slice_bounds-read_iprp_content-start
slice_bounds-read_iprp_content-start c =
    let h = iprp-within c.args.s.now c.args.at _ c.requires.0 c.requires.1 in
    omega arith

pub slice_bounds-read_iprp_content-end : goal.slice_bounds-read_iprp_content-end
slice_bounds-read_iprp_content-end c =
    let h = iprp-within c.args.s.now c.args.at _ c.requires.0 c.requires.1 in
    omega arith

pub read_iprp_content-requires : goal.read_iprp_content-requires
read_iprp_content-requires c =
    let a = c.args in
    let p = c.requires in
    let h = iprp-within a.s.now a.at _ p.0 p.1 in
    let k = p.4.3.ready in
    (p.2, omega (arith, k.count, k.bounded.few-items), part_room a.s.now a.at _ p.1 h)

pub read_last-requires : goal.read_last-requires
read_last-requires c =
    let a = c.args in
    let p = c.requires in
    let l = c.read_iprp_content.ensures.shown_left in
    let o = iprp-on a.s.now a.at _ p.0 a.n p.4.0 p.4.1 p.4.2 _ p.4.3 _ refl _ (sym c.in_ok-shown.ensures.value) _ l a.extents p.4.4 0 in
    (p.0, p.1, omega (arith, l.kept.same_length, p.2), p.3, (_, p.4.2, o.1))

pub returns-in_err-shown : goal.returns-in_err-shown
returns-in_err-shown c =
    let a = c.args in
    let g = handed c.from_residual.result _ c.from_residual.ensures.1 in
    record {
      after = λ is ls x b e. after-handed _ _ _ _ _ _ x _ g (iprp_gone a.s.now a.at _ c.requires.0 a.n is ls x _ b _ refl a.primary.0 _
          (sym c.in_err-shown.ensures.value));
      kept = c.read_iprp_content.ensures.shown_left.kept;
      by_index = on-handed _ _ _ g;
      named_of = λ is ls x b e n. none-named _ _ _ _ (iprp_gone a.s.now a.at _ c.requires.0 a.n is ls x _ b _ refl a.primary.0 _
          (sym c.in_err-shown.ensures.value));
    }

pub returns : goal.returns
returns c =
    let a = c.args in
    let l = c.read_iprp_content.ensures.shown_left in
    record {
      after = λ is ls x b e.
          let o = iprp-on a.s.now a.at _ c.requires.0 a.n is ls x _ b _ refl _ (sym c.in_ok-shown.ensures.value) _ l a.extents e a.primary.0 in
          after_same a.s.now a.at a.total _ _ _ x _ o.2 (c.read_last.ensures.after _ x o.1);
      kept = kept_on _ _ _ l.kept c.read_last.ensures.kept;
      by_index = c.read_last.ensures.by_index;
      named_of = λ is ls x b e n.
          let o = iprp-on a.s.now a.at _ c.requires.0 a.n is ls x _ b _ refl _ (sym c.in_ok-shown.ensures.value) _ l a.extents e a.primary.0 in
          same-named _ _ o.2 (c.read_last.ensures.named_of _ x o.1 n);
    }
