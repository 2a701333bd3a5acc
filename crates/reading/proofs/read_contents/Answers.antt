-- `reading::read_contents` meets its contract. Assumes nothing.
use mathlib.Core.Path.{sym}
use native.Mathlib.Omega.{arith}
use Rattle.records.proofs.KeptLaws.{kept_same}
use Rattle.reading.proofs.TopStage.{hdlr-spot, pitm-spot, spot-room, hdlr-refused, pitm-refused, pitm-on, pitm-after}
use Rattle.reading.proofs.StageLaws.{handed, after-handed, on-handed}
use Rattle.reading.proofs.NamedLaws.{same-named, none-named}
use Rattle.reading.proofs.read_contents.Goals as goal

pub slice_bounds-read_hdlr-count : goal.slice_bounds-read_hdlr-count
slice_bounds-read_hdlr-count c =
    let a = c.args in
    (hdlr-spot a.s.now a.at a.spots c.requires.0).order

pub slice_bounds-read_hdlr-start : goal.slice_bounds-read_hdlr-start
slice_bounds-read_hdlr-start c =
    let a = c.args in
    let o = (hdlr-spot a.s.now a.at a.spots c.requires.0).order in
    omega arith

pub slice_bounds-read_hdlr-end : goal.slice_bounds-read_hdlr-end
slice_bounds-read_hdlr-end c =
    let a = c.args in
    let u = (hdlr-spot a.s.now a.at a.spots c.requires.0).upto in
    omega arith

pub overflow_add-at : goal.overflow_add-at
overflow_add-at c =
    let a = c.args in
    let r = spot-room _ _ _ _ _ (hdlr-spot a.s.now a.at a.spots c.requires.0) c.requires.1 in
    omega arith

pub slice_bounds-read_pitm-count : goal.slice_bounds-read_pitm-count
slice_bounds-read_pitm-count c =
    let a = c.args in
    (pitm-spot a.s.now a.at a.spots c.requires.0).order

pub slice_bounds-read_pitm-start : goal.slice_bounds-read_pitm-start
slice_bounds-read_pitm-start c =
    let a = c.args in
    let o = (pitm-spot a.s.now a.at a.spots c.requires.0).order in
    omega arith

pub slice_bounds-read_pitm-end : goal.slice_bounds-read_pitm-end
slice_bounds-read_pitm-end c =
    let a = c.args in
    let u = (pitm-spot a.s.now a.at a.spots c.requires.0).upto in
    omega arith

pub overflow_add-at-2 : goal.overflow_add-at-2
overflow_add-at-2 c =
    let a = c.args in
    let r = spot-room _ _ _ _ _ (pitm-spot a.s.now a.at a.spots c.requires.0) c.requires.1 in
    omega arith

pub read_iinf-requires : goal.read_iinf-requires
read_iinf-requires c =
    let k = c.requires in
    (k.0, k.1, k.2, k.3, k.4)

pub returns-in_err-read_hdlr : goal.returns-in_err-read_hdlr
returns-in_err-read_hdlr c =
    let a = c.args in
    let i = hdlr-spot a.s.now a.at a.spots c.requires.0 in
    let j = pitm-spot a.s.now a.at a.spots c.requires.0 in
    let g = handed c.from_residual.result _ c.from_residual.ensures.1 in
    let e = hdlr-refused a.s.now a.at a.total _ _ i j _ (sym c.in_err-read_hdlr.ensures) in
    record {
      by_index = λ x w. after-handed _ _ _ _ _ _ x _ g e;
      kept = kept_same _;
      by_index_2 = on-handed _ _ _ g;
      named_of = none-named _ _ _ _ e;
    }

pub returns-in_err-primary : goal.returns-in_err-primary
returns-in_err-primary c =
    let a = c.args in
    let i = hdlr-spot a.s.now a.at a.spots c.requires.0 in
    let j = pitm-spot a.s.now a.at a.spots c.requires.0 in
    let g = handed c.from_residual-in_err-primary.result _ c.from_residual-in_err-primary.ensures.1 in
    let e = pitm-refused a.s.now a.at a.total _ _ i j (sym c.in_ok-read_hdlr.ensures) _ (sym c.in_err-primary.ensures) in
    record {
      by_index = λ x w. after-handed _ _ _ _ _ _ x _ g e;
      kept = kept_same _;
      by_index_2 = on-handed _ _ _ g;
      named_of = none-named _ _ _ _ e;
    }

pub returns : goal.returns
returns c =
    let a = c.args in
    let i = hdlr-spot a.s.now a.at a.spots c.requires.0 in
    let j = pitm-spot a.s.now a.at a.spots c.requires.0 in
    let h = sym c.in_ok-read_hdlr.ensures in
    let q = sym c.in_ok-primary.ensures in
    record {
      by_index = λ x w. pitm-after a.s.now a.at a.total _ _ i j h _ _ x _ q (c.read_iinf.ensures.by_index x w);
      kept = c.read_iinf.ensures.kept;
      by_index_2 = c.read_iinf.ensures.by_index_2;
      named_of = same-named _ _ (pitm-on a.s.now a.at a.total _ _ i j h _ q) c.read_iinf.ensures.named_of;
    }
