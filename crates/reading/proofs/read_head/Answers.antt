-- `reading::read_head` meets its contract. Assumes nothing.
use mathlib.Core.Path.{sym}
use native.Mathlib.Omega.{arith}
use Rattle.records.proofs.KeptLaws.{kept_same}
use Rattle.reading.proofs.TopStage.{meta-refused, meta-room, meta-length, meta-file, meta-left, left-handed}
use Rattle.reading.proofs.StageLaws.{handed, on-handed}
use Rattle.reading.proofs.NamedLaws.{same-named, none-named}
use Rattle.reading.proofs.read_head.Goals as goal

pub slice_bounds-read_meta-count : goal.slice_bounds-read_meta-count
slice_bounds-read_meta-count c =
    let a = c.args in
    (meta-room a.total a.head.now c.requires.0 c.requires.1 _ (sym c.in_ok-m.ensures)).order

pub slice_bounds-read_meta-start : goal.slice_bounds-read_meta-start
slice_bounds-read_meta-start c =
    let a = c.args in
    let o = (meta-room a.total a.head.now c.requires.0 c.requires.1 _ (sym c.in_ok-m.ensures)).order in
    omega arith

pub slice_bounds-read_meta-end : goal.slice_bounds-read_meta-end
slice_bounds-read_meta-end c =
    let a = c.args in
    let o = (meta-room a.total a.head.now c.requires.0 c.requires.1 _ (sym c.in_ok-m.ensures)).upto in
    omega arith

pub read_meta-requires : goal.read_meta-requires
read_meta-requires c =
    let a = c.args in
    let k = c.requires in
    (meta-length a.total a.head.now k.0 k.1 _ (sym c.in_ok-m.ensures), k.2, k.3, k.4)

pub returns-in_err-m : goal.returns-in_err-m
returns-in_err-m c =
    let a = c.args in
    let g = handed c.from_residual.result _ c.from_residual.ensures.1 in
    let e = meta-refused a.total a.head.now c.requires.0 c.requires.1 _ (sym c.in_err-m.ensures) in
    record {
      by_index = λ x w. left-handed _ _ _ _ x _ g e;
      kept = kept_same _;
      by_index_2 = on-handed _ _ _ g;
      named_of = none-named _ _ _ _ e;
    }

pub returns : goal.returns
returns c =
    let a = c.args in
    let e = sym c.in_ok-m.ensures in
    record {
      by_index = λ x w. meta-left a.total a.head.now c.requires.0 c.requires.1 _ e _ x _ (c.read_meta.ensures.by_index x w);
      kept = c.read_meta.ensures.kept;
      by_index_2 = c.read_meta.ensures.by_index_2;
      named_of = same-named _ _ (meta-file a.total a.head.now c.requires.0 c.requires.1 _ e) c.read_meta.ensures.named_of;
    }
