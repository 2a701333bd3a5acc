-- `reading::read_meta` meets its contract. Assumes nothing.
use mathlib.Core.Path.{sym}
use native.Mathlib.Omega.{arith}
use Rattle.records.proofs.KeptLaws.{kept_same}
use Rattle.reading.proofs.TopStage.{rest-room, full-refused, full-room, full_is, full-after}
use Rattle.reading.proofs.StageLaws.{handed, after-handed, on-handed}
use Rattle.reading.proofs.NamedLaws.{same-named, none-named}
use Rattle.reading.proofs.read_meta.Goals as goal

pub slice_bounds-read_children-count : goal.slice_bounds-read_children-count
slice_bounds-read_children-count c =
    let a = c.args in
    full-room a.place a.at a.total a.s.now _ (sym c.in_ok-read_full.ensures)

pub slice_bounds-read_children-start : goal.slice_bounds-read_children-start
slice_bounds-read_children-start c =
    let a = c.args in
    let r = full-room a.place a.at a.total a.s.now _ (sym c.in_ok-read_full.ensures) in
    omega arith

pub read_children-requires : goal.read_children-requires
read_children-requires c =
    let a = c.args in
    let k = c.requires in
    (rest-room a.at a.s.now (full-room a.place a.at a.total a.s.now _ (sym c.in_ok-read_full.ensures)) k.0, k.1, k.2, k.3)

pub returns-in_err-read_full : goal.returns-in_err-read_full
returns-in_err-read_full c =
    let a = c.args in
    let g = handed c.from_residual.result _ c.from_residual.ensures.1 in
    let e = full-refused a.place a.at a.total a.s.now _ (sym c.in_err-read_full.ensures) in
    record {
      by_index = λ x w. after-handed _ _ _ _ _ _ x _ g e;
      kept = kept_same _;
      by_index_2 = on-handed _ _ _ g;
      named_of = none-named _ _ _ _ e;
    }

pub returns : goal.returns
returns c =
    let a = c.args in
    let e = sym c.in_ok-read_full.ensures in
    record {
      by_index = λ x w. full-after a.place a.at a.total a.s.now _ e _ x _ (c.read_children.ensures.by_index x w);
      kept = c.read_children.ensures.kept;
      by_index_2 = c.read_children.ensures.by_index_2;
      named_of = same-named _ _ (full_is a.place a.at a.total a.s.now _ e) c.read_children.ensures.named_of;
    }
