-- `reading::read_children` meets its contract. Assumes nothing.
use mathlib.Core.Path.{sym}
use Rattle.records.proofs.KeptLaws.{kept_same}
use Rattle.reading.proofs.TopStage.{walk-refused, missing_refused, whole_standing, whole_is, whole-after}
use Rattle.reading.proofs.StageLaws.{handed, after-refused, after-handed, on-handed}
use Rattle.reading.proofs.NamedLaws.{same-named, none-named}
use Rattle.reading.proofs.read_children.Goals as goal

pub returns-in_err-spots : goal.returns-in_err-spots
returns-in_err-spots c =
    let a = c.args in
    let g = handed c.from_residual.result _ c.from_residual.ensures.1 in
    let e = walk-refused a.place a.at a.total a.s.now _ (sym c.in_err-spots.ensures) in
    record {
      by_index = λ x w. after-handed _ _ _ _ _ _ x _ g e;
      kept = kept_same _;
      by_index_2 = on-handed _ _ _ g;
      named_of = none-named _ _ _ _ e;
    }

pub returns-then-is_missing : goal.returns-then-is_missing
returns-then-is_missing c =
    let a = c.args in
    let e = missing_refused a.place a.at a.total a.s.now _ (sym c.in_ok-spots.ensures) _ c.is_missing.ensures c.if-is_missing.true in
    record {
      by_index = λ x w. after-refused _ _ _ _ _ x _ e;
      kept = kept_same _;
      by_index_2 = tt;
      named_of = none-named _ _ _ _ e;
    }

pub read_contents-requires : goal.read_contents-requires
read_contents-requires c =
    let a = c.args in
    let k = c.requires in (
      whole_standing a.place a.at a.total a.s.now _ (sym c.in_ok-spots.ensures) _ c.is_missing.ensures c.if-is_missing.false,
      k.0,
      k.1,
      k.2,
      k.3,
    )

pub returns : goal.returns
returns c =
    let a = c.args in
    let e = sym c.in_ok-spots.ensures in
    record {
      by_index = λ x w. whole-after a.place a.at a.total a.s.now _ e _ c.is_missing.ensures c.if-is_missing.false _ x _
          (c.read_contents.ensures.by_index x w);
      kept = c.read_contents.ensures.kept;
      by_index_2 = c.read_contents.ensures.by_index_2;
      named_of = same-named _ _ (whole_is a.place a.at a.total a.s.now _ e _ c.is_missing.ensures c.if-is_missing.false)
          c.read_contents.ensures.named_of;
    }
