-- `reading::read_iloc` meets its contract. Assumes nothing.
use native.Mathlib.Omega.{arith}
use mathlib.Core.Path.{refl, sym}
use Rattle.records.proofs.KeptLaws.{kept_on}
use Rattle.reading.proofs.StageLaws.{handed, after-handed, on-handed, after_same}
use Rattle.reading.proofs.NextLaws.{iloc-within, unplaced, iloc_gone, iloc-on}
use Rattle.reading.proofs.NamedLaws.{same-named, none-named}
use Rattle.reading.proofs.read_iloc.Goals as goal

pub idat_at-idat-requires : goal.idat_at-idat-requires
idat_at-idat-requires c =
    (c.args.s.now, c.requires.0, c.requires.1)

pub slice_bounds-read_locations-count : goal.slice_bounds-read_locations-count
slice_bounds-read_locations-count c =
    let h = iloc-within c.args.s.now c.args.at _ c.requires.0 c.requires.1 in
    omega arith

pub slice_bounds-read_locations-start : goal.slice_bounds-read_locations-start
slice_bounds-read_locations-start c =
    let h = iloc-within c.args.s.now c.args.at _ c.requires.0 c.requires.1 in
    omega arith

pub slice_bounds-read_locations-end : goal.slice_bounds-read_locations-end
slice_bounds-read_locations-end c =
    let h = iloc-within c.args.s.now c.args.at _ c.requires.0 c.requires.1 in
    omega arith

pub overflow_add-place : goal.overflow_add-place
overflow_add-place c =
    let h = iloc-within c.args.s.now c.args.at _ c.requires.0 c.requires.1 in
    omega arith

pub read_locations-requires : goal.read_locations-requires
read_locations-requires c =
    let a = c.args in
    let p = c.requires in
    let k = p.4.2.ready in
    (p.2, p.3, omega (arith, k.count, k.bounded.few-items), unplaced a.s.now a.at _ p.0 a.n p.4.0 p.4.1 _ p.4.2)

pub read_iprp-requires : goal.read_iprp-requires
read_iprp-requires c =
    let a = c.args in
    let p = c.requires in
    let t = c.read_locations.ensures in
    let o = iloc-on a.s.now a.at _ p.0 a.n p.4.0 p.4.1 _ p.4.2 _ refl _ (sym c.in_ok-extents.ensures.value) _
    (c.idat_at-idat.ensures _ p.0) _ t.locations_left 0 in (
      p.0,
      p.1,
      omega (arith, t.locations_left.kept.same_length, p.2),
      omega (arith, t.rows_len_unchanged, p.3),
      (p.4.0, o.0, p.4.1, o.1, o.2),
    )

pub returns-in_err-extents : goal.returns-in_err-extents
returns-in_err-extents c =
    let a = c.args in
    let g = handed c.from_residual.result _ c.from_residual.ensures.1 in
    record {
      after = λ is x b. after-handed _ _ _ _ _ _ x _ g (iloc_gone a.s.now a.at _ c.requires.0 a.n is x _ b _ refl a.primary.0 _
          (sym c.in_err-extents.ensures.value));
      kept = c.read_locations.ensures.locations_left.kept;
      by_index = on-handed _ _ _ g;
      named_of = λ is x b. none-named _ _ _ _ (iloc_gone a.s.now a.at _ c.requires.0 a.n is x _ b _ refl a.primary.0 _
          (sym c.in_err-extents.ensures.value));
    }

pub returns : goal.returns
returns c =
    let a = c.args in
    let t = c.read_locations.ensures in
    record {
      after = λ is x b.
          let o = iloc-on a.s.now a.at _ c.requires.0 a.n is x _ b _ refl _ (sym c.in_ok-extents.ensures.value) _
          (c.idat_at-idat.ensures _ c.requires.0) _ t.locations_left a.primary.0 in
          after_same a.s.now a.at a.total _ _ _ x _ o.3 (c.read_iprp.ensures.after is o.0 x o.1 o.2);
      kept = kept_on _ _ _ t.locations_left.kept c.read_iprp.ensures.kept;
      by_index = c.read_iprp.ensures.by_index;
      named_of = λ is x b.
          let o = iloc-on a.s.now a.at _ c.requires.0 a.n is x _ b _ refl _ (sym c.in_ok-extents.ensures.value) _
          (c.idat_at-idat.ensures _ c.requires.0) _ t.locations_left a.primary.0 in
          same-named _ _ o.3 (c.read_iprp.ensures.named_of is o.0 x o.1 o.2 (t.named_rows is o.0 o.4));
    }
