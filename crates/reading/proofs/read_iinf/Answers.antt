-- `reading::read_iinf` meets its contract. Assumes nothing.
use mathlib.Core.Path.{refl, sym, ◌∙◌}
use Prim.Native.Nat.{◌≤◌}
use lib.ListN.{length, length-map}
use native.Mathlib.Omega.{arith}
use Rattle.contents.specs.Iinf.{ids_of}
use Rattle.records.proofs.KeptLaws.{kept_on}
use Rattle.reading.proofs.TopStage.{iinf-spot, spot-room, iinf-refused, iinf_begins, iinf-after}
use Rattle.reading.proofs.StageLaws.{handed, after-handed, on-handed}
use Rattle.reading.proofs.NamedLaws.{same-named, none-named}
use Rattle.reading.proofs.OrderLaws.{read_rowed, order_named}
use Rattle.reading.proofs.read_iinf.Goals as goal

pub slice_bounds-read_items-count : goal.slice_bounds-read_items-count
slice_bounds-read_items-count c =
    let a = c.args in
    (iinf-spot a.s.now a.at a.spots c.requires.0).order

pub slice_bounds-read_items-start : goal.slice_bounds-read_items-start
slice_bounds-read_items-start c =
    let a = c.args in
    let o = (iinf-spot a.s.now a.at a.spots c.requires.0).order in
    omega arith

pub slice_bounds-read_items-end : goal.slice_bounds-read_items-end
slice_bounds-read_items-end c =
    let a = c.args in
    let u = (iinf-spot a.s.now a.at a.spots c.requires.0).upto in
    omega arith

pub overflow_add-place : goal.overflow_add-place
overflow_add-place c =
    let a = c.args in
    let r = spot-room _ _ _ _ _ (iinf-spot a.s.now a.at a.spots c.requires.0) c.requires.1 in
    omega arith

pub overflow_add-base : goal.overflow_add-base
overflow_add-base c =
    let a = c.args in
    let r = spot-room _ _ _ _ _ (iinf-spot a.s.now a.at a.spots c.requires.0) c.requires.1 in
    omega arith

pub read_items-requires : goal.read_items-requires
read_items-requires c =
    let a = c.args in
    let r = spot-room _ _ _ _ _ (iinf-spot a.s.now a.at a.spots c.requires.0) c.requires.1 in
    (c.requires.2, refl, omega arith)

pub read_iloc-r-requires : goal.read_iloc-r-requires
read_iloc-r-requires c =
    let a = c.args in
    let i = iinf-spot a.s.now a.at a.spots c.requires.0 in
    let l = c.read_items.ensures.items_left in
    let b = iinf_begins a.s.now a.at _ i a.primary.0 a.total _ c.requires.4.0 _ _ (sym c.in_ok-n.ensures.value) c.requires.4.1 l in (
      c.requires.0,
      c.requires.1,
      omega (arith, l.kept.same_length, c.requires.2),
      omega (arith, c.requires.3),
      (b.list, c.requires.4.0, b.before),
    )

pub put_order-requires : goal.put_order-requires
put_order-requires c =
    let a = c.args in
    let i = iinf-spot a.s.now a.at a.spots c.requires.0 in
    let l = c.read_items.ensures.items_left in
    let b = iinf_begins a.s.now a.at _ i a.primary.0 a.total _ c.requires.4.0 _ _ (sym c.in_ok-n.ensures.value) c.requires.4.1 l in
    let r = b.before.ready in (
      omega (arith, c.read_iloc-r.auto.rows, c.requires.3),
      (ids_of b.list, length-map b.list _ ∙ r.count, omega (arith, r.count, r.bounded.few-items), c.read_items.ensures.keys_left _ b.read),
    )

pub returns-in_err-n : goal.returns-in_err-n
returns-in_err-n c =
    let a = c.args in
    let i = iinf-spot a.s.now a.at a.spots c.requires.0 in
    let g = handed c.from_residual.result _ c.from_residual.ensures.1 in
    let e = iinf-refused a.s.now a.at _ i a.primary.0 a.total _ (sym c.in_err-n.ensures.value) in
    record {
      by_index = λ x w. after-handed _ _ _ _ _ _ x _ g e;
      kept = c.read_items.ensures.items_left.kept;
      by_index_2 = on-handed _ _ _ g;
      named_of = none-named _ _ _ _ e;
    }

pub returns : goal.returns
returns c =
    let a = c.args in
    let i = iinf-spot a.s.now a.at a.spots c.requires.0 in
    let l = c.read_items.ensures.items_left in
    let q = sym c.in_ok-n.ensures.value in
    let b = iinf_begins a.s.now a.at _ i a.primary.0 a.total _ c.requires.4.0 _ _ q c.requires.4.1 l in
    let m = length-map b.list _ ∙ b.before.ready.count in
    let order = c.put_order.ensures (ids_of b.list) m (c.read_items.ensures.keys_left _ b.read) in
    let room : 2304 ≤ length c.read_iloc-r.new.rows = omega (arith, c.read_iloc-r.auto.rows, c.requires.3) in
    let few : length (ids_of b.list) ≤ 256 = omega (arith, m, b.before.ready.count, b.before.ready.bounded.few-items) in
    record {
      by_index = λ x w.
          let d = iinf_begins a.s.now a.at _ i a.primary.0 a.total _ x _ _ q w l in
          iinf-after a.s.now a.at _ i a.primary.0 a.total _ x _ _ _ d c.read_iloc-r.ensures.after;
      kept = kept_on _ _ _ l.kept c.read_iloc-r.ensures.kept;
      by_index_2 = read_rowed a.s.now a.at a.total a.primary.0 _ b.list _ c.requires.4.0 _ b.before.ready.count
          (c.read_iloc-r.ensures.after b.list c.requires.4.0 b.before) _ room _ order c.read_iloc-r.ensures.by_index;
      named_of = order_named (ids_of b.list) c.read_iloc-r.new.rows room few _ order _
          (same-named _ _ b.on (c.read_iloc-r.ensures.named_of b.list c.requires.4.0 b.before));
    }
