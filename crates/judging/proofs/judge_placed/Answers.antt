-- `judging::judge_placed` meets its contract. Assumes nothing.
use native.Mathlib.Omega.{arith}
use Rattle.judging.proofs.JudgedLaws.{handed}
use Rattle.judging.proofs.JudgeLaws.{read_here, rest-handed, declared_off, derived_waits, rest-on}
use Rattle.judging.proofs.judge_placed.Goals as goal

pub depths_of-depths-requires : goal.depths_of-depths-requires
depths_of-depths-requires c =
    let pre = c.requires in
    let v = read_here _ _ _ _ _ pre.0 pre.2 in
    (omega (arith, c.item_count-n.ensures, v.items, v.bounded.few-items), v.enough)

pub returns-in-Err : goal.returns-in-Err
returns-in-Err c =
    let s = c.fill_sizes.ensures in
    record {
      rest_by = λ f x w p r q.
          let total = c.args.ends.total in
          let k = p.small in
          derived_waits _ _ x total _ f w _ _ c.depths_of-depths.result _ c.fill_sizes.result c.first_fault-d.result c.item_count-n.ensures p r
          (c.first_fault-d.ensures f (p, r, q)) (s.by_index total f x k w.read w.is) c.depths_of-depths.ensures
          (s.table_filled total f x k w.read p.placed w.is) _ c.in-Err.is _ c.and.ensures;
      table_unchanged = s.table_unchanged;
    }

pub returns-in_err-fill_sizes-in-Ok : goal.returns-in_err-fill_sizes-in-Ok
returns-in_err-fill_sizes-in-Ok c =
    let g = handed c.from_residual.result _ c.from_residual.ensures.1 in
    let s = c.fill_sizes-in-Ok.ensures in
    record {
      rest_by = λ f x w p r q.
          let total = c.args.ends.total in
          let k = p.small in
          rest-handed _ total f x _ _ _ g (declared_off _ _ x total _ f w _ _ c.depths_of-depths.result _ c.fill_sizes-in-Ok.result
          c.first_fault-d.result c.item_count-n.ensures p r (c.first_fault-d.ensures f (p, r, q)) (s.by_index total f x k w.read w.is)
          c.depths_of-depths.ensures (s.table_filled total f x k w.read p.placed w.is) _ c.in_err-fill_sizes-in-Ok.was);
      table_unchanged = s.table_unchanged;
    }

pub returns-in_ok-fill_sizes-in-Ok : goal.returns-in_ok-fill_sizes-in-Ok
returns-in_ok-fill_sizes-in-Ok c =
    let s = c.fill_sizes-in-Ok.ensures in
    record {
      rest_by = λ f x w p r q.
          let total = c.args.ends.total in
          let k = p.small in
          rest-on _ _ x total _ f w _ _ c.depths_of-depths.result _ c.fill_sizes-in-Ok.result c.first_fault-d.result c.item_count-n.ensures p r
          (c.first_fault-d.ensures f (p, r, q)) (s.by_index total f x k w.read w.is) c.depths_of-depths.ensures
          (s.table_filled total f x k w.read p.placed w.is) c.in_ok-fill_sizes-in-Ok.was c.in-Ok.is _ c.judge_pictures.ensures;
      table_unchanged = s.table_unchanged;
    }
