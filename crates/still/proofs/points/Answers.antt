-- `still::points` meets its contract. Assumes nothing.
use Rattle.std.proofs.Common.{◌≡◌, ◌≤◌, ◌⊎◌, ℕ, length, sym, ap, subst, ◌∙◌}
use Rattle.seam.specs.Points.{single_trace, answered}
use Rattle.seam.specs.inner.Hand.{AtHand, answered_to}
use Rattle.still.proofs.PointsLaws.{count_le, records_given}
use Rattle.still.proofs.points.Goals as goal

pub answer_all-requires : goal.answer_all-requires
answer_all-requires c =
    let a = c.args in
    let v = c.ready-filled.ensures.value in
    let n = sym c.count_of-n.ensures in (
      subst (λ (k : ℕ). k ≤ length a.points.now) n
          (count_le (length a.table.now) a.total a.head.now a.id.0 (length a.points.now) _ v.0),
      subst (λ (k : ℕ). (k ≡ 0) ⊎ AtHand a.head.now a.total c.ready-filled.new.table c.ready-filled.new.rows) n v.1.1,
    )

pub returns : goal.returns
returns c =
    let a = c.args in
    let v = c.ready-filled.ensures.value in (
      v.0,
      (
        c.answer_all.ensures ∙
            ap (λ (m : ℕ). answered_to (answered (single_trace m a.total a.head.now a.id.0)) c.count_of-n.result a.points.now)
            c.ready-filled.auto.table ∙
            ap (λ (m : ℕ). answered_to (answered (single_trace (length a.table.now) a.total a.head.now a.id.0)) m a.points.now)
            c.count_of-n.ensures ∙
            records_given (length a.table.now) a.total a.head.now a.id.0 _ a.points.now _ v.0,
        c.arrange.ensures a.total a.head.now a.table.now v.1.0 c.ready-filled.ensures.order_given,
      ),
    )
