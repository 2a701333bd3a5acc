-- `arranged::move_records` meets its contract. Assumes nothing.
use Prim.Native.Nat.{◌*◌, ◌+◌}
use native.Mathlib.Omega.{arith}
use mathlib.Core.Path.{◌≡◌, ◌∙◌}
use Rattle.arranged.proofs.StepLaws.{moved_more, moved_all}
use Rattle.arranged.proofs.move_records.Goals as goal

pub loop-q-preserved : goal.loop-q-preserved
loop-q-preserved c =
    let m = c.loop-q in
    let next : 4 * m.q + 4 ≡ 4 * (m.q + 1) = omega arith in (
      c.put_quarters.ensures.long ∙ m.invariant.0,
      c.keep_quarters.ensures.long ∙ m.invariant.1,
      λ w. rw (← next) (moved_more (4 * m.q) c.args.n c.args.rows.now c.args.table.now m.table _ _ _
          (omega (arith, c.requires.0)) (omega arith) w (m.invariant.2 w) c.keep_quarters.ensures c.put_quarters.ensures),
    )

pub returns : goal.returns
returns c =
    λ w.
    let m = c.loop-q in
    let e : 4 * m.q ≡ 16 = omega arith in
    moved_all _ _ _ _ m.invariant.0 (rw e at (m.invariant.2 w))
