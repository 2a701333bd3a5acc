-- `depths::fed_by` meets its contract. Assumes nothing.
use Prim.Native.Nat.{ℕ, ◌+◌}
use native.Mathlib.Omega.{arith}
use mathlib.Core.Path.{◌≡◌, ◌∙◌}
use lib.ListN.{get_or}
use Rattle.depths.specs.inner.Rounds.{at}
use Rattle.depths.proofs.RoundLaws.{deepest-none, deepest-more, next_depth_lem}
use Rattle.depths.proofs.SweepLaws.{place-room, before-none, before_more, before_unasked, fore_read}
use Rattle.depths.proofs.fed_by.Goals as goal
use Rattle.depths.proofs.fed_by.Goals.{then-places, else-places}

pub loop-j-init : goal.loop-j-init
loop-j-init c = (deepest-none _ _, before-none _ _ _ _ _)

pub overflow_add-place_in_sweep : goal.overflow_add-place_in_sweep
overflow_add-place_in_sweep c =
    let a = c.args in
    omega (arith, c.place_in_sweep.ensures, place-room a.up a.n c.word-input.result 18446744073709551615 (omega arith) (omega arith))

pub loop-j-preserved : goal.loop-j-preserved
loop-j-preserved c =
    let a = c.args in
    let q = c.loop-j in
    let g : ℕ → ℕ = λ i. get_or a.rows.now (c.held-first.result + i) 0 in
    let e = deepest-more (at a.depths.now) g q.j q.depth c.word-input.result c.word-d.result q.invariant.0
    c.word-input.ensures c.word-d.ensures in (
      c.max-depth.ensures ∙ e,
      elim c.if-places.branch [
        | then-places w ↦ before_more a.n a.up a.places g q.j q.above c.if-places.above c.word-input.result w.place_in_sweep.result q.invariant.1
            c.word-input.ensures w.place_in_sweep.ensures (omega arith) (omega arith)
        | else-places w ↦ before_unasked a.n a.up a.places g (q.j + 1) c.if-places.above w.if-places.false
      ],
    )

pub returns : goal.returns
returns c =
    let a = c.args in
    let q = c.loop-j in
    let e : q.j ≡ c.held-k.result = omega arith in (
      next_depth_lem a.table.now a.rows.now (at a.depths.now) a.row.0 q.j c.held-first.result q.depth
          (e ∙ c.held-k.ensures) c.held-first.ensures q.invariant.0,
      fore_read a.table.now a.rows.now a.n a.up a.places a.row.0 q.above q.j
          c.held-first.result (e ∙ c.held-k.ensures) c.held-first.ensures q.invariant.1,
    )
