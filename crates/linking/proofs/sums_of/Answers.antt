-- `linking::sums_of` meets its contract. Assumes nothing.
use Prim.Native.Nat.{ℕ, ◌+◌, ◌≤◌, ◌<◌}
use native.Mathlib.Omega.{arith}
use mathlib.Core.Path.{◌≡◌, ◌∙◌}
use lib.ListN.{length-set, length}
use Rattle.linking.specs.inner.Links.{first_extent, extents, length_sum}
use Rattle.records.specs.inner.Raw.{capped}
use Rattle.linking.proofs.ByteLaws.{put-more, sum-capped}
use Rattle.linking.proofs.sums_of.Goals as goal

pub loop-r-preserved : goal.loop-r-preserved
loop-r-preserved c =
    let a = c.args in
    let q = c.loop-r in
    let i : q.r < length q.sums = omega arith in (
      length-set q.sums q.r c.unwrap_or.result ∙ q.invariant.0,
      put-more (λ (x y : ℕ). first_extent a.table.now x + extents a.table.now x ≤ 512 →
          y ≡ capped (length_sum a.table.now x)) q.sums q.r c.unwrap_or.result i q.invariant.1
          (λ h. c.unwrap_or.ensures ∙ sum-capped (length_sum a.table.now q.r) c.sum_of.result (c.sum_of.ensures (omega arith) h)),
    )
