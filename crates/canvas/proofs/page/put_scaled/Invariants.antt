-- `canvas::put_scaled` is safe and ends. Assumes nothing.
use Prim.Native.Nat.{◌-◌, ◌≤◌}
use Rattle.canvas.proofs.page.put_scaled.Given as goal

abbrev pub invariant-loop-pose : goal.invariant-loop-pose
invariant-loop-pose l = l.pose ≤ 8

abbrev pub decreases-loop-pose : goal.decreases-loop-pose
decreases-loop-pose l = 8 - l.pose
