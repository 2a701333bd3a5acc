-- `numbers::main` is safe and ends. Assumes nothing.
use Prim.Native.Nat.{◌-◌, ◌≤◌}
use Rattle.numbers.proofs.main.Given as goal

abbrev pub invariant-loop-number : goal.invariant-loop-number
invariant-loop-number l = l.number ≤ 32

abbrev pub decreases-loop-number : goal.decreases-loop-number
decreases-loop-number l = 32 - l.number
