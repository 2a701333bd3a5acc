-- `joining::all_filed` meets its contract. Assumes nothing.
use Prim.Native.Nat.{ℕ, ◌+◌}
use native.Mathlib.Omega.{arith}
use mathlib.Core.Bool.{Bool}
use mathlib.Core.List.{List}
use lib.Dec.{leb}
use borrow.Author.Tests.{lt-leb}
use Rattle.linking.specs.inner.Links.{offset_at, size_at}
use Rattle.linking.proofs.ByteLaws.{every_gap, every-whole}
use Rattle.joining.proofs.all_filed.Goals as goal
use Rattle.joining.proofs.all_filed.Goals.{then-end-offset-via-then-end-offset, then-end-offset-via-else-end-offset+then-end-offset-2}

abbrev filed : List ℕ → ℕ → ℕ → Bool
filed t end e = leb (offset_at t e + size_at t e) end

pub returns-then-end-offset : goal.returns-then-end-offset
returns-then-end-offset c =
    let a = c.args in
    let q = c.loop-e in
    every_gap (filed a.table.now a.end) a.first q.e a.past q.auto.e c.loop-e-test.true
    (lt-leb _ a.end (elim c.then-end-offset.branch [
      | then-end-offset-via-then-end-offset w ↦ omega arith
      | then-end-offset-via-else-end-offset+then-end-offset-2 w ↦ omega arith
    ]))

pub returns : goal.returns
returns c =
    let a = c.args in
    let q = c.loop-e in
    every-whole (filed a.table.now a.end) a.first q.e a.past q.auto.e c.loop-e-test.false q.invariant
