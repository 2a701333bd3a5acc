-- `facing::transforms_for` meets its contract: each arm by its number. Assumes nothing.
use Prim.Native.Nat.{ℕ}
use native.Mathlib.Omega.{arith}
use mathlib.Core.Path.{◌≡◌, sym, ap}
use lib.Dec.{leb}
use borrow.Author.Tests.{leb-true}
use Rattle.fields.proofs.TestLaws.{and-false}
use Rattle.boxes.specs.Answer.{check, ◌>>◌}
use Rattle.facing.specs.Orientation.{lists, transforms_for, transforms_in}
use Rattle.facing.specs.Told.{told_transform, told_transforms}
use Rattle.facing.proofs.transforms_for.Goals as goal

-- the list of the number that the code compares with
by : {n m : ℕ} → n ≡ m → told_transforms (transforms_in m) ≡ told_transforms (transforms_in n)
by e = sym (ap (λ (n : ℕ). told_transforms (transforms_in n)) e)

pub returns-in-1 : goal.returns-in-1
unfolding told_transforms told_transform transforms_in transforms_for lists check ◌>>◌
returns-in-1 c = by c.in-1.is

pub returns-in-2 : goal.returns-in-2
unfolding told_transforms told_transform transforms_in transforms_for lists check ◌>>◌
returns-in-2 c = by c.in-2.is

pub returns-in-3 : goal.returns-in-3
unfolding told_transforms told_transform transforms_in transforms_for lists check ◌>>◌
returns-in-3 c = by c.in-3.is

pub returns-in-4 : goal.returns-in-4
unfolding told_transforms told_transform transforms_in transforms_for lists check ◌>>◌
returns-in-4 c = by c.in-4.is

pub returns-in-5 : goal.returns-in-5
unfolding told_transforms told_transform transforms_in transforms_for lists check ◌>>◌
returns-in-5 c = by c.in-5.is

pub returns-in-6 : goal.returns-in-6
unfolding told_transforms told_transform transforms_in transforms_for lists check ◌>>◌
returns-in-6 c = by c.in-6.is

pub returns-in-7 : goal.returns-in-7
unfolding told_transforms told_transform transforms_in transforms_for lists check ◌>>◌
returns-in-7 c = by c.in-7.is

pub returns-in-8 : goal.returns-in-8
unfolding told_transforms told_transform transforms_in transforms_for lists check ◌>>◌
returns-in-8 c = by c.in-8.is

pub returns-in_default : goal.returns-in_default
unfolding told_transforms transforms_in check ◌>>◌
returns-in_default c =
    let n = c.args.orientation in
    rw (and-false (leb 1 n) (leb n 8) (λ a b. omega (arith, leb-true 1 n a, leb-true n 8 b)))
