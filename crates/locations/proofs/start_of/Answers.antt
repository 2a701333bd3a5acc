-- `locations::start_of` meets its contract. Assumes nothing.
use Rattle.locations.proofs.PutLaws.{start_idat, start_file}
use native.Mathlib.Omega.{arith}
use Rattle.locations.proofs.start_of.Goals as goal

pub returns-then-method-eq1 : goal.returns-then-method-eq1
returns-then-method-eq1 c =
    let a = c.args in
    start_idat a.method a.base a.idat _ c.if-method-eq1.true c.capped_sum.ensures

pub returns : goal.returns
returns c = let a = c.args in start_file a.method a.base a.idat c.if-method-eq1.false (omega arith)
