-- `records::first_key` meets its contract: 255 is no key of an item, and what stands before the first is less. Assumes nothing.
use native.Mathlib.Omega.{arith}
use Rattle.records.proofs.KeyedLaws.{first_found}
use Rattle.records.proofs.first_key.Goals as goal

pub returns : goal.returns
returns c =
    (omega (arith, c.last_upto.ensures.0), λ ids k. first_found ids c.args.keys.now k c.last_upto.result c.last_upto.ensures)
