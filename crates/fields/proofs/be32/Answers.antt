-- `fields::be32` meets its contract. Assumes nothing.
use Rattle.fields.proofs.FieldLaws.{be_join}
use native.Mathlib.Omega.{arith}
use Rattle.fields.proofs.be32.Goals as goal

pub returns : goal.returns
returns c =
    omega (arith, be_join c.args.s.now c.args.at 2 2)
