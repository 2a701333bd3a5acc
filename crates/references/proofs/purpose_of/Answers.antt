-- `references::purpose_of` meets its contract. Assumes nothing.
use native.Mathlib.Omega.{arith}
use Rattle.references.proofs.PutLaws.{purpose_dimg, purpose_iloc, purpose_other}
use Rattle.references.proofs.purpose_of.Goals as goal

pub returns-in-1684630887 : goal.returns-in-1684630887
returns-in-1684630887 c = purpose_dimg _ (omega arith)

pub returns-in-1768714083 : goal.returns-in-1768714083
returns-in-1768714083 c = purpose_iloc _ (λ e. omega arith) (omega arith)

pub returns-in_default : goal.returns-in_default
returns-in_default c = purpose_other _ (λ e. omega arith) (λ e. omega arith)
