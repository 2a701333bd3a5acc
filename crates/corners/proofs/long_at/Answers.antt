-- `corners::long_at` meets its contract. Assumes nothing.
use native.Mathlib.Omega.{arith}
use mathlib.Core.Path.{refl}
use Rattle.fields.proofs.FieldLaws.{be_below}
use Rattle.corners.proofs.PlaceLaws.{right-raised, left-raised}
use Rattle.corners.proofs.long_at.Goals as goal

pub returns-then-n-lt-ZERO : goal.returns-then-n-lt-ZERO
returns-then-n-lt-ZERO c = λ h. right-raised 4 _ 2147483648 refl _ c.be32-n.ensures c.if-n-lt-ZERO.true

pub returns : goal.returns
returns c =
    λ h. left-raised 4 _ 2147483648 refl _ c.be32-n.ensures c.if-n-lt-ZERO.false
    (omega (
      arith,
      c.be32-n.ensures,
      be_below c.args.b.now c.args.at 4
          c.type_inv.b,
    )) _ (omega arith)
