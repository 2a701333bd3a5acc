-- `corners::short_at` meets its contract. Assumes nothing.
use native.Mathlib.Omega.{arith}
use mathlib.Core.Path.{refl}
use Rattle.fields.proofs.FieldLaws.{be_below}
use Rattle.corners.proofs.PlaceLaws.{right-raised, left-raised}
use Rattle.corners.proofs.short_at.Goals as goal

pub returns-then-n-lt32768 : goal.returns-then-n-lt32768
returns-then-n-lt32768 c = λ h. right-raised 2 _ 32768 refl _ c.be16-n.ensures c.if-n-lt32768.true

pub returns : goal.returns
returns c =
    λ h. left-raised 2 _ 32768 refl _ c.be16-n.ensures c.if-n-lt32768.false
    (omega (
      arith,
      c.be16-n.ensures,
      be_below c.args.b.now c.args.at 2
          c.type_inv.b,
    )) _ (omega arith)
