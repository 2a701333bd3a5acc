-- `views::property_type` meets its contract. Assumes nothing.
use Rattle.views.proofs.TableLaws.{index-small, kind-none, kind-read}
use native.Mathlib.Omega.{arith}
use Rattle.views.proofs.property_type.Goals as goal

pub returns-then-k-eq0 : goal.returns-then-k-eq0
returns-then-k-eq0 c = λ head pl f v h. kind-none v c.args.index.0 h c.if-k-eq0.true

pub returns-then-k-le256 : goal.returns-then-k-le256
returns-then-k-le256 c =
    λ head pl f v h. kind-read v c.args.index.0 h c.if-k-eq0.false _ c.word.ensures

pub returns : goal.returns
returns c = λ head pl f v h. absurd (omega (arith, index-small v c.args.index.0 h))
