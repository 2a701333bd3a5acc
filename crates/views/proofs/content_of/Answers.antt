-- `views::content_of` meets its contract. Assumes nothing.
use Rattle.views.proofs.TableLaws.{body-short, body-cut, body-long, body-plain}
use Rattle.views.proofs.content_of.Goals as goal

pub returns-then-b-lt8 : goal.returns-then-b-lt8
returns-then-b-lt8 c = body-short _ c.if-b-lt8.true

pub returns-then-b-lt16 : goal.returns-then-b-lt16
returns-then-b-lt16 c =
    body-cut _ _ c.be32.ensures c.if-be32-eq1.true c.if-b-lt16.true

pub returns-then-be32-eq1 : goal.returns-then-be32-eq1
returns-then-be32-eq1 c =
    body-long _ _ c.be32.ensures c.if-be32-eq1.true

pub returns : goal.returns
returns c = body-plain _ _ c.be32.ensures c.if-be32-eq1.false
