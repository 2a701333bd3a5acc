-- `pictures::width_of` meets its contract. Assumes nothing.
use Rattle.pictures.specs.inner.Told.{told_step}
use Rattle.pictures.proofs.EdgeLaws.{width-none, width-part, width-over, width_is}
use Rattle.std.proofs.Common.{sym, ap, arith}
use Rattle.pictures.proofs.width_of.Goals as goal
use Rattle.pictures.proofs.width_of.Goals.{then-d-eq0-via-then-d-eq0, then-d-eq0-via-else-d-eq0+then-n-d-ne0}

pub returns-then-d-eq0 : goal.returns-then-d-eq0
unfolding told_step
returns-then-d-eq0 c =
    let a = c.args in
    elim c.then-d-eq0.branch [
      | then-d-eq0-via-then-d-eq0 w ↦ sym (ap told_step (width-none a.side a.n a.d w.if-d-eq0.true))
      | then-d-eq0-via-else-d-eq0+then-n-d-ne0 w ↦ sym (ap told_step (width-part a.side a.n a.d w.if-n-d-ne0.true))
    ]

pub returns-then-side-c : goal.returns-then-side-c
unfolding told_step
returns-then-side-c c =
    let a = c.args in
    sym (ap told_step (width-over a.side a.n a.d c.if-side-c.true))

pub returns : goal.returns
unfolding told_step
returns c =
    let a = c.args in
    sym (ap told_step (width_is a.side a.n a.d (omega arith) c.if-n-d-ne0.false c.if-side-c.false))
