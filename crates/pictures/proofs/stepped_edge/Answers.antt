-- `pictures::stepped_edge` meets its contract. Assumes nothing.
use Rattle.pictures.specs.Signed.{signed}
use Rattle.pictures.specs.inner.Told.{told_edge}
use Rattle.pictures.proofs.EdgeLaws.{step_is, step_fails, stepped-below, stepped-halved}
use Rattle.std.proofs.Common.{sym, ap, ◌∙◌}
use Rattle.pictures.proofs.stepped_edge.Goals as goal

pub returns-in_err-twice : goal.returns-in_err-twice
unfolding told_edge
returns-in_err-twice c =
    let a = c.args in
    let f = step_fails _ (sym c.in_err-twice.ensures) in
    rw c.from_residual.ensures
    (sym (ap told_edge (stepped-below a.side a.c (signed 4 a.o) a.od _ c.common_of.ensures.0 f)))

pub returns : goal.returns
returns c =
    let a = c.args in
    let k = step_is _ _ (sym c.in_ok-twice.ensures) in
    let w = c.requires.1 in
    c.halved_edge.ensures ∙ sym (ap told_edge (stepped-halved a.side a.c (signed 4 a.o) a.od _
    c.common_of.ensures.0 _ k w))
