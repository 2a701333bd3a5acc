-- `pictures::edge_of` meets its contract. Assumes nothing.
use Rattle.pictures.specs.Signed.{signed}
use Rattle.pictures.specs.inner.Told.{told_edge}
use Rattle.pictures.proofs.EdgeLaws.{step_is, step_fails, width-within, edge_no_offset, edge_no_width, edge-stepped}
use Rattle.std.proofs.Common.{sym, ap, ◌∙◌, arith}
use Rattle.pictures.proofs.edge_of.Goals as goal

pub returns-then-od-eq0 : goal.returns-then-od-eq0
unfolding told_edge
returns-then-od-eq0 c =
    let a = c.args in
    sym (ap told_edge (edge_no_offset a.side a.n a.d (signed 4 a.o) a.od c.if-od-eq0.true))

pub returns-in_err-c : goal.returns-in_err-c
unfolding told_edge
returns-in_err-c c =
    let a = c.args in
    rw c.from_residual.ensures
    (sym (ap told_edge (edge_no_width a.side a.n a.d (signed 4 a.o) a.od
    (step_fails _ (sym c.in_err-c.ensures)))))

pub overflow_cast-c : goal.overflow_cast-c
overflow_cast-c c =
    let a = c.args in
    let l = width-within a.side a.n a.d _ (step_is _ _ (sym c.in_ok-c.ensures)) in
    omega arith

pub stepped_edge-requires : goal.stepped_edge-requires
stepped_edge-requires c =
    let a = c.args in
    (omega arith, width-within a.side a.n a.d _ (step_is _ _ (sym c.in_ok-c.ensures)))

pub returns : goal.returns
returns c =
    let a = c.args in
    c.stepped_edge.ensures ∙ sym (ap told_edge (edge-stepped a.side a.n a.d (signed 4 a.o) a.od _
    (omega arith) (step_is _ _ (sym c.in_ok-c.ensures))))
