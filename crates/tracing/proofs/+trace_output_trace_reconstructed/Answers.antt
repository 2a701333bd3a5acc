-- `tracing::trace_output` and `tracing::trace_reconstructed`, which call each other, meet their contracts. The measure:
-- two for each derivation that may still be gone down, and one more at an output picture. Assumes nothing.
use Rattle.tracing.proofs.TraceLaws.{end-here, end-blank, end-last, end-input, end-output}
use Rattle.tracing.proofs.+trace_output_trace_reconstructed.Goals as goal

pub trace_output-returns : goal.trace_output-returns
trace_output-returns t c =
    let a = c.args in
    λ total f v h i l.
    end-output v a.row.0 h i a.d a.passed a.p l _ c.declared_in.ensures _
    (c.undone-q.ensures _ f v.followed.view h) _ (c.trace_reconstructed.ensures total f v h i)

pub trace_reconstructed-returns-then-d-eq0 : goal.trace_reconstructed-returns-then-d-eq0
trace_reconstructed-returns-then-d-eq0 t c =
    let a = c.args in
    λ total f v h i l.
    end-last v a.row.0 h i a.d a.passed a.p _ (c.source_of-s.ensures total f v h i l) _ _
    c.in-Input.is c.if-d-eq0.true

pub trace_reconstructed-returns-in-Here : goal.trace_reconstructed-returns-in-Here
trace_reconstructed-returns-in-Here t c =
    let a = c.args in
    λ total f v h i l.
    end-here v a.row.0 h i a.d a.passed a.p _ (c.source_of-s.ensures total f v h i l) c.in-Here.is

pub trace_reconstructed-returns-in-Blank : goal.trace_reconstructed-returns-in-Blank
trace_reconstructed-returns-in-Blank t c =
    let a = c.args in
    λ total f v h i l.
    end-blank v a.row.0 h i a.d a.passed a.p _ (c.source_of-s.ensures total f v h i l) c.in-Blank.is

pub trace_reconstructed-returns-else-d-eq0 : goal.trace_reconstructed-returns-else-d-eq0
trace_reconstructed-returns-else-d-eq0 t c =
    let a = c.args in
    λ total f v h i l.
    end-input v a.row.0 h i a.d a.passed a.p _ (c.source_of-s.ensures total f v h i l) _ _
    c.in-Input.is c.if-d-eq0.false l _ (c.trace_output.ensures total f v)
