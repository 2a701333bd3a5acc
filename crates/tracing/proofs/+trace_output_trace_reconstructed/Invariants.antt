-- `tracing::trace_output` and `tracing::trace_reconstructed`, which call each other, meet their contracts. The measure:
-- two for each derivation that may still be gone down, and one more at an output picture. Assumes nothing.
use Rattle.std.proofs.Common.{◌+◌, ◌*◌}
use Rattle.tracing.proofs.+trace_output_trace_reconstructed.Given as goal

abbrev pub decreases-trace_output : goal.decreases-trace_output
decreases-trace_output l = 2 * l.d + 1

abbrev pub decreases-trace_reconstructed : goal.decreases-trace_reconstructed
decreases-trace_reconstructed l = 2 * l.d
