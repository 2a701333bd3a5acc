-- `judging::judge_sizes` meets its contract. The loop's invariant: of the rows passed, the one to name is the first
-- misfit of the least depth. Assumes nothing.
use Prim.Native.Nat.{ℕ}
use Rattle.contents.specs.File.{File}
use Rattle.rules.specs.Derivations.{scene_of}
use Rattle.sizing.specs.inner.Drawn.{Drawn}
use Rattle.judging.proofs.MisfitLaws.{Least}
use Rattle.judging.proofs.judge_sizes.Given as goal

abbrev pub invariant-loop-k : goal.invariant-loop-k
invariant-loop-k l = (total : ℕ) (f : File) → Drawn l.table l.rows l.head total f → Least (scene_of total l.head f) f l.k l.depth l.named
