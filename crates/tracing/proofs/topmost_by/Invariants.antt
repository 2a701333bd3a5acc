-- `tracing::topmost_by` meets its contract. The loop's invariant: what lies on top of all inputs lies on top of those
-- below k. Assumes nothing.
use Rattle.std.proofs.Common.{◌≡◌, ℕ, ◌<◌, List, length, get_or}
use Rattle.pictures.specs.Turn.{point}
use Rattle.pictures.specs.Recipe.{Offset}
use Rattle.pictures.specs.Scene.{Scene}
use Rattle.views.specs.inner.View.{SizesAre}
use Rattle.tracing.specs.inner.Told.{OffsetsIn}
use Rattle.tracing.proofs.LayerLaws.{Below}
use Rattle.tracing.proofs.topmost_by.Given as goal

abbrev pub invariant-loop-k : goal.invariant-loop-k
invariant-loop-k l =
    (s : Scene) → SizesAre l.table s → ((k : ℕ) → k < l.n → get_or l.inputs k 0 < length s) → (os : List Offset) →
    length os ≡ l.n → OffsetsIn l.o l.bytes os → Below s os l.inputs l.n (point l.px l.py) l.k
