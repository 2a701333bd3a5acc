-- The code's values for the answers about crops and bodies.
--   LongAsAsked k b         the content b has the length that the transform type k asks for
--   turn_by s k b      turn_of of a box of type k with content b
--   told_edge, told_step    an edge of a crop, and the number that a step of its working gives
--   told_grid, told_overlay    what a body says; of an overlay how many bytes its fields have, and no offsets
use Rattle.std.specs.Prelude.{◌≡◌, ℕ, ◌%◌, List, length, ◌==◌, ◌≢◌, Option, Some, None}
use Rattle.fields.specs.Choice.{pick}
use Rattle.fields.specs.Field.{be_at}
use Rattle.boxes.specs.Answer.{Answer, ok, refuse}
use Rattle.boxes.specs.Types.{irot, imir}
use Rattle.pictures.specs.Clap.{Edge, edge, none, crop_of}
use Rattle.pictures.specs.inner.Steps.{Step, gives, fails}
use Rattle.pictures.specs.Decode.{rotation, mirror}
use Rattle.pictures.specs.Recipe.{Grid, Overlay, field_bytes}
use Rattle.pictures.specs.declared.Size.{Size}
use Rattle.pictures.specs.declared.Turn.{Turn}
use Rattle.pictures.specs.declared.Edge as edges
use Rattle.pictures.specs.declared.Grid as grids
use Rattle.pictures.specs.declared.Overlay as overlays

-- a content of 1 byte for `irot` and `imir`, of 32 for `clap`
pub record LongAsAsked (k : ℕ) (b : List ℕ) : Type 0 where
  pub of_irot : k ≡ irot → length b ≡ 1
  pub of_imir : k ≡ imir → length b ≡ 1
  pub of_clap : (k ≢ irot) → (k ≢ imir) → length b ≡ 32

unfoldable pub turn_by : Size → ℕ → List ℕ → Turn
turn_by s k b = pick (k == irot) (rotation (be_at b 0 1 % 4)) (pick (k == imir) (mirror (be_at b 0 1 % 2)) (crop_of s b))

unfoldable pub told_edge : Edge → Option edges.Edge
told_edge (edge e c) = Some (record { from = e; wide = c })
told_edge none = None

unfoldable pub told_step : Step → Option ℕ
told_step (gives k) = Some k
told_step fails = None

unfoldable pub told_grid : Answer Grid → Option grids.Grid
told_grid (ok g) = Some (record { rows = g.rows; columns = g.columns; wide = g.wide; high = g.high })
told_grid (refuse n p) = None

unfoldable pub told_overlay : List ℕ → Answer Overlay → Option overlays.Overlay
told_overlay b (ok o) = Some (record { wide = o.wide; high = o.high; bytes = field_bytes (be_at b 1 1) })
told_overlay b (refuse n p) = None
