-- `tracing::topmost_joined` meets its contract. The loop's invariant: what lies on top of all inputs lies on top of those
-- below `end`. The measure is `end`. Assumes nothing.
use Rattle.std.proofs.Common.{◌≡◌, ℕ, ◌<◌, ◌≤◌, List, length, get_or}
use Rattle.fields.specs.Field.{be_at}
use Rattle.boxes.specs.Answer.{ok}
use Rattle.forms.specs.Form.{whole}
use Rattle.contents.specs.File.{File}
use Rattle.pictures.specs.Recipe.{Overlay, field_bytes, iovl_form}
use Rattle.pictures.specs.Scene.{Scene}
use Rattle.rules.specs.Bytes.{body_of}
use Rattle.views.specs.inner.View.{SizesAre, id_of}
use Rattle.derived.specs.inner.Told.{Followed}
use Rattle.tracing.proofs.LayerLaws.{Below}
use Rattle.tracing.proofs.topmost_joined.Given as goal

abbrev pub invariant-loop-end : goal.invariant-loop-end
invariant-loop-end l =
    (l.end ≤ l.n) × ((total : ℕ) (f : File) → Followed l.table l.rows l.head total f → l.row.0 < length f.items → (b : List ℕ) →
    body_of total l.head f (id_of f l.row.0) ≡ ok b → (s : Scene) → SizesAre l.table s → ((k : ℕ) → k < l.n → get_or l.inputs k 0 < length s) →
    (o : Overlay) → whole (iovl_form l.n) 0 b ≡ ok o → l.bytes ≡ field_bytes (be_at b 1 1) → Below s o.offsets l.inputs l.n l.p l.end)

abbrev pub decreases-loop-end : goal.decreases-loop-end
decreases-loop-end l = l.end
