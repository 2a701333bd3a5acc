-- What an item's transforms do to how it is drawn.
--   done_by s b              what the property box b does to a picture of size s; most do nothing
--   posed ts p              how a picture that lies as p lies after all of ts, in order
--   margins_through ts s m   the margins of a picture of size s after all of ts, which had margins m before
--   part_between a b         the part between two corners that lie across from each other, in any order
--   part_back ts s part      the part of a picture of size s that a part of it after all of ts comes from
use Rattle.std.specs.Prelude.{ℕ, min, max, List, [], ◌∷◌}
use Rattle.fields.specs.Choice.{pick}
use Rattle.boxes.specs.Box.{kind_of}
use Rattle.pictures.specs.declared.Size.{Size}
use Rattle.pictures.specs.declared.Point.{Point}
use Rattle.pictures.specs.declared.Turn.{Turn}
use Rattle.pictures.specs.declared.Turn.TheVariants.{Stay}
use Rattle.pictures.specs.Turn.{point, size_after, undone}
use Rattle.pictures.specs.Decode.{transform, turn_of}
use Rattle.layout.specs.inner.Pose.{pose_of, composed_of}
use Rattle.layout.specs.inner.Margins.{margins_after}
use Rattle.layout.specs.declared.margins.Margins.{Margins}
use Rattle.layout.specs.declared.part.Part.{Part}

unfoldable pub done_by : Size → List ℕ → Turn
done_by s b = pick (transform (kind_of b)) (turn_of s b) Stay

unfoldable pub posed : List Turn → ℕ → ℕ
posed [] p = p
posed (t ∷ ts) p = posed ts (composed_of (pose_of t) p)

unfoldable pub margins_through : List Turn → Size → Margins → Margins
margins_through [] s m = m
margins_through (t ∷ ts) s m = margins_through ts (size_after t s) (margins_after t s m)

abbrev pub part_between : Point → Point → Part
part_between a b = record {
  left = min a.x b.x;
  top = min a.y b.y;
  right = max a.x b.x;
  bottom = max a.y b.y;
}

abbrev pub part_back : List Turn → Size → Part → Part
part_back ts s part = part_between (undone ts s (point part.left part.top)) (undone ts s (point part.right part.bottom))
