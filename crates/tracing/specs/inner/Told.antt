-- The code's values for what lies beneath a point and for the end of a trace, and what is known where they are asked for.
--   Shown t rows head total f     the table t is that of a file f whose pictures keep the rules, and rows has the row of each target
--   OffsetsIn o bytes os          the bytes o spell the offsets os one after another, in numbers of so many bytes; what lies behind them does not matter
--   first_transform ks             of a list of property types, the place of the first transform; how many there are where none is one
--   told_source, told_end
use Rattle.std.specs.Prelude.{◌≡◌, ℕ, suc, ◌+◌, ◌*◌, ◌<◌, List, [], ◌∷◌, length, slice_index_or}
use Rattle.fields.specs.Choice.{pick}
use Rattle.fields.specs.Field.{be_at}
use Rattle.contents.specs.File.{File}
use Rattle.pictures.specs.Signed.{signed}
use Rattle.pictures.specs.Recipe.{Offset}
use Rattle.pictures.specs.Decode.{transform}
use Rattle.pictures.specs.inner.GoodScene.{GoodScene}
use Rattle.pictures.specs.Trace.{here, blank, input, pixel, fill, Traced}
use Rattle.pictures.specs.Trace as Trace
use Rattle.rules.specs.Derivations.{scene_of}
use Rattle.views.specs.inner.View.{SizesAre, AllFed}
use Rattle.derived.specs.inner.Told.{Resolved, Followed}
use Rattle.tracing.specs.declared.Source.{Source}
use Rattle.tracing.specs.declared.Source.TheVariants as source
use Rattle.tracing.specs.declared.End.{End}
use Rattle.tracing.specs.declared.End.TheVariants as end

pub record Shown (t rows head : List ℕ) (total : ℕ) (f : File) : Type 0 where
  pub followed : Followed t rows head total f
  pub sizes : SizesAre t (scene_of total head f)
  pub good : GoodScene (scene_of total head f)
  pub fed : AllFed total head f
  pub resolved : Resolved t rows f

abbrev pub OffsetsIn : List ℕ → ℕ → List Offset → Type 0
OffsetsIn o bytes os = (k : ℕ) → k < length os → (d : Offset) →
    slice_index_or os k d ≡ record { right = signed bytes (be_at o (2 * bytes * k) bytes); down = signed bytes (be_at o (2 * bytes * k + bytes) bytes) }

unfoldable pub first_transform : List ℕ → ℕ
first_transform [] = 0
first_transform (k ∷ ks) = pick (transform k) 0 (suc (first_transform ks))

unfoldable pub told_source : Trace.Source → Source
told_source here = source.Here
told_source blank = source.Blank
told_source (input i p) = source.Input (record { 0 = i }) p

unfoldable pub told_end_by : Trace.End → ℕ → End
told_end_by (pixel i p) n = end.Pixel (record { 0 = i }) p n
told_end_by (fill i p) n = end.Fill (record { 0 = i }) p n

abbrev pub told_end : Traced → End
told_end t = told_end_by t.end t.passed
