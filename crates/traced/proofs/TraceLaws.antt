-- Traces over the table of an accepted file. Assumes nothing.
use Prim.Native.Nat.{ℕ, ◌<◌, ◌≤◌}
use mathlib.Core.Path.{◌≡◌, refl, sym, subst}
use mathlib.Core.List.{List}
use mathlib.Core.Bool.{true}
use mathlib.Core.Logic.{◌⊎◌, inl, inr}
use lib.ListN.{length}
use borrow.Author.Tests.{lt-ltb, le-ltb}
use Rattle.std.specs.Prelude.{Ok, Err}
use Rattle.table.specs.declared.ItemId.{ItemId}
use Rattle.boxes.specs.Answer.{ok, check, ◌>>=◌, ◌>>◌}
use Rattle.boxes.specs.Types.{image}
use Rattle.boxes.specs.declared.Refusal.{Refusal}
use Rattle.contents.specs.File.{File}
use Rattle.pictures.specs.declared.Size.{Size}
use Rattle.pictures.specs.declared.Point.{Point}
use Rattle.pictures.specs.Turn.{Inside}
use Rattle.pictures.specs.Scene.{Scene, picture_at, output_of}
use Rattle.pictures.specs.Trace as Trace
use Rattle.pictures.proofs.PathLaws.{Asked, Ends, path_ends, has_path, trace-is}
use Rattle.rules.specs.Joined.{item_at}
use Rattle.rules.specs.Derivations.{scene_of}
use Rattle.rules.specs.Opening.{pictured, listed}
use Rattle.questions.specs.Questions.{found_by, trace_in}
use Rattle.rules.proofs.DerivationLaws.{shaped-drawn}
use Rattle.rules.proofs.SceneLaws.{inputs-fed}
use Rattle.views.specs.inner.View.{SizesAre}
use Rattle.judging.proofs.SceneLaws.{scene_long}
use Rattle.tracing.specs.inner.Told.{Shown, told_end, told_end_by}
use Rattle.tracing.specs.declared.End.{End}
use Rattle.tracing.specs.declared.End.TheVariants as end
use Rattle.asked.proofs.PicturedLaws.{picture-listed, picture-image}
use Rattle.traced.specs.Told.{end_row, told_found, told_traced}
use Rattle.traced.specs.declared.Traced.{Traced}
use Rattle.traced.specs.declared.Traced.TheVariants as traced

-- the row of an end, as the code has it
abbrev row_of : End → ℕ
row_of (end.Pixel r p n) = r.0
row_of (end.Fill r p n) = r.0

-- told_end: an end by the ID of its item
abbrev traced-by : ItemId → End → Traced
traced-by i (end.Pixel r p n) = traced.Pixel i p.x p.y n
traced-by i (end.Fill r p n) = traced.Fill i p.x p.y n

pub end-told : (f : File) (x : Trace.Traced) (y : End) → y ≡ told_end x → (i : ItemId) →
    (end_row x.end ≡ row_of y → i.0 ≡ (item_at f (row_of y)).id) →
    Ok (traced-by i y) ≡ told_traced (ok (found_by f x.passed x.end))
unfolding told_end_by told_traced told_found found_by
end-told f x y e i q = subst (λ (y : End). (end_row x.end ≡ row_of y → i.0 ≡ (item_at f (row_of y)).id) →
    Ok (traced-by i y) ≡ told_traced (ok (found_by f x.passed x.end))) (sym e) (by x.end) q
  where
    by : (z : Trace.End) → (end_row z ≡ row_of (told_end_by z x.passed) →
        i.0 ≡ (item_at f (row_of (told_end_by z x.passed))).id) →
        Ok (traced-by i (told_end_by z x.passed)) ≡ told_traced (ok (found_by f x.passed z))
    by (Trace.pixel k a) q = rw (← q refl)
    by (Trace.fill k a) q = rw (← q refl)

-- trace_in
module _ {t rows head : List ℕ} {total : ℕ} {f : File} (w : Shown t rows head total f) (id : ℕ) (p : Point) where
  abbrev s : Scene
  s = scene_of total head f

  module _ (r : ℕ) (is_row : pictured f id ≡ ok r) where
    pub trace-row : r < length f.items
    trace-row = picture-listed f id r is_row

    pub trace-image : image (item_at f r).type ≡ true
    trace-image = picture-image f id r is_row

    -- z is the output size that the table has
    module _ (z : Size) (ez : (s : Scene) → SizesAre t s → r < length s → z ≡ output_of (picture_at s r)) where
      output-is : z ≡ output_of (picture_at s r)
      output-is = ez s w.sizes (rw (scene_long total head f) trace-row)

      -- 23
      pub trace-outside : (z.wide ≤ p.x) ⊎ ((p.x < z.wide) × (z.high ≤ p.y)) → (y : Refusal) → y.number ≡ 23 → y.place ≡ id →
          Err y ≡ told_traced (trace_in s f id p)
      unfolding trace_in ◌>>=◌ ◌>>◌ check told_traced
      trace-outside (inl h) y n q = rw (is_row, ← output-is, le-ltb p.x z.wide h, ← n, ← q)
      trace-outside (inr h) y n q = rw (is_row, ← output-is, lt-ltb p.x z.wide h.0, le-ltb p.y z.high h.1, ← n, ← q)

      pub on-output : p.x < z.wide → p.y < z.high → Inside (output_of (picture_at s r)) p
      on-output h l = rw (← output-is) (record { in_x = h; in_y = l })

    module _ (i : Inside (output_of (picture_at s r)) p) where
      asked : Asked s r p
      asked =
          record {
            listed = rw (scene_long total head f) trace-row;
            drawn = shaped-drawn _ _ (inputs-fed total head f r trace-image (w.fed r trace-row)).0;
            on-output = i;
          }

      ends : Ends s (Trace.trace s r p).end
      ends =
          let x = has_path s w.good asked in
          subst (λ (y : Trace.Traced). Ends s y.end) (sym (trace-is s w.good x.path).0) (path_ends x.path)

      pub end-listed : end_row (Trace.trace s r p).end < length f.items
      end-listed = rw (← scene_long total head f) (by (Trace.trace s r p).end ends)
        where
          by : (y : Trace.End) → Ends s y → end_row y < length s
          by (Trace.pixel k a) h = h.0
          by (Trace.fill k a) h = h.0

      pub trace-inside : told_traced (ok (found_by f (Trace.trace s r p).passed (Trace.trace s r p).end)) ≡ told_traced (trace_in s f id p)
      unfolding trace_in ◌>>=◌ ◌>>◌ check
      trace-inside = rw (is_row, lt-ltb p.x (output_of (picture_at s r)).wide i.in_x, lt-ltb p.y (output_of (picture_at s r)).high i.in_y)
