-- `sizing::tiles_fit` meets its contract. Assumes nothing.
use Prim.Native.Nat.{◌*◌}
use mathlib.Core.Path.{◌≡◌, refl, sym, ap, ◌∙◌}
use lib.Dec.{leb}
use mathlib.Core.Bool.{Bool, ◌&&◌}
use Rattle.pictures.specs.Turn.{size}
use Rattle.pictures.specs.Scene.{picture_at, same_size}
use Rattle.rules.specs.Derivations.{scene_of}
use Rattle.sizing.proofs.SizesLaws.{scene_many, inputs-many, input-size, and-then, and-not, tiles-told}
use native.Mathlib.Omega.{arith}
use Rattle.sizing.proofs.tiles_fit.Goals as goal
use Rattle.sizing.proofs.tiles_fit.Goals.{then-all_size, else-all_size, then-is_covered, else-is_covered}

pub returns-then-is_covered-2 : goal.returns-then-is_covered-2
returns-then-is_covered-2 c =
    λ total head f d h i n.
    let a = c.args in
    let s = scene_of total head f in
    let l = rw (inputs-many d a.row.0 i) at n in
    let wide : c.if-all_size.value ≡ (c.all_size.result && leb a.canvas.wide (c.output_in-tile.result.wide * a.across)) = elim c.if-all_size.branch [
      | then-all_size w ↦ and-then _ _ _ w.if-all_size.true (w.value-is ∙ w.is_covered.ensures)
      | else-all_size w ↦ and-not _ _ _ w.if-all_size.false w.value-is
    ] in
    let high : c.if-is_covered.value ≡ (c.if-all_size.value && leb a.canvas.high (c.output_in-tile.result.high * a.down)) = elim c.if-is_covered.branch [
      | then-is_covered w ↦ and-then _ _ _ w.if-is_covered.true (w.value-is ∙ w.is_covered-then-is_covered.ensures)
      | else-is_covered w ↦ and-not _ _ _ w.if-is_covered.false w.value-is
    ] in
    c.eq.ensures ∙ sym (tiles-told s (picture_at s a.row.0) (record {
      rows = a.down;
      columns = a.across;
      wide = a.canvas.wide;
      high = a.canvas.high;
    }) _ (input-size d a.row.0 i 0 l _ (c.input_of.ensures head _ f d.followed.view d.resolved h l) _ c.output_in-tile.ensures)
    _ _ _ (c.all_size.ensures total head f d h i) wide high _ (c.declared_in.ensures s d.sizes (omega (arith, scene_many total head f)))
    ∙ ap (λ (x : Bool). x && same_size c.declared_in.result (size a.canvas.wide a.canvas.high)) c.if-is_covered-2.true)

pub returns-else-is_covered-2 : goal.returns-else-is_covered-2
returns-else-is_covered-2 c =
    λ total head f d h i n.
    let a = c.args in
    let s = scene_of total head f in
    let l = rw (inputs-many d a.row.0 i) at n in
    let wide : c.if-all_size.value ≡ (c.all_size.result && leb a.canvas.wide (c.output_in-tile.result.wide * a.across)) = elim c.if-all_size.branch [
      | then-all_size w ↦ and-then _ _ _ w.if-all_size.true (w.value-is ∙ w.is_covered.ensures)
      | else-all_size w ↦ and-not _ _ _ w.if-all_size.false w.value-is
    ] in
    let high : c.if-is_covered.value ≡ (c.if-all_size.value && leb a.canvas.high (c.output_in-tile.result.high * a.down)) = elim c.if-is_covered.branch [
      | then-is_covered w ↦ and-then _ _ _ w.if-is_covered.true (w.value-is ∙ w.is_covered-then-is_covered.ensures)
      | else-is_covered w ↦ and-not _ _ _ w.if-is_covered.false w.value-is
    ] in
    c.if-is_covered-2.false ∙ sym (tiles-told s (picture_at s a.row.0) (record {
      rows = a.down;
      columns = a.across;
      wide = a.canvas.wide;
      high = a.canvas.high;
    }) _ (input-size d a.row.0 i 0 l _ (c.input_of.ensures head _ f d.followed.view d.resolved h l) _ c.output_in-tile.ensures)
    _ _ _ (c.all_size.ensures total head f d h i) wide high _ refl
    ∙ ap (λ (x : Bool). x && same_size (picture_at s a.row.0).declared (size a.canvas.wide a.canvas.high)) c.if-is_covered-2.false)
