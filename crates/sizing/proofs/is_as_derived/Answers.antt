-- `sizing::is_as_derived` meets its contract. Assumes nothing.
use mathlib.Core.Path.{sym, ap, ◌∙◌}
use Rattle.std.specs.Prelude.{Some}
use Rattle.rules.specs.Derivations.{scene_of}
use Rattle.sizing.proofs.SizesLaws.{scene_many, made-read, made-copy, made_tiles, made_layers, fed-known}
use native.Mathlib.Omega.{arith}
use Rattle.sizing.proofs.is_as_derived.Goals as goal

pub returns-in-None : goal.returns-in-None
returns-in-None c =
    λ total f d h i y.
    let a = c.args in
    made-read d a.row.0 i h y _ (c.in-None.ensures total f d.followed h (fed-known d a.row.0 i h y) y)

pub returns-in-Some-Copy : goal.returns-in-Some-Copy
returns-in-Some-Copy c =
    λ total f d h i y.
    let a = c.args in
    made-copy d a.row.0 i h y (ap Some (sym c.in-Some-Copy.field-0-is) ∙ c.in-Some-Copy.ensures total f d.followed h (fed-known d a.row.0 i h y) y)
    _ (c.input_of.ensures _ _ f d.followed.view d.resolved h) _ _
    (c.declared_in.ensures (scene_of total a.head.now f) d.sizes
    (omega (arith, scene_many total a.head.now f))) c.output_in.ensures _ c.eq.ensures

pub returns-in-Some-Tiles : goal.returns-in-Some-Tiles
returns-in-Some-Tiles c =
    λ total f d h i y.
    let a = c.args in
    made_tiles d a.row.0 i h y _ _ _ _ (ap Some (sym c.in-Some-Tiles.field-0-is) ∙ c.in-Some-Tiles.ensures total f d.followed h (fed-known d a.row.0 i h y) y)
    _ (c.tiles_fit.ensures total _ f d h i)

pub returns-in-Some-Layers : goal.returns-in-Some-Layers
returns-in-Some-Layers c =
    λ total f d h i y.
    let a = c.args in
    made_layers d a.row.0 i h y _ _ (ap Some (sym c.in-Some-Layers.field-0-is) ∙ c.in-Some-Layers.ensures total f d.followed h (fed-known d a.row.0 i h y) y)
    _ (c.declared_in-in-Some-Layers.ensures (scene_of total a.head.now f) d.sizes
    (omega (arith, scene_many total a.head.now f))) _ c.eq-in-Some-Layers.ensures
