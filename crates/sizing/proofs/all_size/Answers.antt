-- `sizing::all_size` meets its contract. The loop's invariant: all have the size if those from here on have it. Assumes nothing.
use Prim.Native.Nat.{◌<◌}
use mathlib.Core.Path.{refl, sym, ap}
use lib.ListN.{length}
use Rattle.std.proofs.lemmas.Bool.{not-true, not-false}
use Rattle.pictures.specs.declared.Size.{Size}
use Rattle.pictures.specs.Scene.{picture_at, same_size}
use Rattle.rules.specs.Joined.{targets_of}
use Rattle.rules.specs.Derivations.{scene_of}
use Rattle.views.specs.inner.View.{id_of}
use Rattle.sizing.proofs.SizesLaws.{size-other, size-more, size-all, inputs-many, input-size}
use native.Mathlib.Omega.{arith}
use Rattle.sizing.proofs.all_size.Goals as goal

pub returns-then-table-lt-WORDS : goal.returns-then-table-lt-WORDS
returns-then-table-lt-WORDS c = λ total head f d h i. absurd (omega (arith, d.followed.view.enough))

pub loop-j-init : goal.loop-j-init
loop-j-init c = λ total head f d h i. refl

pub returns-then-ne : goal.returns-then-ne
returns-then-ne c =
    λ total head f d h i.
    let r = c.args.row.0 in
    let j = c.loop-j.j in
    let l : j < length (targets_of f (id_of f r)) = omega (arith, c.input_count-n.ensures head _ f d.followed.view h) in
    let k : j < length (picture_at (scene_of total head f) r).inputs = omega (arith, inputs-many d r i) in
    size-other (scene_of total head f) _ _ j k _ (ap (λ (y : Size). same_size y c.args.z) (input-size d r i j l _
    (c.input_of.ensures head _ f d.followed.view d.resolved h l) _ c.held_output.ensures))
    (not-true _ (sym c.if-ne.ensures)) (c.loop-j.invariant total head f d h i)

pub loop-j-preserved : goal.loop-j-preserved
loop-j-preserved c =
    λ total head f d h i.
    let r = c.args.row.0 in
    let j = c.loop-j.j in
    let l : j < length (targets_of f (id_of f r)) = omega (arith, c.input_count-n.ensures head _ f d.followed.view h) in
    let k : j < length (picture_at (scene_of total head f) r).inputs = omega (arith, inputs-many d r i) in
    size-more (scene_of total head f) _ _ j k _ (ap (λ (y : Size). same_size y c.args.z) (input-size d r i j l _
    (c.input_of.ensures head _ f d.followed.view d.resolved h l) _ c.held_output.ensures))
    (not-false _ (sym c.if-ne.ensures)) (c.loop-j.invariant total head f d h i)

pub returns : goal.returns
returns c =
    λ total head f d h i. size-all (scene_of total head f) _ _ c.loop-j.j
    (omega (arith, c.input_count-n.ensures head _ f d.followed.view h, inputs-many d c.args.row.0 i))
    (c.loop-j.invariant total head f d h i)
