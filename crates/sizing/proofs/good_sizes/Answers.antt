-- `sizing::good_sizes` meets its contract. Assumes nothing.
use mathlib.Core.Path.{◌≡◌, refl, sym, ap, ◌∙◌}
use mathlib.Core.Bool.{Bool, ◌&&◌}
use Prim.Native.Nat.{◌<◌}
use lib.ListN.{length}
use Rattle.pictures.specs.Scene.{picture_at, output_of, good_size}
use Rattle.rules.specs.Derivations.{scene_of}
use Rattle.sizing.proofs.SizesLaws.{scene_many, and-then, and-not, good-told}
use native.Mathlib.Omega.{arith}
use Rattle.sizing.proofs.good_sizes.Goals as goal
use Rattle.sizing.proofs.good_sizes.Goals.{then-is_made_up, else-is_made_up}

pub returns-then-is_good_size : goal.returns-then-is_good_size
returns-then-is_good_size c =
    λ total f d h i.
    let r = c.args.row.0 in
    let s = scene_of total c.args.head.now f in
    let m : r < length s = omega (arith, scene_many total c.args.head.now f) in
    let x : c.if-is_made_up.value ≡ (c.is_made_up.result && good_size (picture_at s r).declared) = elim c.if-is_made_up.branch [
      | then-is_made_up w ↦ and-then _ _ _ w.if-is_made_up.true (w.value-is ∙ w.is_good_size.ensures ∙ ap good_size (w.declared_in.ensures s d.sizes m))
      | else-is_made_up w ↦ and-not _ _ _ w.if-is_made_up.false w.value-is
    ] in
    c.is_good_size-then-is_good_size.ensures ∙ sym (good-told s (picture_at s r) _ _ (c.is_made_up.ensures total f d h i) x _
    (c.output_in.ensures s d.sizes m) ∙ ap (λ (y : Bool). y && good_size c.output_in.result) c.if-is_good_size.true)

pub returns-else-is_good_size : goal.returns-else-is_good_size
returns-else-is_good_size c =
    λ total f d h i.
    let r = c.args.row.0 in
    let s = scene_of total c.args.head.now f in
    let m : r < length s = omega (arith, scene_many total c.args.head.now f) in
    let x : c.if-is_made_up.value ≡ (c.is_made_up.result && good_size (picture_at s r).declared) = elim c.if-is_made_up.branch [
      | then-is_made_up w ↦ and-then _ _ _ w.if-is_made_up.true (w.value-is ∙ w.is_good_size.ensures ∙ ap good_size (w.declared_in.ensures s d.sizes m))
      | else-is_made_up w ↦ and-not _ _ _ w.if-is_made_up.false w.value-is
    ] in
    c.if-is_good_size.false ∙ sym (good-told s (picture_at s r) _ _ (c.is_made_up.ensures total f d h i) x _
    refl ∙ ap (λ (y : Bool). y && good_size (output_of (picture_at s r))) c.if-is_good_size.false)
