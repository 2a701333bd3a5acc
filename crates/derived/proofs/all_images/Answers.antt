-- `derived::all_images` meets its contract. The loop's invariant: all are images if those from here on are. Assumes nothing.
use Prim.Native.Nat.{◌<◌}
use native.Mathlib.Omega.{arith}
use mathlib.Core.Path.{refl}
use lib.ListN.{length}
use Rattle.rules.specs.Joined.{targets_of}
use Rattle.views.specs.inner.View.{id_of}
use Rattle.derived.proofs.InputLaws.{input-image, images_not, images_more, images_all}
use Rattle.derived.proofs.all_images.Goals as goal

pub returns-then-table-lt-WORDS : goal.returns-then-table-lt-WORDS
returns-then-table-lt-WORDS c = λ head pl f v w h. absurd (omega (arith, v.enough))

pub loop-j-init : goal.loop-j-init
loop-j-init c = λ head pl f v w h. refl

pub returns-then-not-is_image : goal.returns-then-not-is_image
returns-then-not-is_image c =
    λ head pl f v w h.
    let a = c.args in
    let j = c.loop-j.j in
    let l : j < length (targets_of f (id_of f a.row.0)) = omega (arith, c.input_count-n.ensures head pl f v h) in
    images_not f _ j l _ (input-image v a.row.0 j l _ _ _ (c.input_of.ensures head pl f v w h l)
    c.held_word.ensures c.is_image.ensures) (c.if-not-is_image.true)
    (c.loop-j.invariant head pl f v w h)

pub loop-j-preserved : goal.loop-j-preserved
loop-j-preserved c =
    λ head pl f v w h. let a = c.args in let j = c.loop-j.j in
    let l : j < length (targets_of f (id_of f a.row.0)) = omega (arith, c.input_count-n.ensures head pl f v h) in
    images_more f _ j l _ (input-image v a.row.0 j l _ _ _ (c.input_of.ensures head pl f v w h l)
    c.held_word.ensures c.is_image.ensures) (c.if-not-is_image.false)
    (c.loop-j.invariant head pl f v w h)

pub returns : goal.returns
returns c =
    λ head pl f v w h. images_all f _ c.loop-j.j
    (omega (arith, c.input_count-n.ensures head pl f v h)) (c.loop-j.invariant head pl f v w h)
