-- `declared::essentials_known` meets its contract. The loop's invariant: what is left from j on says the same as the
-- whole. Assumes nothing.
use Prim.Native.Nat.{◌<◌}
use native.Mathlib.Omega.{arith}
use mathlib.Core.Path.{refl, sym, ◌∙◌}
use lib.ListN.{length}
use Rattle.rules.specs.Joined.{associations_of}
use Rattle.views.specs.inner.View.{id_of}
use Rattle.declared.proofs.EssentialLaws.{essential-not, essential-known, essential-unknown, essential-none}
use Rattle.declared.proofs.essentials_known.Goals as goal
use
    Rattle.declared.proofs.essentials_known.Goals.{
      else-association_of-ge-ESSENTIAL-via-then-association_of-ge-ESSENTIAL+else-not-is_known,
      else-association_of-ge-ESSENTIAL-via-else-association_of-ge-ESSENTIAL,
    }

pub loop-j-init : goal.loop-j-init
loop-j-init c = λ head pl f v h. refl

pub returns-then-not-is_known : goal.returns-then-not-is_known
returns-then-not-is_known c =
    let a = c.args in
    let q = c.loop-j in
    λ head pl f v h.
    let l : q.j < length (associations_of f (id_of f a.row.0)) =
    omega (arith, c.property_count-n.ensures head pl f v h) in
    sym (q.invariant head pl f v h ∙ essential-unknown v (id_of f a.row.0) q.j l c.association_of.result
    (c.association_of.ensures head pl f v h l) c.if-association_of-ge-ESSENTIAL.true c.kind_of.result
    (c.kind_of.ensures head pl f v h l) c.is_known.result c.is_known.ensures
    (c.if-not-is_known.true))

pub loop-j-preserved : goal.loop-j-preserved
loop-j-preserved c =
    let a = c.args in
    let q = c.loop-j in
    λ head pl f v h. let l : q.j < length (associations_of f (id_of f a.row.0)) =
    omega (arith, c.property_count-n.ensures head pl f v h) in let e = c.association_of.ensures head pl f v h l in
    q.invariant head pl f v h ∙ elim c.else-association_of-ge-ESSENTIAL.branch [
      | else-association_of-ge-ESSENTIAL-via-then-association_of-ge-ESSENTIAL+else-not-is_known z ↦
          essential-known v (id_of f a.row.0) q.j l c.association_of.result e
          z.if-association_of-ge-ESSENTIAL.true z.kind_of.result (z.kind_of.ensures head pl f v h l) z.is_known.result z.is_known.ensures
          z.if-not-is_known.false
      | else-association_of-ge-ESSENTIAL-via-else-association_of-ge-ESSENTIAL z ↦
          essential-not v (id_of f a.row.0) q.j l c.association_of.result e z.if-association_of-ge-ESSENTIAL.false
    ]

pub returns : goal.returns
returns c =
    let a = c.args in
    let q = c.loop-j in
    λ head pl f v h. sym (q.invariant head pl f v h ∙
    essential-none f (associations_of f (id_of f a.row.0)) q.j
    (omega (arith, c.property_count-n.ensures head pl f v h)))
